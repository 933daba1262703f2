-- No slot is left, so that no key is.
use Rattle.std.proofs.Common.{ap, ◌∙◌}
use Rattle.reading.specs.Walks.{firsts_named}
use Rattle.reading.proofs.walk.FirstsIterator.next.Goals as goal

pub returns : goal.returns
returns g c = record {
  steps = (c.loop-at.invariant.2 ∙ ap (firsts_named c.loop-at.self.live.now) c.in_default.ensures.steps.0, ap (firsts_named c.loop-at.self.live.now) c.in_default.ensures.steps.1);
  goes = record { on = λ _. tt; keeps = tt; rests = λ _. tt };
}
