-- The station's request is unfinished where it waits somewhere.
use Rattle.std.proofs.Common.{◌≡◌, Bool, true, false, not, is_some, Some, None, refl, ap, ◌∙◌}
use Rattle.rules.specs.Queues.{finished}
use Rattle.board.specs.Of.{board_state}
use Rattle.queues.proofs.finishing.holds_unfinished.Goals as goal

twice : (b : Bool) → b ≡ not (not b)
twice true = refl
twice false = refl

pub returns : goal.returns
returns g c = λ sound.
    let s = board_state g.K.Key g.T.Tally c.args.board.now in
    c.is_some.ensures ∙ ap is_some (c.waiting_place.ensures sound) ∙ twice _
    ∙ ap (λ o. elim o as (λ _. Bool) [ None ↦ false | Some t ↦ not (finished s t) ]) c.in-Some.ensures
