-- The lowest place is the lesser of those that the cell has.
use Rattle.std.proofs.Common.{ap, ◌∙◌}
use Rattle.queues.specs.Waiting.{least_place}
use Rattle.queues.proofs.Lowest.{waiting_least}
use Rattle.queues.proofs.waiting.waiting_place.Goals as goal

pub returns : goal.returns
returns g c = λ h. c.least_place.ensures ∙ ap least_place c.waits.ensures ∙ waiting_least g.K.Key g.T.Tally c.args.board.now h c.args.number
