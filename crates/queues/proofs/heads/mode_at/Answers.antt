-- The head's mode is the one that its cell has.
use Rattle.std.proofs.Common.{ap, ◌∙◌}
use Rattle.cells.specs.Rosters.{mode_at}
use Rattle.queues.proofs.Standing.{head_mode}
use Rattle.queues.proofs.heads.mode_at.Goals as goal

pub returns : goal.returns
returns g c =
    let here = c.at.ensures ∙ ap (λ w. mode_at w c.args.place) c.waits.ensures in
    record {
      answer = here;
      head = λ e q line is. here ∙ head_mode g.K.Key g.T.Tally c.args.board.now c.args.place c.args.number e q line is;
    }
