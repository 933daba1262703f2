-- The decision is written, then the note dropped.
use Rattle.std.proofs.Common.{refl, ap, ◌∙◌}
use Rattle.rules.specs.declared.note.Note.TheVariants as note
use Rattle.rules.specs.Changes.{with_decision, with_note}
use Rattle.board.specs.Of.{board_state}
use Rattle.moving.proofs.Kept.{given_then}
use Rattle.carrying.proofs.slots.decide.Goals as goal

pub returns : goal.returns
returns g c =
    let s = board_state g.K.Key g.T.Tally c.args.board.now in
    record {
      answer = refl;
      turns = record {
        after = λ r num.
            c.set_note.ensures.after
            ∙ ap (λ v. with_note v c.args.station.number note.None) (c.decide.ensures.after ∙ given_then s c.args.number r (with_decision s c.args.number c.args.present) num);
        row = c.set_note.ensures.row ∙ c.decide.ensures.row;
      };
    }
