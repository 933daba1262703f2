-- Where no decision is wanted the head moves, and the note is dropped.
use Rattle.std.proofs.Common.{◌≡◌, None, sym, ap, ◌∙◌}
use Rattle.rules.specs.declared.carried.Carried.{Carried}
use Rattle.rules.specs.declared.note.Note.TheVariants as note
use Rattle.rules.specs.Carries.{sought}
use Rattle.rules.specs.Changes.{with_note}
use Rattle.rules.specs.Kinds.{kinds_of}
use Rattle.rules.specs.States.{State, Waiter}
use Rattle.board.specs.Of.{board_state}
use Rattle.carrying.specs.Notes.{gate_key}
use Rattle.carrying.proofs.Heads.{head_moves}
use Rattle.carrying.proofs.carry.carry_head.Goals as goal

pub returns-in-None : goal.returns-in-None
returns-in-None g c =
    let s = board_state g.K.Key g.T.Tally c.args.board.now in
    let key : (e : Waiter) → e.number ≡ c.args.number → gate_key c.args.place (sought c.args.request) (s.decision e.number) ≡ None =
    λ e is. ap (λ i. gate_key c.args.place (sought c.args.request) (s.decision i)) is ∙ ap (gate_key c.args.place (sought c.args.request)) (sym c.decision.ensures) ∙ sym c.gate_key.ensures ∙ c.in-None.is in
    record {
      answer = λ e is. ap (λ (v : Carried × State g.row.K.Denot g.row.T.Denot). v.0) (head_moves (kinds_of g.K.Key g.T.Tally) s c.args.station.number c.args.place e c.args.request (key e is));
      turns = record {
        after = λ sound e q line is num.
            c.set_note.ensures.after
            ∙ ap (λ v. with_note v c.args.station.number note.None) (c.move_head.ensures.after sound e q line is (sym (c.head_mode-mode.ensures.head e q line is)) num)
            ∙ ap (λ (v : Carried × State g.row.K.Denot g.row.T.Denot). v.1) (head_moves (kinds_of g.K.Key g.T.Tally) s c.args.station.number c.args.place e c.args.request (key e is));
        row = c.set_note.ensures.row ∙ c.move_head.ensures.row;
      };
    }
