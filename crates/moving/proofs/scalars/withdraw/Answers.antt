-- What is left where the slot holds nothing, a key or a place.
use Rattle.std.proofs.Common.{sym, ap, ◌∙◌}
use Rattle.rules.specs.Kinds.{kinds_of}
use Rattle.rules.specs.Moves.{with_joined}
use Rattle.board.specs.Of.{board_state}
use Rattle.moving.proofs.Passed.{withdrawn_key, withdrawn_place}
use Rattle.moving.proofs.scalars.withdraw.Goals as goal

pub returns-in-Key : goal.returns-in-Key
returns-in-Key g c =
    let b = c.args.board.now in
    let met = sym c.met.ensures ∙ c.in-Key.is in
    record {
      after = λ num may. withdrawn_key g.K.Key g.T.Tally b c.args.number c.args.place c.args.key c.slot_for-slot.result c.slot_for-slot.ensures c.put_slot.new.self c.answer.new.self c.in-Key.field-0 c.in-Key.field-1 met num c.put_slot.ensures.after c.answer.ensures.after;
      row = c.answer.ensures.row ∙ c.put_slot.ensures.row;
    }

pub returns-in-Place : goal.returns-in-Place
returns-in-Place g c =
    let b = c.args.board.now in
    let met = sym c.met.ensures ∙ c.in-Place.is in
    record {
      after = λ num may. withdrawn_place g.K.Key g.T.Tally b c.args.number c.args.place c.args.key c.slot_for-slot.result c.slot_for-slot.ensures c.join_tally.new.self c.join.new.self c.in-Place.next met num may (c.join_tally.ensures.after ∙ ap (λ v. with_joined (kinds_of g.K.Key g.T.Tally) (board_state g.K.Key g.T.Tally b) c.in-Place.next v) (c.opposite.ensures ∙ ap g.T.Tally.opposed c.weight.ensures)) c.join.ensures.after;
      row = c.join.ensures.row ∙ c.join_tally.ensures.row;
    }
