-- What is left where the slot holds nothing, a key or a place.
use Rattle.std.proofs.Common.{sym, ap, ◌∙◌}
use Rattle.rules.specs.Kinds.{kinds_of}
use Rattle.rules.specs.Moves.{with_joined}
use Rattle.board.specs.Of.{board_state}
use Rattle.moving.proofs.Passed.{entered_empty, entered_key, entered_place}
use Rattle.moving.proofs.scalars.enter.Goals as goal

pub returns-in-Nothing : goal.returns-in-Nothing
returns-in-Nothing g c =
    let b = c.args.board.now in
    let met = sym c.met.ensures ∙ c.in-Nothing.is in
    record {
      after = λ num may. entered_empty g.K.Key g.T.Tally b c.args.number c.args.place c.args.key c.slot_for-slot.result c.slot_for-slot.ensures c.put_slot.new.self c.answer.new.self met num c.put_slot.ensures.after c.answer.ensures.after;
      row = c.answer.ensures.row ∙ c.put_slot.ensures.row;
    }

pub returns-in-Key : goal.returns-in-Key
returns-in-Key g c =
    let b = c.args.board.now in
    let met = sym c.met.ensures ∙ c.in-Key.is in
    record {
      after = λ num may. entered_key g.K.Key g.T.Tally b c.args.number c.args.place c.args.key c.slot_for-slot.result c.slot_for-slot.ensures c.put_slot-in-Key.new.self c.make.new.self c.answer-in-Key.new.self c.in-Key.name c.in-Key.field-1 met num c.put_slot-in-Key.ensures.after c.make.ensures.after c.answer-in-Key.ensures.after;
      row = c.answer-in-Key.ensures.row ∙ c.make.ensures.row ∙ c.put_slot-in-Key.ensures.row;
    }

pub returns-in-Place : goal.returns-in-Place
returns-in-Place g c =
    let b = c.args.board.now in
    let met = sym c.met.ensures ∙ c.in-Place.is in
    record {
      after = λ num may. entered_place g.K.Key g.T.Tally b c.args.number c.args.place c.args.key c.slot_for-slot.result c.slot_for-slot.ensures c.join_tally.new.self c.join.new.self c.in-Place.next met num may (c.join_tally.ensures.after ∙ ap (λ v. with_joined (kinds_of g.K.Key g.T.Tally) (board_state g.K.Key g.T.Tally b) c.in-Place.next v) c.weight.ensures) c.join.ensures.after;
      row = c.join.ensures.row ∙ c.join_tally.ensures.row;
    }
