-- The slot on the key's side is written, in the gate or in the cell.
use Rattle.std.proofs.Common.{◌≡◌, true, cond, sym, ap, ◌∙◌, subst, arith, rules}
use mathlib.Core.Logic.{∥∥₁_map}
use Rattle.rules.specs.Kinds.{kinds_of}
use Rattle.rules.specs.Moves.{with_slot_for}
use Rattle.rules.specs.Queues.{given}
use Rattle.cells.specs.Names.{CellNamed}
use Rattle.board.specs.Cells.{live, names, slot_of}
use Rattle.board.specs.Of.{board_state}
use Rattle.board.proofs.Named.{cell_named, slot-named}
use Rattle.board.proofs.Boards.{changed_as}
use Rattle.board.proofs.Places.{given-count, cell_slotted, slotted_named, slot-put}
use Rattle.board.proofs.board.Board.put_slot.Goals as goal

pub invariant_of-self : goal.invariant_of-self
invariant_of-self g c = let b = c.args.self.now in record { room = (omega arith, omega arith); eight = b.eight; named = ∥∥₁_map b.named (λ old. (slot-named b.count c.args.slot (sym c.is_named.ensures ∙ c.if-not-is_named.false), old.1)) }

pub change-requires-clause-named : goal.change-requires-clause-named
change-requires-clause-named g c = λ x y e p.
    let b = c.args.self.now in
    let is : y ≡ cell_slotted g.K.Key g.T.Tally x c.side_of-side.result c.args.slot = search rules in
    ∥∥₁_map b.named (λ old. subst (CellNamed b.count) (sym is) (slotted_named g.K.Key g.T.Tally b.count x c.side_of-side.result c.args.slot (cell_named b.count (live b) c.args.number x old.1 e) (slot-named b.count c.args.slot (sym c.is_named.ensures ∙ c.if-not-is_named.false))))

pub returns : goal.returns
returns g c =
    let b = c.args.self.now in
    let s = board_state g.K.Key g.T.Tally b in
    let told : names (given s) c.args.slot ≡ true = ap (λ n. names n c.args.slot) (given-count g.K.Key g.T.Tally b (omega arith)) ∙ sym c.is_named.ensures ∙ c.if-not-is_named.false in
    let now = changed_as g.K.Key g.T.Tally b c.change.new.self c.args.number _ (λ x. cell_slotted g.K.Key g.T.Tally x c.side_of-side.result c.args.slot) c.change.ensures (λ x y p. search rules) in
    let t = slot-put g.K.Key g.T.Tally b c.change.new.self c.args.number c.args.key c.in-Some.split c.side_of-side.result c.args.slot (sym c.in-Some.ensures) c.side_of-side.ensures now in
    record {
      after = t.after ∙ ap (λ v. cond v (with_slot_for (kinds_of g.K.Key g.T.Tally) s c.args.number c.args.key (slot_of g.K.Key g.T.Tally b c.args.slot)) s) (sym told);
      row = t.row;
    }
