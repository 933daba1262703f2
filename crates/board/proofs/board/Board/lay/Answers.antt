-- A cell behind those that count is written; what the others name is as it was.
use Rattle.std.proofs.Common.{sym, refl, subst, arith, length-set}
use mathlib.Core.Logic.{∥∥₁_map}
use lib.Seq.{set_out, take-set-le}
use Rattle.cells.specs.Names.{CellsNamed}
use Rattle.board.proofs.board.Board.lay.Goals as goal

pub invariant_of-self : goal.invariant_of-self
invariant_of-self g c =
    let b = c.args.self.now in
    let long = length-set b.cells.now b.count c.args.cell in
    let front = take-set-le b.count b.cells.now b.count c.args.cell (omega arith) in record {
      room = (omega arith, omega arith);
      eight = b.eight;
      named = ∥∥₁_map b.named (λ old. (old.0, subst (CellsNamed b.count) (sym front) old.1));
    }

pub returns-else-at-self : goal.returns-else-at-self
returns-else-at-self g c =
    let b = c.args.self.now in
    record { cells = sym (set_out b.cells.now b.count c.args.cell c.if-at-self.false); count = refl; gate = refl; desks = refl }
