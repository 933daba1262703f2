-- One cell is written, or none where no request has the number; what cells name is as before.
use Rattle.std.proofs.Common.{◌≡◌, ◌-◌, ◌<◌, length, take, set, sym, refl, ap, subst, arith, length-set, rules}
use mathlib.Core.Logic.{∥∥₁_map₂}
use lib.Seq.{take-set-lt}
use Rattle.cells.specs.Names.{CellsNamed}
use Rattle.board.proofs.Named.{cells-named-set}
use Rattle.board.proofs.Boards.{live_range, changed_by}
use Rattle.board.proofs.board.Board.change.Goals as goal

pub overflow_sub-from : goal.overflow_sub-from
overflow_sub-from g c = let range = live_range g.K.Key g.T.Tally c.args.self.now c.args.number c.in-Some.field-0.now (sym c.in-Some.ensures) in omega (arith, c.from.ensures)

pub offset_bounds-self-from : goal.offset_bounds-self-from
offset_bounds-self-from g c =
    let range = live_range g.K.Key g.T.Tally c.args.self.now c.args.number c.in-Some.field-0.now (sym c.in-Some.ensures) in
    let i : c.from.result - 1 < length c.args.self.now.cells.now = omega (arith, c.from.ensures) in search rules

pub bounds-self-from : goal.bounds-self-from
bounds-self-from g c = let range = live_range g.K.Key g.T.Tally c.args.self.now c.args.number c.in-Some.field-0.now (sym c.in-Some.ensures) in omega (arith, c.from.ensures)

pub invariant_of-self : goal.invariant_of-self
invariant_of-self g c =
    let b = c.args.self.now in
    let e = sym c.in-Some.ensures in
    let range = live_range g.K.Key g.T.Tally b c.args.number c.in-Some.field-0.now e in
    let i = c.from.result - 1 in
    let long = length-set b.cells.now i c.change.result in
    let low : i < b.count = omega (arith, c.from.ensures) in
    let front : take b.count (set b.cells.now i c.change.result) ≡ set (take b.count b.cells.now) i c.change.result = take-set-lt b.count b.cells.now i c.change.result low in record {
      room = (omega arith, omega arith);
      eight = b.eight;
      named = ∥∥₁_map₂ b.named (c.requires.named c.in-Some.field-0.now c.change.result e c.change.ensures) (λ old new. (old.0, subst (CellsNamed b.count) (sym front) (cells-named-set b.count (take b.count b.cells.now) i c.change.result old.1 new)));
    }

pub returns : goal.returns
returns g c =
    let b = c.args.self.now in
    changed_by g.K.Key g.T.Tally b _ c.args.number _ c.in-Some.field-0.now c.change.result (sym c.in-Some.ensures) c.change.ensures (record { cells = ap (λ v. set b.cells.now (v - 1) c.change.result) c.from.ensures; count = refl; gate = refl; desks = refl })
