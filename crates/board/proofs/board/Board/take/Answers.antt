-- A request more, or none where the board is full.
use Rattle.std.proofs.Common.{◌≡◌, suc, ◌+◌, ◌<◌, min, true, false, cond, leb, List, length, get_or, take, set, Some, None, sym, refl, ap, ◌∙◌, subst, add-one, arith, length-set}
use mathlib.Core.HLevel.{×_prop}
use mathlib.Core.Logic.{∥∥₁_map, ∥∥₁_elim}
use Rattle.rules.specs.declared.note.Note.TheVariants as note
use Rattle.rules.specs.Queues.{given}
use Rattle.cells.specs.declared.desk.Desk.{Desk}
use Rattle.cells.specs.Names.{SlotNamed, CellsNamed, CellNamed}
use Rattle.cells.specs.Views.{state_shown}
use Rattle.board.specs.Of.{board_state}
use Rattle.board.specs.Taken.{fresh_cell, taken}
use Rattle.board.proofs.Named.{slot-named_prop, cells-named_prop, slot-named_more}
use Rattle.board.proofs.Places.{given-count}
use Rattle.board.proofs.Taken.{taken_state, taken-named}
use Rattle.board.proofs.board.Board.take.Goals as goal

pub returns-then-count-capacity : goal.returns-then-count-capacity
returns-then-count-capacity g c =
    let b = c.args.self.now in
    let s = board_state g.K.Key g.T.Tally b in
    let full : leb (min 1024 (length b.cells.now)) (given s) ≡ true = let h = given-count g.K.Key g.T.Tally b (omega arith) in let e = c.capacity.ensures in let l = c.if-count-capacity.true in grind arith in
    record { after = ap (λ v. cond v s (taken s c.args.station.number c.args.request)) (sym full); row = refl }

pub invariant_of-self : goal.invariant_of-self
invariant_of-self g c =
    let b = c.args.self.now in
    let e = c.capacity.ensures in
    let room : b.count < length b.cells.now = omega arith in
    let fresh : c.fresh.result ≡ fresh_cell g.K.Key g.T.Tally c.args.station.number c.args.request = c.fresh.ensures in
    let own : CellNamed (suc b.count) c.fresh.result = subst (CellNamed (suc b.count)) (sym fresh) (tt, tt, tt) in
    let r = c.lay.ensures in
    let long : length c.lay.new.self.cells.now ≡ length b.cells.now = ap length r.cells ∙ length-set b.cells.now b.count c.fresh.result in record {
      room = (omega arith, omega arith);
      eight = length-set c.lay.new.self.desks c.desk_of.result (record { note = (get_or c.lay.new.self.desks c.desk_of.result (record { note = note.None; uncollected = None })).note; uncollected = Some (b.count + 1) }) ∙ ap length r.desks ∙ b.eight;
      named = ∥∥₁_map b.named (λ old. (
        subst (SlotNamed (b.count + 1)) (sym r.gate) (subst (λ v. SlotNamed v b.gate) (sym (add-one b.count)) (slot-named_more b.count b.gate old.0)),
        subst (λ v. CellsNamed (b.count + 1) (take (b.count + 1) v)) (sym r.cells) (taken-named g.K.Key g.T.Tally b room c.fresh.result own old.1),
      ));
    }

pub returns : goal.returns
returns g c =
    let b = c.args.self.now in
    let s = board_state g.K.Key g.T.Tally b in
    let e = c.capacity.ensures in
    let room : b.count < length b.cells.now = omega arith in
    let known = c.args.station.known in
    let fresh : c.fresh.result ≡ fresh_cell g.K.Key g.T.Tally c.args.station.number c.args.request = c.fresh.ensures in
    let r = c.lay.ensures in
    let more : leb (min 1024 (length b.cells.now)) (given s) ≡ false = let h = given-count g.K.Key g.T.Tally b (omega arith) in let l = c.if-count-capacity.false in grind arith in
    let names = ∥∥₁_elim b.named (×_prop (slot-named_prop b.count b.gate) (cells-named_prop b.count (take b.count b.cells.now))) (λ v. v) in
    let desk : List Desk → Desk = λ row. record { note = (get_or row c.desk_of.result (record { note = note.None; uncollected = None })).note; uncollected = Some (b.count + 1) } in
    record {
      after = ap (λ v. state_shown g.K.Key g.T.Tally v (b.count + 1) c.lay.new.self.gate (set c.lay.new.self.desks c.desk_of.result (desk c.lay.new.self.desks))) r.cells
          ∙ ap (λ v. state_shown g.K.Key g.T.Tally (set b.cells.now b.count c.fresh.result) (b.count + 1) v (set c.lay.new.self.desks c.desk_of.result (desk c.lay.new.self.desks))) r.gate
          ∙ ap (λ v. state_shown g.K.Key g.T.Tally (set b.cells.now b.count c.fresh.result) (b.count + 1) b.gate (set v c.desk_of.result (desk v))) r.desks
          ∙ ap (λ v. state_shown g.K.Key g.T.Tally (set b.cells.now b.count v) (b.count + 1) b.gate (set b.desks c.desk_of.result (desk b.desks))) fresh
          ∙ ap (λ v. state_shown g.K.Key g.T.Tally (set b.cells.now b.count (fresh_cell g.K.Key g.T.Tally c.args.station.number c.args.request)) (b.count + 1) b.gate (set b.desks v (record { note = (get_or b.desks v (record { note = note.None; uncollected = None })).note; uncollected = Some (b.count + 1) }))) c.desk_of.ensures
          ∙ taken_state g.K.Key g.T.Tally b room g.met.K.Key.remade names.0 names.1 c.args.station c.args.request (record { note = note.None; uncollected = None }) (omega (arith, b.eight, known))
          ∙ ap (λ v. cond v s (taken s c.args.station.number c.args.request)) (sym more);
      row = ap length r.cells ∙ length-set b.cells.now b.count c.fresh.result;
    }
