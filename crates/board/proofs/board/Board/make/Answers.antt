-- The cell's place is made of its own key and the other.
use Rattle.std.proofs.Common.{◌≡◌, ◌≤◌, cond, sym, refl, ap, ap₂, ◌∙◌, subst, arith, rules}
use Rattle.cells.specs.Names.{CellNamed}
use Rattle.board.proofs.Boards.{key_bound, changed_as}
use Rattle.board.proofs.Places.{made_cell, place-made}
use Rattle.board.proofs.board.Board.make.Goals as goal
use Rattle.board.proofs.board.Board.make.Goals.{then-at_most, else-at_most}

pub change-requires-clause-named : goal.change-requires-clause-named
change-requires-clause-named g c = λ x y e p.
    let b = c.args.self.now in
    let own : c.args.number ≤ b.count = key_bound g.K.Key g.T.Tally b c.args.number c.in-Some.own (sym c.in-Some.ensures) in
    let other : c.args.other ≤ b.count = key_bound g.K.Key g.T.Tally b c.args.other c.in-Some-key.held (sym c.in-Some-key.ensures) in
    let low : c.if-at_most.low.0 ≤ b.count = elim c.if-at_most.branch [
      | then-at_most w ↦ let is = ap (λ v. v.0) w.low-is in omega arith
      | else-at_most w ↦ let is = ap (λ v. v.0) w.low-is in omega arith
    ] in
    let high : c.if-at_most.low.1 ≤ b.count = elim c.if-at_most.branch [
      | then-at_most w ↦ let is = ap (λ v. v.1) w.low-is in omega arith
      | else-at_most w ↦ let is = ap (λ v. v.1) w.low-is in omega arith
    ] in
    let is : y ≡ made_cell g.K.Key g.T.Tally c.if-at_most.low.0 c.if-at_most.low.1 c.join-tally.result x = search rules in
    ∣ subst (CellNamed b.count) (sym is) (low, high, high) ∣₁

pub returns : goal.returns
returns g c =
    let b = c.args.self.now in
    let own = c.in-Some.own in
    let held = c.in-Some-key.held in
    let order = g.K.Key.le held own in
    let pair : c.if-at_most.low ≡ (cond order c.args.other c.args.number, cond order c.args.number c.args.other) = elim c.if-at_most.branch [
      | then-at_most w ↦ w.low-is ∙ sym (ap (λ z. (cond z c.args.other c.args.number, cond z c.args.number c.args.other)) (sym c.at_most.ensures ∙ w.if-at_most.true))
      | else-at_most w ↦ w.low-is ∙ sym (ap (λ z. (cond z c.args.other c.args.number, cond z c.args.number c.args.other)) (sym c.at_most.ensures ∙ w.if-at_most.false))
    ] in
    let sum : c.join-tally.result ≡ g.T.Tally.joined (g.T.Tally.weighed held) (g.T.Tally.weighed own) = c.join-tally.ensures ∙ ap₂ g.T.Tally.joined c.weight.ensures c.weight-2.ensures in
    let now = changed_as g.K.Key g.T.Tally b c.change.new.self c.args.number _ (made_cell g.K.Key g.T.Tally (cond order c.args.other c.args.number) (cond order c.args.number c.args.other) (g.T.Tally.joined (g.T.Tally.weighed held) (g.T.Tally.weighed own))) c.change.ensures
    (λ x y p.
    let is : y ≡ made_cell g.K.Key g.T.Tally c.if-at_most.low.0 c.if-at_most.low.1 c.join-tally.result x = search rules in
    is ∙ ap₂ (λ v t. made_cell g.K.Key g.T.Tally v.0 v.1 t x) pair sum) in
    let t = place-made g.K.Key g.T.Tally b c.change.new.self c.args.number c.args.other own held (sym c.in-Some.ensures) (sym c.in-Some-key.ensures) order refl now in
    record { after = t.after; row = t.row }
