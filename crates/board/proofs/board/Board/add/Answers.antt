-- The weight is joined to the cell's tally.
use Rattle.std.proofs.Common.{◌≡◌, suc, ap, ◌∙◌, rules}
use Rattle.rules.specs.Changes.{with_counted}
use Rattle.cells.specs.Views.{split_of}
use Rattle.cells.proofs.Singles.{cell_counted, shown-counted}
use Rattle.board.proofs.Parts.{part_some}
use Rattle.board.specs.Of.{board_state}
use Rattle.board.proofs.Boards.{still_named, changed_as, changed_given}
use Rattle.board.proofs.board.Board.add.Goals as goal

pub change-requires-clause-named : goal.change-requires-clause-named
change-requires-clause-named g c = λ x y e p. let is : y ≡ cell_counted x (g.T.Tally.joined x.counted c.args.weight) = search rules in still_named g.K.Key g.T.Tally c.args.self.now c.args.number x y e (ap (λ v. v.left) is) (ap (λ v. v.right) is) (ap (λ v. split_of v) is)

pub returns : goal.returns
returns g c =
    let b = c.args.self.now in
    let now = changed_as g.K.Key g.T.Tally b c.change.new.self c.args.number _ (λ x. cell_counted x (g.T.Tally.joined x.counted c.args.weight)) c.change.ensures (λ x y p. search rules) in
    let t = changed_given g.K.Key g.T.Tally b c.change.new.self c.args.number (λ x. cell_counted x (g.T.Tally.joined x.counted c.args.weight)) now (λ n. with_counted (board_state g.K.Key g.T.Tally b) n (g.T.Tally.joined ((board_state g.K.Key g.T.Tally b).counted n) c.args.weight)) (λ i x n h at. shown-counted g.K.Key g.T.Tally b.cells.now b.count b.gate b.desks i x h at (g.T.Tally.joined x.counted c.args.weight) ∙ ap (λ v. with_counted (board_state g.K.Key g.T.Tally b) (suc i) (g.T.Tally.joined v c.args.weight)) (part_some (λ y. y.counted) g.T.Tally.none _ x at)) in
    record { after = t.after; row = t.row }
