-- The weight is joined to the tally of the cell's place.
use Rattle.std.proofs.Common.{◌≡◌, ap, rules}
use Rattle.cells.specs.Views.{split_of}
use Rattle.board.proofs.Boards.{still_named, changed_as}
use Rattle.board.proofs.Places.{joined_cell, tally-put}
use Rattle.board.proofs.board.Board.join_tally.Goals as goal

pub change-requires-clause-named : goal.change-requires-clause-named
change-requires-clause-named g c = λ x y e p. let is : y ≡ joined_cell g.K.Key g.T.Tally c.args.weight x = search rules in still_named g.K.Key g.T.Tally c.args.self.now c.args.number x y e (ap (λ v. v.left) is) (ap (λ v. v.right) is) (ap (λ v. split_of v) is)

pub returns : goal.returns
returns g c =
    let b = c.args.self.now in
    let now = changed_as g.K.Key g.T.Tally b c.change.new.self c.args.number _ (joined_cell g.K.Key g.T.Tally c.args.weight) c.change.ensures (λ x y p. search rules) in
    let t = tally-put g.K.Key g.T.Tally b c.change.new.self c.args.number c.args.weight now in
    record { after = t.after; row = t.row }
