-- The outcome of the cell is written.
use Rattle.std.proofs.Common.{◌≡◌, ap, rules}
use Rattle.rules.specs.Changes.{with_answer}
use Rattle.cells.specs.Outcomes.{answer_of}
use Rattle.cells.specs.Views.{split_of}
use Rattle.cells.proofs.Singles.{cell_answered, shown-answered}
use Rattle.board.specs.Of.{board_state}
use Rattle.board.proofs.Boards.{still_named, changed_as, changed_given}
use Rattle.board.proofs.board.Board.answer.Goals as goal

pub change-requires-clause-named : goal.change-requires-clause-named
change-requires-clause-named g c = λ x y e p. let is : y ≡ cell_answered x c.args.outcome = search rules in still_named g.K.Key g.T.Tally c.args.self.now c.args.number x y e (ap (λ v. v.left) is) (ap (λ v. v.right) is) (ap (λ v. split_of v) is)

pub returns : goal.returns
returns g c =
    let b = c.args.self.now in
    let now = changed_as g.K.Key g.T.Tally b c.change.new.self c.args.number _ (λ x. cell_answered x c.args.outcome) c.change.ensures (λ x y p. search rules) in
    let t = changed_given g.K.Key g.T.Tally b c.change.new.self c.args.number (λ x. cell_answered x c.args.outcome) now (λ n. with_answer (board_state g.K.Key g.T.Tally b) n (answer_of c.args.outcome)) (λ i x n h at. shown-answered g.K.Key g.T.Tally b.cells.now b.count b.gate b.desks i x h at c.args.outcome) in
    record { after = t.after; row = t.row }
