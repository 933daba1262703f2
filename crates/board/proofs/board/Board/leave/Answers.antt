-- The cell's request waits at the place no more.
use Rattle.std.proofs.Common.{◌≡◌, ap, rules}
use Rattle.rules.specs.Changes.{with_queue}
use Rattle.cells.specs.Rosters.{waits_without, removed}
use Rattle.cells.specs.Views.{split_of}
use Rattle.cells.proofs.Singles.{cell_waiting}
use Rattle.cells.proofs.Joining.{shown-leaves}
use Rattle.board.specs.Of.{board_state}
use Rattle.board.proofs.Boards.{still_named, changed_as, changed_given}
use Rattle.board.proofs.board.Board.leave.Goals as goal

pub change-requires-clause-named : goal.change-requires-clause-named
change-requires-clause-named g c = λ x y e p. let is : y ≡ cell_waiting x (waits_without x.waits c.args.place) = search rules in still_named g.K.Key g.T.Tally c.args.self.now c.args.number x y e (ap (λ v. v.left) is) (ap (λ v. v.right) is) (ap (λ v. split_of v) is)

pub returns : goal.returns
returns g c =
    let b = c.args.self.now in
    let now = changed_as g.K.Key g.T.Tally b c.change.new.self c.args.number _ (λ x. cell_waiting x (waits_without x.waits c.args.place)) c.change.ensures (λ x y p. search rules) in
    let t = changed_given g.K.Key g.T.Tally b c.change.new.self c.args.number (λ x. cell_waiting x (waits_without x.waits c.args.place)) now (λ n. with_queue (board_state g.K.Key g.T.Tally b) c.args.place (removed n ((board_state g.K.Key g.T.Tally b).queue c.args.place))) (λ i x n h at. shown-leaves g.K.Key g.T.Tally b.cells.now b.count b.gate b.desks i x h at c.args.place) in
    record { after = t.after; row = t.row }
