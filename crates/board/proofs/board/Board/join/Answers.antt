-- The cell's request waits at the place in the mode.
use Rattle.std.proofs.Common.{◌≡◌, sym, ap, ◌∙◌, subst, rules}
use Rattle.rules.specs.Changes.{with_waiter}
use Rattle.rules.specs.Queues.{numbered}
use Rattle.rules.specs.States.{State}
use Rattle.cells.specs.Joins.{Joinable}
use Rattle.cells.specs.Rosters.{waits_with}
use Rattle.cells.specs.Views.{split_of}
use Rattle.cells.proofs.Singles.{cell_waiting}
use Rattle.cells.proofs.Joining.{shown_joins}
use Rattle.board.specs.Cells.{live}
use Rattle.board.specs.Of.{board_state, if_given}
use Rattle.board.proofs.Boards.{still_named, changed_as, changed, not-given, is_given}
use Rattle.board.proofs.board.Board.join.Goals as goal

pub change-requires-clause-named : goal.change-requires-clause-named
change-requires-clause-named g c = λ x y e p. let is : y ≡ cell_waiting x (waits_with x.waits c.args.place c.args.mode) = search rules in still_named g.K.Key g.T.Tally c.args.self.now c.args.number x y e (ap (λ v. v.left) is) (ap (λ v. v.right) is) (ap (λ v. split_of v) is)

pub returns : goal.returns
returns g c =
    let b = c.args.self.now in
    let s = board_state g.K.Key g.T.Tally b in
    let to : State g.row.K.Denot g.row.T.Denot = with_waiter s c.args.place c.args.number c.args.mode in
    let now = changed_as g.K.Key g.T.Tally b c.change.new.self c.args.number _ (λ x. cell_waiting x (waits_with x.waits c.args.place c.args.mode)) c.change.ensures (λ x y p. search rules) in
    let t = changed g.K.Key g.T.Tally b c.change.new.self c.args.number (λ x. cell_waiting x (waits_with x.waits c.args.place c.args.mode)) now (λ u u'. Joinable u c.args.number c.args.place c.args.mode → u' ≡ if_given s c.args.number to)
    (λ e may. not-given g.K.Key g.T.Tally b c.args.number to e)
    (λ i x n h at may. shown_joins g.K.Key g.T.Tally b.cells.now b.count b.gate b.desks i x h at c.args.place c.args.mode (subst (λ v. Joinable s v c.args.place c.args.mode) n may)
    ∙ ap (λ v. with_waiter s c.args.place v c.args.mode) (sym n) ∙ is_given g.K.Key g.T.Tally b c.args.number x to (ap (numbered (live b)) n ∙ at)) in
    record { after = t.after; row = t.row }
