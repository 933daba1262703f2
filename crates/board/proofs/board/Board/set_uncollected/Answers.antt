-- The desk of the station is written, its other part as it was.
use Rattle.std.proofs.Common.{◌-◌, ◌<◌, length, get_or, set, None, sym, refl, ap, ◌∙◌, arith}
use Rattle.rules.specs.declared.note.Note.TheVariants as note
use Rattle.rules.specs.Changes.{with_desk}
use Rattle.rules.specs.States as rules
use Rattle.cells.specs.Views.{state_shown}
use Rattle.board.specs.Of.{board_state}
use Rattle.board.proofs.Desks.{desk-here, desk-put}
use Rattle.board.proofs.board.Board.set_uncollected.Goals as goal

pub returns : goal.returns
returns g c =
    let b = c.args.self.now in
    let n = c.args.station.number in
    let known = c.args.station.known in
    let far : n - 1 < length b.desks = omega (arith, b.eight, known) in
    record {
      after = ap (λ v. state_shown g.K.Key g.T.Tally b.cells.now b.count b.gate (set b.desks v (record { uncollected = c.args.uncollected; note = (get_or b.desks v (record { note = note.None; uncollected = None })).note }))) c.desk_of-at.ensures
          ∙ desk-put g.K.Key g.T.Tally b.cells.now b.count b.gate b.desks n (record { uncollected = c.args.uncollected; note = (get_or b.desks (n - 1) (record { note = note.None; uncollected = None })).note }) known.0 far
          ∙ ap (λ (d : rules.Desk). with_desk (board_state g.K.Key g.T.Tally b) n (record { uncollected = c.args.uncollected; note = d.note })) (sym (desk-here b.desks n (record { note = note.None; uncollected = None }) known.0 far));
      row = refl;
    }
