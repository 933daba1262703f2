-- What the desk of the station has.
use Rattle.std.proofs.Common.{get_or, None, sym, ap, ◌∙◌, arith}
use Rattle.rules.specs.declared.note.Note.TheVariants as note
use Rattle.rules.specs.States as rules
use Rattle.board.proofs.Desks.{desk-here}
use Rattle.board.proofs.board.Board.uncollected.Goals as goal

pub returns : goal.returns
returns g c =
    let b = c.args.self.now in
    ap (λ v. (get_or b.desks v (record { note = note.None; uncollected = None })).uncollected) c.desk_of.ensures
    ∙ ap (λ (d : rules.Desk). d.uncollected) (sym (desk-here b.desks c.args.station.number (record { note = note.None; uncollected = None }) c.args.station.known.0 (omega (arith, b.eight, c.args.station.known))))
