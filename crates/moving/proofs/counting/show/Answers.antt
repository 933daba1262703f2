-- At a place the count waits there.
use Rattle.std.proofs.Common.{◌≡◌, sym, ap, ◌∙◌}
use Rattle.requests.specs.declared.request.Request.TheVariants.{Count}
use Rattle.rules.specs.Changes.{with_waiter}
use Rattle.rules.specs.Kinds.{kinds_of}
use Rattle.rules.specs.Moves.{shown}
use Rattle.rules.specs.States.{leads}
use Rattle.board.specs.Cells.{slot_of, met_slot}
use Rattle.board.specs.Of.{board_state}
use Rattle.moving.proofs.Kept.{given_then, met_shown}
use Rattle.moving.proofs.counting.show.Goals as goal

pub returns-in-Place : goal.returns-in-Place
returns-in-Place g c =
    let b = c.args.board.now in
    let s = board_state g.K.Key g.T.Tally b in
    let f = c.in-Place.place in
    let is : slot_of g.K.Key g.T.Tally b c.args.slot ≡ leads f = sym (met_shown g.K.Key g.T.Tally b c.args.slot) ∙ ap met_slot (sym c.met.ensures ∙ c.in-Place.is) in
    record {
      after = λ num may.
          c.join.ensures.after (may f is)
          ∙ given_then s c.args.number (Count c.args.span.lo c.args.span.hi) (with_waiter s f c.args.number c.args.mode) num
          ∙ ap (shown (kinds_of g.K.Key g.T.Tally) s c.args.number c.args.span.lo c.args.span.hi c.args.mode) (sym is);
      row = c.join.ensures.row;
    }
