-- A station's request waits at a place where its cell says so.
use Rattle.std.proofs.Common.{◌≡◌, cond, is_some, Some, None, Option, sym, refl, ap, ◌∙◌, rules}
use Rattle.std.specs.Option.{option_map}
use Rattle.cells.specs.Rosters.{mode_at}
use Rattle.queues.proofs.Standing.{held-shown}
use Rattle.queues.proofs.held.held_at.Goals as goal

by_some : {X Y : Type 0} (o : Option X) (y : Y) → option_map (λ _. y) o ≡ cond (is_some o) (Some y) None
by_some None y = refl
by_some (Some x) y = refl

pub returns : goal.returns
returns g c =
    let shown = held-shown g.K.Key g.T.Tally c.args.board.now c.args.place c.args.station.number c.in_ok-number.number c.at.result (sym c.in_ok-number.ensures) (ap (λ w. mode_at w c.args.place) (sym c.waits.ensures) ∙ sym c.at.ensures) in
    let mapped : c.map.result ≡ option_map (λ _. c.in_ok-number.number) c.at.result = search rules in
    mapped ∙ by_some c.at.result c.in_ok-number.number ∙ sym shown
