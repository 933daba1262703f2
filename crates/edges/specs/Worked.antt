-- The kinds of the worked runs, routes counted by number, with short ways to write a route and a queue.
use Rattle.std.specs.Prelude.{ℕ, List, [], ◌∷◌}
use Rattle.keys.specs.declared.class.Class.{Class}
use Rattle.keys.specs.declared.class.Class.TheVariants.{M}
use Rattle.keys.specs.declared.route.Route.{Route}
use Rattle.keys.specs.Routes.{route_le, route_made}
use Rattle.tallies.specs.declared.number.Number.{Number}
use Rattle.tallies.specs.Numbers.{number_of, number_joined, number_opposed}
use Rattle.requests.specs.declared.answer.Answer.TheVariants.{Changed}
use Rattle.requests.specs.declared.request.Request.TheVariants.{Enter}
use Rattle.rules.specs.declared.carried.Carried.TheVariants.{Decided, Moved}
use Rattle.rules.specs.declared.mode.Mode.{Mode}
use Rattle.rules.specs.declared.mode.Mode.TheVariants.{Between}
use Rattle.rules.specs.Kinds.{Kinds}
use Rattle.rules.specs.States.{Waiter}
use Rattle.rules.specs.Calls.{submit, follow, carry, collect}
use Rattle.edges.specs.Tables.{Line, ◌⟶◌, number, at, did, answer}

abbrev pub routes_by_number : Kinds Route Number
routes_by_number = record {
  le = route_le;
  none = number_of 0;
  joined = number_joined;
  opposed = number_opposed;
  weighed = λ _. number_of 1;
}

-- the route of two signals and a class
abbrev pub route : ℕ → ℕ → Class → Route
route entry exit class = route_made (record { entry = entry; exit = exit; class = class })

-- a request in a queue, which is no count or a count in mode between
abbrev pub waiter : ℕ → Waiter
waiter t = record { number = t; mode = Between }

-- a count in a queue, with its mode
abbrev pub counter : ℕ → Mode → Waiter
counter t m = record { number = t; mode = m }

-- two stations enter a route each, and the first carries both to their end; place 2 is made
abbrev pub two_entered : List (Line Route)
two_entered =
    submit 1 (Enter (route 12 14 M)) ⟶ number 1
    ∷ submit 2 (Enter (route 10 14 M)) ⟶ number 2
    ∷ follow 1 1 ⟶ at 0 1
    ∷ carry 1 ⟶ did Decided
    ∷ follow 1 1 ⟶ at 0 1
    ∷ carry 1 ⟶ did Moved
    ∷ follow 1 2 ⟶ at 0 2
    ∷ carry 1 ⟶ did Decided
    ∷ follow 1 2 ⟶ at 0 2
    ∷ carry 1 ⟶ did Moved
    ∷ collect 1 ⟶ answer 1 Changed
    ∷ collect 2 ⟶ answer 2 Changed
    ∷ []
