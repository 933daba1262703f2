-- The tally of the routes that were read: their number, and their number in each class.
use Rattle.std.specs.Prelude.{◌≡◌, ℕ, ◌+◌, ◌%◌, ◌^◌, cond, List, [], ◌∷◌, Ok, Err, Result, ◌==◌}
use Rattle.keys.specs.declared.class.Class.{Class}
use Rattle.keys.specs.declared.refusal.Refusal.{Refusal}
use Rattle.keys.specs.declared.route.Route.{Route}
use Rattle.keys.specs.Classes.{class_number}
use Rattle.tallies.specs.declared.classes.Classes.{Classes}
use Rattle.tallies.specs.declared.number.Number.{Number}
use Rattle.tallies.specs.declared.pair.Pair.{Pair}
use Rattle.tallies.specs.ClassCounts.{classes_of, classes_joined, class_weight, count_in}
use Rattle.tallies.specs.Numbers.{number_of, number_joined}

-- the tally of no route
abbrev pub no_route : Pair Number Classes
no_route = record { first = number_of 0; second = classes_of 0 0 0 0 }

-- the tally of one route
abbrev pub route_weight : Route → Pair Number Classes
route_weight route = record { first = number_of 1; second = class_weight route.class }

abbrev pub both_joined : Pair Number Classes → Pair Number Classes → Pair Number Classes
both_joined a b = record { first = number_joined a.first b.first; second = classes_joined a.second b.second }

-- a line that is no route weighs nothing
abbrev pub with_reading : Result Route Refusal → Pair Number Classes → Pair Number Classes
with_reading (Ok route) rest = both_joined (route_weight route) rest
with_reading (Err refusal) rest = rest

-- the weights of the routes read, joined
abbrev pub routes_weight : List (Result Route Refusal) → Pair Number Classes
routes_weight [] = no_route
routes_weight (reading ∷ readings) = with_reading reading (routes_weight readings)

-- how many lines are routes
abbrev pub routes_in : List (Result Route Refusal) → ℕ
routes_in [] = 0
routes_in (Ok route ∷ readings) = 1 + routes_in readings
routes_in (Err refusal ∷ readings) = routes_in readings

-- one where the classes are the same
abbrev pub one_in : Class → Class → ℕ
one_in class other = cond (class_number class == class_number other) 1 0

-- how many lines are routes of a class
abbrev pub class_in : Class → List (Result Route Refusal) → ℕ
class_in class [] = 0
class_in class (Ok route ∷ readings) = one_in class route.class + class_in class readings
class_in class (Err refusal ∷ readings) = class_in class readings

-- the tally counts the lines that are routes, and those of each class, as far as its numbers go
pub record Counts (readings : List (Result Route Refusal)) (tally : Pair Number Classes) : Type 0 where
  pub routes : tally.first.value ≡ routes_in readings % 2 ^ 32
  pub classes : (class : Class) → count_in tally.second class ≡ class_in class readings % 2 ^ 16
