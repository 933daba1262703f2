-- The five bytes of a route: entry in two, exit in two, class in one.
use Rattle.std.specs.Prelude.{ℕ, cond, ◌&&◌, List, [], ◌∷◌, ◌++◌, Some, None, Option, ◌==◌}
use Rattle.keys.specs.declared.class.Class.{Class}
use Rattle.keys.specs.declared.class.Class.TheVariants.{M, W, C, S}
use Rattle.keys.specs.declared.route.Route.{Route}
use Rattle.keys.specs.Classes.{class_number}
use Rattle.keys.specs.Ranges.{is_signal}
use Rattle.keys.specs.Routes.{route_made}
use Rattle.stored.specs.Numerals.{two, value, all_bytes}
use Rattle.stored.specs.Forms.{KeyForm}

abbrev pub route_written : Route → List ℕ
route_written k = two k.entry ++ (two k.exit ++ (class_number k.class ∷ []))

-- the class of that number
abbrev pub class_numbered : ℕ → Option Class
class_numbered n =
    cond (n == 1) (Some M) (cond (n == 2) (Some W) (cond (n == 3) (Some C) (cond (n == 4) (Some S) None)))

-- the route of two numbers and a class, where there is the class and the numbers are signals
abbrev pub route_in : ℕ → ℕ → Option Class → Option Route
route_in entry exit None = None
route_in entry exit (Some class) =
    cond (is_signal entry && is_signal exit) (Some (route_made (record { entry = entry; exit = exit; class = class }))) None

abbrev pub route_read : List ℕ → Option Route
route_read [] = None
route_read (a ∷ []) = None
route_read (a ∷ b ∷ []) = None
route_read (a ∷ b ∷ c ∷ []) = None
route_read (a ∷ b ∷ c ∷ d ∷ []) = None
route_read (a ∷ b ∷ c ∷ d ∷ e ∷ []) =
    cond (all_bytes (b ∷ d ∷ [])) (route_in (value (a ∷ b ∷ [])) (value (c ∷ d ∷ [])) (class_numbered e)) None
route_read (a ∷ b ∷ c ∷ d ∷ e ∷ f ∷ rest) = None

abbrev pub route_form : KeyForm Route
route_form = record { size = 5; written = route_written; read = route_read }
