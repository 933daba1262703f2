-- Lines that are routes, by their words.
use Rattle.std.specs.Prelude.{ℕ, List, [], ◌∷◌, Some, None, Err, Option, Result}
use Rattle.octets.specs.declared.pieces.Pieces.{Pieces}
use Rattle.octets.specs.Cuts.{pieces, pieces_of}
use Rattle.keys.specs.declared.class.Class.{Class}
use Rattle.keys.specs.declared.refusal.Refusal.{Refusal}
use Rattle.keys.specs.declared.refusal.Refusal.TheVariants.{NoSuchLine}
use Rattle.keys.specs.declared.route.Route.{Route}
use Rattle.keys.specs.Routes.{route_of}
use Rattle.words.specs.declared.routes.RouteWords.{RouteWords}
use Rattle.words.specs.Figures.{number_in}
use Rattle.words.specs.Letters.{letter_in}

-- all three, or none
abbrev pub all_three : Option ℕ → Option ℕ → Option Class → Option RouteWords
all_three None exit class = None
all_three (Some entry) None class = None
all_three (Some entry) (Some exit) None = None
all_three (Some entry) (Some exit) (Some class) = Some (record { entry = entry; exit = exit; class = class })

-- what three words say of a route
abbrev pub route_words : List ℕ → List ℕ → List ℕ → Option RouteWords
route_words entry exit class = all_three (number_in entry) (number_in exit) (letter_in class)

-- the words that are left of a text
abbrev pub left : Pieces → List (List ℕ)
left p = pieces_of p.separator p.rest

-- the route that the first three words are
abbrev pub next_route : List (List ℕ) → Option RouteWords
next_route [] = None
next_route (entry ∷ []) = None
next_route (entry ∷ exit ∷ []) = None
next_route (entry ∷ exit ∷ class ∷ more) = route_words entry exit class

-- a route is just three words
abbrev pub row_words : List (List ℕ) → Option RouteWords
row_words [] = None
row_words (entry ∷ []) = None
row_words (entry ∷ exit ∷ []) = None
row_words (entry ∷ exit ∷ class ∷ []) = route_words entry exit class
row_words (entry ∷ exit ∷ class ∷ next ∷ more) = None

-- the words of a line stand between single spaces (32 in ASCII)
abbrev pub line_words : List ℕ → Option RouteWords
line_words line = row_words (pieces 32 line)

-- words of another form are no such line
abbrev pub words_route : Option RouteWords → Result Route Refusal
words_route None = Err NoSuchLine
words_route (Some words) = route_of words.entry words.exit words.class

-- the route that a line is
abbrev pub line_route : List ℕ → Result Route Refusal
line_route line = words_route (line_words line)
