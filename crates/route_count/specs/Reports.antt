-- The report on a text: a line for each line that is no route, and the totals.
use Rattle.std.specs.Prelude.{ℕ, ◌+◌, List, [], ◌∷◌, ◌++◌, Ok, Err, codes, decimal, Result}
use Rattle.keys.specs.declared.class.Class.TheVariants.{M, W, C, S}
use Rattle.keys.specs.declared.refusal.Refusal.{Refusal}
use Rattle.keys.specs.declared.route.Route.{Route}
use Rattle.keys.specs.Refusals.{refusal_number}
use Rattle.tallies.specs.declared.classes.Classes.{Classes}
use Rattle.tallies.specs.declared.number.Number.{Number}
use Rattle.tallies.specs.declared.pair.Pair.{Pair}
use Rattle.tallies.specs.ClassCounts.{count_in}
use Rattle.route_count.specs.Totals.{routes_weight}

-- ends a line (10 in ASCII)
abbrev pub newline : List ℕ
newline = 10 ∷ []

-- a line of that number was refused
abbrev pub refused_line : ℕ → Refusal → List ℕ
refused_line number refusal =
    codes "line " ++ (decimal number ++ (codes " refused " ++ (decimal (refusal_number refusal) ++ newline)))

-- the refused ones of lines, the first of which has that number
abbrev pub refused_lines : ℕ → List (Result Route Refusal) → List ℕ
refused_lines number [] = []
refused_lines number (Ok route ∷ readings) = refused_lines (number + 1) readings
refused_lines number (Err refusal ∷ readings) = refused_line number refusal ++ refused_lines (number + 1) readings

-- a count with its name before it
abbrev pub counted_line : List ℕ → ℕ → List ℕ
counted_line name number = name ++ (decimal number ++ newline)

-- how many routes, and how many of each class
abbrev pub totals_of : ℕ → ℕ → ℕ → ℕ → ℕ → List ℕ
totals_of routes m w c s =
    counted_line (codes "routes ") routes ++ (counted_line (codes "class M ") m ++ (counted_line (codes "class W ") w ++ (counted_line (codes "class C ") c ++ counted_line (codes "class S ") s)))

abbrev pub totals_text : Pair Number Classes → List ℕ
totals_text tally =
    totals_of tally.first.value (count_in tally.second M) (count_in tally.second W) (count_in tally.second C) (count_in tally.second S)

-- the lines refused come first, the totals last
abbrev pub report_on : List (Result Route Refusal) → List ℕ
report_on readings = refused_lines 1 readings ++ totals_text (routes_weight readings)
