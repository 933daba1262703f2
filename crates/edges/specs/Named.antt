-- The cases that name routes and sections.
use Rattle.std.specs.Prelude.{◌≡◌, ℕ, ◌≤◌, true, List, [], Some, Ok, Err, codes}
use Rattle.keys.specs.declared.class.Class.TheVariants.{M, S}
use Rattle.keys.specs.declared.refusal.Refusal.TheVariants.{OutOfRange}
use Rattle.keys.specs.declared.section.Section.{Section}
use Rattle.keys.specs.Names.{filled}
use Rattle.keys.specs.Orders.{below}
use Rattle.keys.specs.Routes.{route_le, route_of}
use Rattle.keys.specs.Sections.{section_le, section_made, section_of}
use Rattle.tallies.specs.Numbers.{number_of, number_joined, number_opposed}
use Rattle.requests.specs.declared.answer.Answer.TheVariants.{Changed, Unchanged, Absent, Counted}
use Rattle.requests.specs.Answers.{answer_code}
use Rattle.stored.specs.RouteBytes.{route_form}
use Rattle.stored.specs.NumberBytes.{number_form}
use Rattle.rules.specs.States.{holds}
use Rattle.rules.specs.Queues.{final_answer}
use Rattle.rules.specs.Calls.{run}
use Rattle.rules.specs.Laws.{enough}
use Rattle.edges.specs.Cases.{EdgeCases, twice, in_and_out, both, MakesPlace}
use Rattle.edges.specs.Sizes.{ArchiveSizes}
use Rattle.edges.specs.Worked.{routes_by_number, route}

-- the section of a name
abbrev pub section : List ℕ → Section
section name = section_made (filled name)

-- Entering 12 14 M twice answers 1, then 2, and counting from it to itself gives 1.
abbrev pub TwelveTwice : Type 0
TwelveTwice =
    (cells : ℕ) → 3 ≤ cells
    → (final_answer (run routes_by_number cells (twice (route 12 14 M))) 1 ≡ Some Changed)
    × (final_answer (run routes_by_number cells (twice (route 12 14 M))) 2 ≡ Some Unchanged)
    × (final_answer (run routes_by_number cells (twice (route 12 14 M))) 3 ≡ Some (Counted (number_of 1)))

-- Entered, withdrawn and looked up, it answers 1, 1 and 4.
abbrev pub TwelveInAndOut : Type 0
TwelveInAndOut =
    (cells : ℕ) → 3 ≤ cells
    → (final_answer (run routes_by_number cells (in_and_out (route 12 14 M))) 1 ≡ Some Changed)
    × (final_answer (run routes_by_number cells (in_and_out (route 12 14 M))) 2 ≡ Some Changed)
    × (final_answer (run routes_by_number cells (in_and_out (route 12 14 M))) 3 ≡ Some Absent)

-- The numbers by which these answers are known.
abbrev pub Codes : Type 0
Codes =
    (answer_code {T = ℕ} Changed ≡ 1) × (answer_code {T = ℕ} Unchanged ≡ 2) × (answer_code {T = ℕ} Absent ≡ 4)

-- 10 14 M entered second, after 12 14 M, makes place 2 with split 12 14 M.
abbrev pub TenAfterTwelve : Type 0
TenAfterTwelve =
    (cells : ℕ) → 2 ≤ cells
    → MakesPlace routes_by_number (run routes_by_number cells (both (route 12 14 M) (route 10 14 M)))
    (record { split = route 12 14 M; left = holds (route 10 14 M); right = holds (route 12 14 M); tally = number_of 2 })

-- Entry comes first, then exit, then class; signals end at 9,999.
abbrev pub RoutesAscend : Type 0
RoutesAscend =
    (below route_le (route 10 14 M) (route 12 14 M) ≡ true)
    × (below route_le (route 12 14 M) (route 12 14 S) ≡ true)
    × (below route_le (route 12 14 S) (route 12 15 M) ≡ true)

abbrev pub SignalsEnd : Type 0
SignalsEnd =
    (route_of 9999 9999 S ≡ Ok (route 9999 9999 S))
    × (route_of 1 1 M ≡ Ok (route 1 1 M))
    × (route_of 10000 1 M ≡ Err OutOfRange)
    × (route_of 1 10000 M ≡ Err OutOfRange)
    × (route_of 0 1 M ≡ Err OutOfRange)
    × (route_of 1 0 M ≡ Err OutOfRange)

-- Digits come before letters, and a name before its continuations: A comes before AB, AB before B.
abbrev pub SectionsAscend : Type 0
SectionsAscend =
    (below section_le (section (codes "7")) (section (codes "A")) ≡ true)
    × (below section_le (section (codes "A")) (section (codes "A1")) ≡ true)
    × (below section_le (section (codes "A1")) (section (codes "AB")) ≡ true)
    × (below section_le (section (codes "A")) (section (codes "AB")) ≡ true)
    × (below section_le (section (codes "AB")) (section (codes "B")) ≡ true)

-- A name has one to eight characters.
abbrev pub NamesEnd : Type 0
NamesEnd =
    (section_of (codes "ABCDEFGH") ≡ Ok (section (codes "ABCDEFGH")))
    × (section_of (codes "ABCDEFGH1") ≡ Err OutOfRange)
    × (section_of [] ≡ Err OutOfRange)
    × (section_of (codes "a") ≡ Err OutOfRange)

-- Joining the opposite of 1 takes one off; a sum that reaches 2^32 starts from 0 again.
abbrev pub NumbersWrap : Type 0
NumbersWrap =
    ((number_opposed (number_of 1)).value ≡ 4294967295)
    × ((number_joined (number_of 3) (number_opposed (number_of 1))).value ≡ 2)
    × ((number_joined (number_of 4294967295) (number_of 1)).value ≡ 0)
    × ((number_opposed (number_of 0)).value ≡ 0)

-- How many calls suffice for a request of that number.
abbrev pub CallsThatSuffice : Type 0
CallsThatSuffice =
    (enough routes_by_number 1 ≡ 4)
    × (enough routes_by_number 2 ≡ 11)
    × (enough routes_by_number 3 ≡ 21)
    × (enough routes_by_number 4 ≡ 34)
    × (enough routes_by_number 10 ≡ 175)
    × (enough routes_by_number 1024 ≡ 1575424)

-- the whole list: all of these, with the general cases at routes counted by number
pub record NamedCases : Type 0 where
  pub edges : EdgeCases routes_by_number
  pub twelve_twice : TwelveTwice
  pub twelve_in_and_out : TwelveInAndOut
  pub codes : Codes
  pub ten_after_twelve : TenAfterTwelve
  pub routes_ascend : RoutesAscend
  pub signals_end : SignalsEnd
  pub sections_ascend : SectionsAscend
  pub names_end : NamesEnd
  pub numbers_wrap : NumbersWrap
  pub calls_that_suffice : CallsThatSuffice
  pub sizes : ArchiveSizes route_form number_form
