-- The laws of a register have teeth: a register that takes a shortcut breaks one of them in a run, or else a call of it
-- answers otherwise than the rules say. The runs are of routes counted by number.
use Rattle.std.specs.Prelude.{◌≡◌, ℕ, true, false, List, [], ◌∷◌, ◌++◌, length, Some, Ok, Err}
use Rattle.keys.specs.declared.class.Class.TheVariants.{M, S}
use Rattle.keys.specs.declared.refusal.Refusal.TheVariants.{Full, Finished}
use Rattle.keys.specs.declared.route.Route.{Route}
use Rattle.keys.specs.Routes.{route_le}
use Rattle.tallies.specs.declared.number.Number.{Number}
use Rattle.tallies.specs.Numbers.{number_of, number_joined, number_opposed}
use Rattle.requests.specs.declared.answer.Answer.TheVariants.{Present, Absent, Counted}
use Rattle.requests.specs.declared.request.Request.TheVariants.{Enter, LookUp, Count}
use Rattle.rules.specs.declared.carried.Carried.TheVariants.{Late, Decided}
use Rattle.rules.specs.Kinds.{Kinds, Lawful}
use Rattle.rules.specs.Plain.{set_before}
use Rattle.rules.specs.States.{State, opening}
use Rattle.rules.specs.Queues.{finished, final_answer}
use Rattle.rules.specs.Calls.{Call, submit, carry, run, submit_answer, follow_answer, carry_answer}
use Rattle.rules.specs.ReadOff.{keys_listed}
use Rattle.rules.specs.Laws.{AnswersArePlain, ReadingIsPlain}
use Rattle.edges.specs.Tables.{calls_in}
use Rattle.edges.specs.Worked.{routes_by_number, route}
use Rattle.edges.specs.Waiting.{waiting}
use Rattle.edges.specs.Forking.{forking}
use Rattle.edges.specs.Cases.{help_twice, twice, both_see_decided}
use Rattle.edges.specs.Ways.{Ways, after_by, carry_answer_by, run_of, ServiceEndsIn, RulesByTheirWays, ServiceByTheRules}
use Rattle.edges.specs.Shortcuts.{slots_alone, first_match, blind, first_comer, tally_last, always_late, no_count, full_answer, always_full, at_once}

-- the state that calls lead to in a register with these ways, over 64 cells
abbrev pub reached : (Kinds Route Number → Ways Route Number) → List (Call Route) → State Route Number
reached ways cs = run_of routes_by_number (after_by routes_by_number (ways routes_by_number)) 64 cs

-- Deciding from the slots alone: in the second worked run, look-up 4 does not find the route that enter 3 brings.
abbrev pub SlotsAloneBreak : Type 0
SlotsAloneBreak =
    (final_answer (reached slots_alone (calls_in waiting)) 4 ≡ Some Absent)
    × (AnswersArePlain routes_by_number (reached slots_alone (calls_in waiting)) → ⊥)

-- Taking the first match: there, look-up 6 goes by enter 3, though withdraw 5 came in between.
abbrev pub FirstMatchBreaks : Type 0
FirstMatchBreaks =
    (final_answer (reached first_match (calls_in waiting)) 6 ≡ Some Present)
    × (AnswersArePlain routes_by_number (reached first_match (calls_in waiting)) → ⊥)

-- two stations see an enter, decided, at the gate, and both move it
abbrev pub moved_twice : List (Call Route)
moved_twice = submit 1 (Enter (route 12 14 M)) ∷ (both_see_decided ++ (carry 1 ∷ carry 2 ∷ []))

-- then its route is counted
abbrev pub moved_twice_counted : List (Call Route)
moved_twice_counted = moved_twice ++ (submit 2 (Count (route 10 14 M) (route 12 14 S)) ∷ help_twice 2 2)

-- Moving without looking at the head again: the enter is done twice, and reading off lists its route twice.
abbrev pub BlindListingBreaks : Type 0
BlindListingBreaks =
    (keys_listed (reached blind moved_twice) ≡ route 12 14 M ∷ route 12 14 M ∷ [])
    × (ReadingIsPlain routes_by_number (reached blind moved_twice) → ⊥)

-- A count then gives 2 for this one route.
abbrev pub BlindCountBreaks : Type 0
BlindCountBreaks =
    (final_answer (reached blind moved_twice_counted) 2 ≡ Some (Counted (number_of 2)))
    × (AnswersArePlain routes_by_number (reached blind moved_twice_counted) → ⊥)

-- an enter was moved by one of the two that saw it, and a look-up heads the gate in its stead
abbrev pub overtaken : List (Call Route)
overtaken =
    submit 1 (Enter (route 12 14 M)) ∷ submit 2 (LookUp (route 12 14 M)) ∷ (both_see_decided ++ (carry 1 ∷ []))

-- Taking whoever heads now for the noted request: the other carry decides the look-up, where the rules answer late.
abbrev pub FirstComerDiffers : Type 0
FirstComerDiffers =
    (carry_answer_by routes_by_number (first_comer routes_by_number) (reached first_comer overtaken) 2 ≡ Ok Decided)
    × (carry_answer routes_by_number (run routes_by_number 64 overtaken) 2 ≡ Ok Late)

-- Changing the tally of a place on leaving: in the third worked run, count 7 has the route that withdraw 6 takes out.
abbrev pub TallyLastBreaks : Type 0
TallyLastBreaks =
    (final_answer (reached tally_last (calls_in forking)) 7 ≡ Some (Counted (number_of 3)))
    × (AnswersArePlain routes_by_number (reached tally_last (calls_in forking)) → ⊥)

-- Being late while the head still stands: the four calls that suffice for request 1 leave it unfinished.
abbrev pub AlwaysLateBreaks : Type 0
AlwaysLateBreaks =
    (finished (reached always_late (submit 1 (Enter (route 12 14 M)) ∷ help_twice 2 1)) 1 ≡ false)
    × (ServiceEndsIn routes_by_number
    (after_by routes_by_number (always_late routes_by_number))
    (reached always_late (submit 1 (Enter (route 12 14 M)) ∷ []))
    → ⊥)

-- Counts always zero: a route that was entered is not counted.
abbrev pub NoCountBreaks : Type 0
NoCountBreaks =
    (final_answer (reached no_count (twice (route 12 14 M))) 3 ≡ Some (Counted (number_of 0)))
    × (AnswersArePlain routes_by_number (reached no_count (twice (route 12 14 M))) → ⊥)

-- routes that weigh nothing
abbrev pub weightless : Kinds Route Number
weightless = record {
  le = route_le;
  none = number_of 0;
  joined = number_joined;
  opposed = number_opposed;
  weighed = λ _. number_of 0;
}

-- Weights all zero are a wrong kind and no wrong rule: the laws of a kind do not refuse them. But then a count is not
-- the number of its keys, and not what the plain set of routes counted by number answers.
abbrev pub WeightlessMiscounts : Type 0
WeightlessMiscounts =
    (Lawful routes_by_number → Lawful weightless)
    × (final_answer (run weightless 64 (twice (route 12 14 M))) 3 ≡ Some (Counted (number_of 0)))
    × (length (set_before weightless (run weightless 64 (twice (route 12 14 M))).requests 3) ≡ 1)
    × (AnswersArePlain routes_by_number (run weightless 64 (twice (route 12 14 M))) → ⊥)

-- routes that are never compared
abbrev pub uncompared : Kinds Route Number
uncompared = record {
  le = λ _ _. true;
  none = number_of 0;
  joined = number_joined;
  opposed = number_opposed;
  weighed = λ _. number_of 1;
}

-- Keys that are never compared are no kind of key: two of them are at most each other and yet not one.
abbrev pub UncomparedUnlawful : Type 0
UncomparedUnlawful =
    (((a b : Route) → uncompared.le a b ≡ true → uncompared.le b a ≡ true → a ≡ b) → ⊥) × (Lawful uncompared → ⊥)

-- the state that calls lead to in a register that is always full
abbrev pub full_reached : ℕ → List (Call Route) → State Route Number
full_reached cells cs = run_of routes_by_number (always_full routes_by_number) cells cs

-- Always full: such a register stays as it was opened, and the three laws are true of it, since it has no requests.
-- It is refused by the answer of submit.
abbrev pub AlwaysFullDiffers : Type 0
AlwaysFullDiffers =
    ((cells : ℕ) (cs : List (Call Route))
    → (full_reached cells cs ≡ opening routes_by_number cells)
    × AnswersArePlain routes_by_number (full_reached cells cs)
    × ServiceEndsIn routes_by_number (always_full routes_by_number) (full_reached cells cs)
    × ReadingIsPlain routes_by_number (full_reached cells cs))
    × (full_answer routes_by_number (opening routes_by_number 1) 1 (Enter (route 12 14 M)) ≡ Err Full)
    × (submit_answer routes_by_number (opening routes_by_number 1) 1 (Enter (route 12 14 M)) ≡ Ok 1)

-- Working all out at once: such a register comes to no state but those that the rules come to by more calls, so answers
-- and listings are plain as theirs. It is refused by the answer of follow, which is to find the first request at the gate.
abbrev pub AtOnceDiffers : Type 0
AtOnceDiffers =
    ((cells : ℕ) (cs : List (Call Route))
    → (more : List (Call Route)) × (run_of routes_by_number (at_once routes_by_number) cells cs ≡ run routes_by_number cells more))
    × (follow_answer routes_by_number (run_of routes_by_number (at_once routes_by_number) 64 (submit 1 (Enter (route 12 14 M)) ∷ [])) 1 1 ≡ Err Finished)
    × (follow_answer routes_by_number (run routes_by_number 64 (submit 1 (Enter (route 12 14 M)) ∷ [])) 1 1 ≡ Ok (0, 1))

-- all of them, and that the ways and the step by which they differ are, put right, those of the rules
pub record ShortcutsBreak : Type 0 where
  pub rules_by_their_ways : RulesByTheirWays routes_by_number
  pub service_by_the_rules : ServiceByTheRules routes_by_number
  pub slots_alone : SlotsAloneBreak
  pub first_match : FirstMatchBreaks
  pub blind_listing : BlindListingBreaks
  pub blind_count : BlindCountBreaks
  pub first_comer : FirstComerDiffers
  pub tally_last : TallyLastBreaks
  pub always_late : AlwaysLateBreaks
  pub no_count : NoCountBreaks
  pub weightless : WeightlessMiscounts
  pub uncompared : UncomparedUnlawful
  pub always_full : AlwaysFullDiffers
  pub at_once : AtOnceDiffers
