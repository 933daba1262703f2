-- Small cases in full: empty ranges, one key entered twice, two stations at one request, stations and numbers out of range.
use Rattle.std.specs.Prelude.{List, [], ◌∷◌}
use Rattle.keys.specs.declared.class.Class.TheVariants.{M, S}
use Rattle.keys.specs.declared.route.Route.{Route}
use Rattle.keys.specs.declared.refusal.Refusal.TheVariants.{NoStation, NotGiven, NoNote}
use Rattle.requests.specs.declared.answer.Answer.TheVariants.{Changed, Unchanged, Absent, Counted}
use Rattle.requests.specs.declared.request.Request.TheVariants.{Enter, Withdraw, LookUp, Count}
use Rattle.rules.specs.declared.carried.Carried.TheVariants.{Late, Decided, Moved}
use Rattle.rules.specs.Calls.{submit, follow, carry, collect}
use Rattle.edges.specs.Tables.{Line, ◌⟶◌, number, at, did, answer, refused}
use Rattle.edges.specs.Worked.{route}

-- one request, helped on by another station than its own
abbrev pub served_by_another : List (Line Route)
served_by_another =
    submit 1 (Enter (route 12 14 M)) ⟶ number 1
    ∷ follow 2 1 ⟶ at 0 1
    ∷ carry 2 ⟶ did Decided
    ∷ carry 2 ⟶ refused NoNote
    ∷ follow 2 1 ⟶ at 0 1
    ∷ carry 2 ⟶ did Moved
    ∷ collect 1 ⟶ answer 1 Changed
    ∷ []

-- a fresh register counts zero, and so does a count whose upper key is below its lower
abbrev pub counting_nothing : List (Line Route)
counting_nothing =
    submit 1 (Count (route 1 1 M) (route 9999 9999 S)) ⟶ number 1
    ∷ follow 1 1 ⟶ at 0 1
    ∷ carry 1 ⟶ did Moved
    ∷ collect 1 ⟶ answer 1 (Counted 0)
    ∷ submit 1 (Enter (route 12 14 M)) ⟶ number 2
    ∷ follow 1 2 ⟶ at 0 2
    ∷ carry 1 ⟶ did Decided
    ∷ follow 1 2 ⟶ at 0 2
    ∷ carry 1 ⟶ did Moved
    ∷ collect 1 ⟶ answer 2 Changed
    ∷ submit 1 (Count (route 12 14 S) (route 12 14 M)) ⟶ number 3
    ∷ follow 1 3 ⟶ at 0 3
    ∷ carry 1 ⟶ did Moved
    ∷ collect 1 ⟶ answer 3 (Counted 0)
    ∷ []

-- one key entered twice, counted from itself to itself, withdrawn and looked up
abbrev pub one_key : List (Line Route)
one_key =
    submit 1 (Enter (route 12 14 M)) ⟶ number 1
    ∷ submit 2 (Enter (route 12 14 M)) ⟶ number 2
    ∷ submit 3 (Count (route 12 14 M) (route 12 14 M)) ⟶ number 3
    ∷ submit 4 (Withdraw (route 12 14 M)) ⟶ number 4
    ∷ submit 5 (LookUp (route 12 14 M)) ⟶ number 5
    ∷ follow 8 1 ⟶ at 0 1
    ∷ carry 8 ⟶ did Decided
    ∷ follow 8 1 ⟶ at 0 1
    ∷ carry 8 ⟶ did Moved
    ∷ follow 8 2 ⟶ at 0 2
    ∷ carry 8 ⟶ did Decided
    ∷ follow 8 2 ⟶ at 0 2
    ∷ carry 8 ⟶ did Moved
    ∷ follow 8 3 ⟶ at 0 3
    ∷ carry 8 ⟶ did Moved
    ∷ follow 8 4 ⟶ at 0 4
    ∷ carry 8 ⟶ did Decided
    ∷ follow 8 4 ⟶ at 0 4
    ∷ carry 8 ⟶ did Moved
    ∷ follow 8 5 ⟶ at 0 5
    ∷ carry 8 ⟶ did Decided
    ∷ follow 8 5 ⟶ at 0 5
    ∷ carry 8 ⟶ did Moved
    ∷ collect 1 ⟶ answer 1 Changed
    ∷ collect 2 ⟶ answer 2 Unchanged
    ∷ collect 3 ⟶ answer 3 (Counted 1)
    ∷ collect 4 ⟶ answer 4 Changed
    ∷ collect 5 ⟶ answer 5 Absent
    ∷ []

-- two stations saw request 1 undecided: the first decides, the second moves
abbrev pub seen_undecided : List (Line Route)
seen_undecided =
    submit 1 (Enter (route 12 14 M)) ⟶ number 1
    ∷ follow 1 1 ⟶ at 0 1
    ∷ follow 2 1 ⟶ at 0 1
    ∷ carry 1 ⟶ did Decided
    ∷ carry 2 ⟶ did Moved
    ∷ []

-- two stations saw it decided: the first moves, the second is late
abbrev pub seen_decided : List (Line Route)
seen_decided =
    submit 1 (Enter (route 12 14 M)) ⟶ number 1
    ∷ follow 1 1 ⟶ at 0 1
    ∷ carry 1 ⟶ did Decided
    ∷ follow 1 1 ⟶ at 0 1
    ∷ follow 2 1 ⟶ at 0 1
    ∷ carry 1 ⟶ did Moved
    ∷ carry 2 ⟶ did Late
    ∷ []

-- stations 1 and 8 and signal 9,999 are lawful; station 0, station 9, number 0 and a number not given are not
abbrev pub out_of_range : List (Line Route)
out_of_range =
    submit 8 (Enter (route 9999 9999 S)) ⟶ number 1
    ∷ submit 0 (Enter (route 9999 9999 S)) ⟶ refused NoStation
    ∷ submit 9 (Enter (route 9999 9999 S)) ⟶ refused NoStation
    ∷ follow 1 0 ⟶ refused NotGiven
    ∷ follow 1 2 ⟶ refused NotGiven
    ∷ carry 1 ⟶ refused NoNote
    ∷ []
