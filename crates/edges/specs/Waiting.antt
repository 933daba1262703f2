-- The second worked run: walks, and waiting requests that decide.
use Rattle.std.specs.Prelude.{List, [], ◌∷◌, Ok}
use Rattle.keys.specs.declared.class.Class.TheVariants.{M}
use Rattle.keys.specs.declared.route.Route.{Route}
use Rattle.requests.specs.declared.answer.Answer.TheVariants.{Changed, Present, Absent}
use Rattle.requests.specs.declared.request.Request.TheVariants.{Enter, Withdraw, LookUp}
use Rattle.rules.specs.declared.carried.Carried.TheVariants.{Late, Decided, Walking, Moved}
use Rattle.rules.specs.Calls.{submit, follow, carry, collect}
use Rattle.edges.specs.Tables.{Line, ◌⟶◌, reads, shows, number, at, did, answer, nothing, key, place}
use Rattle.edges.specs.Worked.{route, waiter}

-- a look-up is decided by what still waits in a place's queue, by the last of its key
abbrev pub waiting : List (Line Route)
waiting =
    submit 1 (Enter (route 12 14 M)) ⟶ number 1
    ∷ submit 2 (Enter (route 10 14 M)) ⟶ number 2
    ∷ follow 1 1 ⟶ at 0 1
    ∷ carry 1 ⟶ did Decided
    ∷ follow 1 1 ⟶ at 0 1
    ∷ carry 1 ⟶ did Moved
    ∷ follow 1 2 ⟶ at 0 2
    ∷ carry 1 ⟶ did Decided
    ∷ follow 1 2 ⟶ at 0 2
    ∷ carry 1 ⟶ did Moved
    ∷ collect 1 ⟶ answer 1 Changed
    ∷ collect 2 ⟶ answer 2 Changed
    ∷ submit 1 (Enter (route 20 30 M)) ⟶ number 3
    ∷ submit 2 (LookUp (route 20 30 M)) ⟶ number 4
    ∷ submit 3 (Withdraw (route 20 30 M)) ⟶ number 5
    ∷ submit 4 (LookUp (route 20 30 M)) ⟶ number 6
    ∷ follow 1 3 ⟶ at 0 3
    ∷ carry 1 ⟶ did Walking
    ∷ follow 5 3 ⟶ at 0 3
    ∷ carry 5 ⟶ did Walking
    ∷ carry 1 ⟶ did Decided
    ∷ carry 5 ⟶ did Late
    ∷ follow 1 3 ⟶ at 0 3
    ∷ carry 1 ⟶ did Moved
    ∷ shows (waiter 4 ∷ waiter 5 ∷ waiter 6 ∷ [])
    (place 2 (route 12 14 M) 3 (waiter 3 ∷ [])
    (key (route 10 14 M))
    (key (route 12 14 M)))
    ∷ follow 2 4 ⟶ at 0 4
    ∷ carry 2 ⟶ did Walking
    ∷ carry 2 ⟶ did Decided
    ∷ follow 2 4 ⟶ at 0 4
    ∷ carry 2 ⟶ did Moved
    ∷ collect 2 ⟶ answer 4 Present
    ∷ follow 2 5 ⟶ at 0 5
    ∷ carry 2 ⟶ did Walking
    ∷ carry 2 ⟶ did Decided
    ∷ follow 2 5 ⟶ at 0 5
    ∷ carry 2 ⟶ did Moved
    ∷ shows (waiter 6 ∷ [])
    (place 2 (route 12 14 M) 2 (waiter 3 ∷ waiter 5 ∷ [])
    (key (route 10 14 M))
    (key (route 12 14 M)))
    ∷ follow 2 6 ⟶ at 0 6
    ∷ carry 2 ⟶ did Walking
    ∷ carry 2 ⟶ did Decided
    ∷ follow 2 6 ⟶ at 0 6
    ∷ carry 2 ⟶ did Moved
    ∷ collect 4 ⟶ answer 6 Absent
    ∷ follow 3 5 ⟶ at 2 3
    ∷ carry 3 ⟶ did Moved
    ∷ shows []
    (place 2 (route 12 14 M) 2 (waiter 5 ∷ [])
    (key (route 10 14 M))
    (place 3 (route 20 30 M) 2 []
    (key (route 12 14 M))
    (key (route 20 30 M))))
    ∷ follow 3 5 ⟶ at 2 5
    ∷ carry 3 ⟶ did Moved
    ∷ shows []
    (place 2 (route 12 14 M) 2 []
    (key (route 10 14 M))
    (place 3 (route 20 30 M) 1 (waiter 5 ∷ [])
    (key (route 12 14 M))
    (key (route 20 30 M))))
    ∷ submit 4 (LookUp (route 20 30 M)) ⟶ number 7
    ∷ follow 4 7 ⟶ at 0 7
    ∷ carry 4 ⟶ did Walking
    ∷ carry 4 ⟶ did Walking
    ∷ carry 4 ⟶ did Decided
    ∷ follow 4 7 ⟶ at 0 7
    ∷ carry 4 ⟶ did Moved
    ∷ collect 4 ⟶ answer 7 Absent
    ∷ follow 3 5 ⟶ at 3 5
    ∷ carry 3 ⟶ did Moved
    ∷ shows []
    (place 2 (route 12 14 M) 2 []
    (key (route 10 14 M))
    (place 3 (route 20 30 M) 1 []
    (key (route 12 14 M))
    nothing))
    ∷ collect 1 ⟶ answer 3 Changed
    ∷ collect 3 ⟶ answer 5 Changed
    ∷ reads 5 64 (Ok (2, route 10 14 M ∷ route 12 14 M ∷ []))
    ∷ []
