-- Turns that stations take at one place: a walk overtaken, the two halves of a count carried by two stations,
-- several requests of one key in one queue.
use Rattle.std.specs.Prelude.{List, [], ◌∷◌, ◌++◌, Ok}
use Rattle.keys.specs.declared.class.Class.TheVariants.{M, S}
use Rattle.keys.specs.declared.route.Route.{Route}
use Rattle.keys.specs.declared.refusal.Refusal.TheVariants.{NoNote, Unfinished}
use Rattle.requests.specs.declared.answer.Answer.TheVariants.{Changed, Present, Counted}
use Rattle.requests.specs.declared.request.Request.TheVariants.{Enter, Withdraw, LookUp, Count}
use Rattle.rules.specs.declared.carried.Carried.TheVariants.{Late, Decided, Walking, Moved}
use Rattle.rules.specs.declared.mode.Mode.TheVariants.{Between, From, Upto}
use Rattle.rules.specs.Calls.{submit, follow, carry, collect}
use Rattle.edges.specs.Tables.{Line, ◌⟶◌, reads, shows, number, at, did, answer, refused, nothing, key, place}
use Rattle.edges.specs.Worked.{route, waiter, counter, two_entered}

-- a register in the middle of its work: an enter and, behind it, a count wait at a place
abbrev pub in_the_middle : List (Line Route)
in_the_middle =
    two_entered ++ (
    submit 1 (Enter (route 20 30 M)) ⟶ number 3
    ∷ submit 2 (Count (route 10 14 M) (route 12 14 S)) ⟶ number 4
    ∷ submit 3 (LookUp (route 12 14 M)) ⟶ number 5
    ∷ follow 1 3 ⟶ at 0 3
    ∷ carry 1 ⟶ did Walking
    ∷ carry 1 ⟶ did Decided
    ∷ follow 1 3 ⟶ at 0 3
    ∷ carry 1 ⟶ did Moved
    ∷ follow 1 4 ⟶ at 0 4
    ∷ carry 1 ⟶ did Moved
    ∷ shows (waiter 5 ∷ [])
    (place 2 (route 12 14 M) 3 (waiter 3 ∷ counter 4 Between ∷ [])
    (key (route 10 14 M))
    (key (route 12 14 M)))
    ∷ []
    )

-- two stations walk for one request: the decision of one makes the other late
abbrev pub walk_overtaken : List (Line Route)
walk_overtaken =
    two_entered ++ (
    submit 1 (LookUp (route 10 14 M)) ⟶ number 3
    ∷ follow 1 3 ⟶ at 0 3
    ∷ carry 1 ⟶ did Walking
    ∷ follow 2 3 ⟶ at 0 3
    ∷ carry 2 ⟶ did Walking
    ∷ carry 2 ⟶ did Decided
    ∷ carry 1 ⟶ did Late
    ∷ carry 1 ⟶ refused NoNote
    ∷ follow 2 3 ⟶ at 0 3
    ∷ follow 1 3 ⟶ at 0 3
    ∷ carry 1 ⟶ did Moved
    ∷ carry 2 ⟶ did Late
    ∷ collect 1 ⟶ answer 3 Present
    ∷ []
    )

-- a walk goes on late even when its request was long carried to its end
abbrev pub walk_outlived : List (Line Route)
walk_outlived =
    two_entered ++ (
    submit 1 (Withdraw (route 10 14 M)) ⟶ number 3
    ∷ follow 1 3 ⟶ at 0 3
    ∷ carry 1 ⟶ did Walking
    ∷ follow 2 3 ⟶ at 0 3
    ∷ carry 2 ⟶ did Walking
    ∷ carry 2 ⟶ did Decided
    ∷ follow 2 3 ⟶ at 0 3
    ∷ carry 2 ⟶ did Moved
    ∷ follow 2 3 ⟶ at 2 3
    ∷ carry 2 ⟶ did Moved
    ∷ carry 1 ⟶ did Late
    ∷ shows []
    (place 2 (route 12 14 M) 1 []
    nothing
    (key (route 12 14 M)))
    ∷ collect 1 ⟶ answer 3 Changed
    ∷ reads 5 64 (Ok (1, route 12 14 M ∷ []))
    ∷ []
    )

-- a count forks, and two stations carry its halves; the one that saw the first half too is late there
abbrev pub halves_shared : List (Line Route)
halves_shared =
    two_entered ++ (
    submit 1 (Enter (route 5 14 M)) ⟶ number 3
    ∷ follow 1 3 ⟶ at 0 3
    ∷ carry 1 ⟶ did Walking
    ∷ carry 1 ⟶ did Decided
    ∷ follow 1 3 ⟶ at 0 3
    ∷ carry 1 ⟶ did Moved
    ∷ follow 1 3 ⟶ at 2 3
    ∷ carry 1 ⟶ did Moved
    ∷ collect 1 ⟶ answer 3 Changed
    ∷ submit 1 (Enter (route 30 14 M)) ⟶ number 4
    ∷ follow 1 4 ⟶ at 0 4
    ∷ carry 1 ⟶ did Walking
    ∷ carry 1 ⟶ did Decided
    ∷ follow 1 4 ⟶ at 0 4
    ∷ carry 1 ⟶ did Moved
    ∷ follow 1 4 ⟶ at 2 4
    ∷ carry 1 ⟶ did Moved
    ∷ collect 1 ⟶ answer 4 Changed
    ∷ submit 3 (Count (route 8 1 M) (route 20 1 M)) ⟶ number 5
    ∷ follow 3 5 ⟶ at 0 5
    ∷ carry 3 ⟶ did Moved
    ∷ follow 3 5 ⟶ at 2 5
    ∷ carry 3 ⟶ did Moved
    ∷ shows []
    (place 2 (route 12 14 M) 4 []
    (place 3 (route 10 14 M) 2 (counter 5 From ∷ [])
    (key (route 5 14 M))
    (key (route 10 14 M)))
    (place 4 (route 30 14 M) 2 (counter 5 Upto ∷ [])
    (key (route 12 14 M))
    (key (route 30 14 M))))
    ∷ follow 6 5 ⟶ at 3 5
    ∷ follow 7 5 ⟶ at 3 5
    ∷ carry 7 ⟶ did Moved
    ∷ carry 6 ⟶ did Late
    ∷ collect 3 ⟶ refused Unfinished
    ∷ follow 6 5 ⟶ at 4 5
    ∷ carry 6 ⟶ did Moved
    ∷ collect 3 ⟶ answer 5 (Counted 2)
    ∷ []
    )

-- an enter, a withdraw and an enter of one key wait in one queue: each is decided by the last before it
abbrev pub last_decides : List (Line Route)
last_decides =
    two_entered ++ (
    submit 1 (Enter (route 20 30 M)) ⟶ number 3
    ∷ submit 2 (Withdraw (route 20 30 M)) ⟶ number 4
    ∷ submit 3 (Enter (route 20 30 M)) ⟶ number 5
    ∷ submit 4 (LookUp (route 20 30 M)) ⟶ number 6
    ∷ follow 8 3 ⟶ at 0 3
    ∷ carry 8 ⟶ did Walking
    ∷ carry 8 ⟶ did Decided
    ∷ follow 8 3 ⟶ at 0 3
    ∷ carry 8 ⟶ did Moved
    ∷ follow 8 4 ⟶ at 0 4
    ∷ carry 8 ⟶ did Walking
    ∷ carry 8 ⟶ did Decided
    ∷ follow 8 4 ⟶ at 0 4
    ∷ carry 8 ⟶ did Moved
    ∷ shows (waiter 5 ∷ waiter 6 ∷ [])
    (place 2 (route 12 14 M) 2 (waiter 3 ∷ waiter 4 ∷ [])
    (key (route 10 14 M))
    (key (route 12 14 M)))
    ∷ follow 8 5 ⟶ at 0 5
    ∷ carry 8 ⟶ did Walking
    ∷ carry 8 ⟶ did Decided
    ∷ follow 8 5 ⟶ at 0 5
    ∷ carry 8 ⟶ did Moved
    ∷ shows (waiter 6 ∷ [])
    (place 2 (route 12 14 M) 3 (waiter 3 ∷ waiter 4 ∷ waiter 5 ∷ [])
    (key (route 10 14 M))
    (key (route 12 14 M)))
    ∷ follow 8 6 ⟶ at 0 6
    ∷ carry 8 ⟶ did Walking
    ∷ carry 8 ⟶ did Decided
    ∷ follow 8 6 ⟶ at 0 6
    ∷ carry 8 ⟶ did Moved
    ∷ collect 4 ⟶ answer 6 Present
    ∷ follow 3 5 ⟶ at 2 3
    ∷ carry 3 ⟶ did Moved
    ∷ follow 3 5 ⟶ at 2 4
    ∷ carry 3 ⟶ did Moved
    ∷ follow 3 5 ⟶ at 2 5
    ∷ carry 3 ⟶ did Moved
    ∷ shows []
    (place 2 (route 12 14 M) 3 []
    (key (route 10 14 M))
    (place 3 (route 20 30 M) 2 (waiter 4 ∷ waiter 5 ∷ [])
    (key (route 12 14 M))
    (key (route 20 30 M))))
    ∷ follow 3 5 ⟶ at 3 4
    ∷ carry 3 ⟶ did Moved
    ∷ follow 3 5 ⟶ at 3 5
    ∷ carry 3 ⟶ did Moved
    ∷ shows []
    (place 2 (route 12 14 M) 3 []
    (key (route 10 14 M))
    (place 3 (route 20 30 M) 2 []
    (key (route 12 14 M))
    (key (route 20 30 M))))
    ∷ collect 1 ⟶ answer 3 Changed
    ∷ collect 2 ⟶ answer 4 Changed
    ∷ collect 3 ⟶ answer 5 Changed
    ∷ reads 3 64 (Ok (3, route 10 14 M ∷ route 12 14 M ∷ route 20 30 M ∷ []))
    ∷ []
    )
