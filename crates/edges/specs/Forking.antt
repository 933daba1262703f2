-- The third worked run: a count that forks, with a withdraw on its way before it and an enter behind it.
use Rattle.std.specs.Prelude.{List, [], ◌∷◌, Ok}
use Rattle.keys.specs.declared.class.Class.TheVariants.{M}
use Rattle.keys.specs.declared.route.Route.{Route}
use Rattle.requests.specs.declared.answer.Answer.TheVariants.{Changed, Counted}
use Rattle.requests.specs.declared.request.Request.TheVariants.{Enter, Withdraw, Count}
use Rattle.rules.specs.declared.carried.Carried.TheVariants.{Decided, Walking, Moved}
use Rattle.rules.specs.declared.mode.Mode.TheVariants.{Between, From, Upto}
use Rattle.rules.specs.Calls.{submit, follow, carry, collect}
use Rattle.edges.specs.Tables.{Line, ◌⟶◌, reads, shows, number, at, did, answer, nothing, key, place}
use Rattle.edges.specs.Worked.{route, waiter, counter}

-- the count takes the whole of a place where a withdraw still waits, and is not changed by the enter behind it
abbrev pub forking : List (Line Route)
forking =
    submit 1 (Enter (route 10 1 M)) ⟶ number 1
    ∷ follow 1 1 ⟶ at 0 1
    ∷ carry 1 ⟶ did Decided
    ∷ follow 1 1 ⟶ at 0 1
    ∷ carry 1 ⟶ did Moved
    ∷ collect 1 ⟶ answer 1 Changed
    ∷ submit 1 (Enter (route 20 1 M)) ⟶ number 2
    ∷ follow 1 2 ⟶ at 0 2
    ∷ carry 1 ⟶ did Decided
    ∷ follow 1 2 ⟶ at 0 2
    ∷ carry 1 ⟶ did Moved
    ∷ collect 1 ⟶ answer 2 Changed
    ∷ submit 1 (Enter (route 30 1 M)) ⟶ number 3
    ∷ follow 1 3 ⟶ at 0 3
    ∷ carry 1 ⟶ did Walking
    ∷ carry 1 ⟶ did Decided
    ∷ follow 1 3 ⟶ at 0 3
    ∷ carry 1 ⟶ did Moved
    ∷ follow 1 3 ⟶ at 2 3
    ∷ carry 1 ⟶ did Moved
    ∷ collect 1 ⟶ answer 3 Changed
    ∷ submit 1 (Enter (route 5 1 M)) ⟶ number 4
    ∷ follow 1 4 ⟶ at 0 4
    ∷ carry 1 ⟶ did Walking
    ∷ carry 1 ⟶ did Decided
    ∷ follow 1 4 ⟶ at 0 4
    ∷ carry 1 ⟶ did Moved
    ∷ follow 1 4 ⟶ at 2 4
    ∷ carry 1 ⟶ did Moved
    ∷ collect 1 ⟶ answer 4 Changed
    ∷ submit 1 (Enter (route 15 1 M)) ⟶ number 5
    ∷ follow 1 5 ⟶ at 0 5
    ∷ carry 1 ⟶ did Walking
    ∷ carry 1 ⟶ did Walking
    ∷ carry 1 ⟶ did Decided
    ∷ follow 1 5 ⟶ at 0 5
    ∷ carry 1 ⟶ did Moved
    ∷ follow 1 5 ⟶ at 2 5
    ∷ carry 1 ⟶ did Moved
    ∷ follow 1 5 ⟶ at 4 5
    ∷ carry 1 ⟶ did Moved
    ∷ collect 1 ⟶ answer 5 Changed
    ∷ shows []
    (place 2 (route 20 1 M) 5 []
    (place 4 (route 10 1 M) 3 []
    (key (route 5 1 M))
    (place 5 (route 15 1 M) 2 []
    (key (route 10 1 M))
    (key (route 15 1 M))))
    (place 3 (route 30 1 M) 2 []
    (key (route 20 1 M))
    (key (route 30 1 M))))
    ∷ submit 1 (Withdraw (route 10 1 M)) ⟶ number 6
    ∷ submit 2 (Count (route 7 1 M) (route 25 1 M)) ⟶ number 7
    ∷ submit 3 (Enter (route 16 1 M)) ⟶ number 8
    ∷ follow 1 6 ⟶ at 0 6
    ∷ carry 1 ⟶ did Walking
    ∷ carry 1 ⟶ did Walking
    ∷ carry 1 ⟶ did Walking
    ∷ carry 1 ⟶ did Decided
    ∷ follow 1 6 ⟶ at 0 6
    ∷ carry 1 ⟶ did Moved
    ∷ follow 1 6 ⟶ at 2 6
    ∷ carry 1 ⟶ did Moved
    ∷ follow 1 6 ⟶ at 4 6
    ∷ carry 1 ⟶ did Moved
    ∷ follow 2 7 ⟶ at 0 7
    ∷ carry 2 ⟶ did Moved
    ∷ follow 3 8 ⟶ at 0 8
    ∷ carry 3 ⟶ did Walking
    ∷ carry 3 ⟶ did Walking
    ∷ carry 3 ⟶ did Walking
    ∷ carry 3 ⟶ did Decided
    ∷ follow 3 8 ⟶ at 0 8
    ∷ carry 3 ⟶ did Moved
    ∷ shows []
    (place 2 (route 20 1 M) 5 (counter 7 Between ∷ waiter 8 ∷ [])
    (place 4 (route 10 1 M) 2 []
    (key (route 5 1 M))
    (place 5 (route 15 1 M) 1 (waiter 6 ∷ [])
    (key (route 10 1 M))
    (key (route 15 1 M))))
    (place 3 (route 30 1 M) 2 []
    (key (route 20 1 M))
    (key (route 30 1 M))))
    ∷ follow 2 7 ⟶ at 2 7
    ∷ carry 2 ⟶ did Moved
    ∷ shows []
    (place 2 (route 20 1 M) 5 (waiter 8 ∷ [])
    (place 4 (route 10 1 M) 2 (counter 7 From ∷ [])
    (key (route 5 1 M))
    (place 5 (route 15 1 M) 1 (waiter 6 ∷ [])
    (key (route 10 1 M))
    (key (route 15 1 M))))
    (place 3 (route 30 1 M) 2 (counter 7 Upto ∷ [])
    (key (route 20 1 M))
    (key (route 30 1 M))))
    ∷ follow 3 8 ⟶ at 2 8
    ∷ carry 3 ⟶ did Moved
    ∷ follow 2 7 ⟶ at 3 7
    ∷ carry 2 ⟶ did Moved
    ∷ follow 2 7 ⟶ at 4 7
    ∷ carry 2 ⟶ did Moved
    ∷ collect 2 ⟶ answer 7 (Counted 2)
    ∷ follow 1 6 ⟶ at 5 6
    ∷ carry 1 ⟶ did Moved
    ∷ collect 1 ⟶ answer 6 Changed
    ∷ follow 3 8 ⟶ at 4 8
    ∷ carry 3 ⟶ did Moved
    ∷ follow 3 8 ⟶ at 5 8
    ∷ carry 3 ⟶ did Moved
    ∷ collect 3 ⟶ answer 8 Changed
    ∷ shows []
    (place 2 (route 20 1 M) 5 []
    (place 4 (route 10 1 M) 3 []
    (key (route 5 1 M))
    (place 5 (route 15 1 M) 2 []
    nothing
    (place 8 (route 16 1 M) 2 []
    (key (route 15 1 M))
    (key (route 16 1 M)))))
    (place 3 (route 30 1 M) 2 []
    (key (route 20 1 M))
    (key (route 30 1 M))))
    ∷ reads 5 64 (Ok (5, route 5 1 M ∷ route 15 1 M ∷ route 16 1 M ∷ route 20 1 M ∷ route 30 1 M ∷ []))
    ∷ []
