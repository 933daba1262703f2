-- The first worked run: two stations enter, a third helps them on and counts.
use Rattle.std.specs.Prelude.{List, [], ◌∷◌, Ok, Err}
use Rattle.keys.specs.declared.class.Class.TheVariants.{M, S}
use Rattle.keys.specs.declared.route.Route.{Route}
use Rattle.keys.specs.declared.refusal.Refusal.TheVariants.{Uncollected, Finished, NoNote, NothingToCollect, Unfinished}
use Rattle.requests.specs.declared.answer.Answer.TheVariants.{Changed, Counted}
use Rattle.requests.specs.declared.request.Request.TheVariants.{Enter, LookUp, Count}
use Rattle.rules.specs.declared.carried.Carried.TheVariants.{Late, Decided, Moved}
use Rattle.rules.specs.declared.mode.Mode.TheVariants.{Between}
use Rattle.rules.specs.Calls.{submit, follow, carry, collect}
use Rattle.edges.specs.Tables.{Line, ◌⟶◌, reads, shows, number, at, did, answer, refused, nothing, key, place}
use Rattle.edges.specs.Worked.{route, waiter, counter}

-- two routes make a place, and the count of the third station takes them both
abbrev pub helping : List (Line Route)
helping =
    submit 1 (Enter (route 12 14 M)) ⟶ number 1
    ∷ submit 2 (Enter (route 10 14 M)) ⟶ number 2
    ∷ submit 3 (Count (route 10 14 M) (route 12 14 S)) ⟶ number 3
    ∷ shows (waiter 1 ∷ waiter 2 ∷ waiter 3 ∷ []) nothing
    ∷ follow 3 2 ⟶ at 0 1
    ∷ carry 3 ⟶ did Decided
    ∷ collect 3 ⟶ refused Unfinished
    ∷ submit 3 (LookUp (route 12 14 M)) ⟶ refused Uncollected
    ∷ reads 5 64 (Err Unfinished)
    ∷ follow 3 2 ⟶ at 0 1
    ∷ follow 1 1 ⟶ at 0 1
    ∷ carry 3 ⟶ did Moved
    ∷ carry 1 ⟶ did Late
    ∷ shows (waiter 2 ∷ waiter 3 ∷ []) (key (route 12 14 M))
    ∷ collect 1 ⟶ answer 1 Changed
    ∷ collect 1 ⟶ refused NothingToCollect
    ∷ follow 3 2 ⟶ at 0 2
    ∷ carry 3 ⟶ did Decided
    ∷ follow 3 2 ⟶ at 0 2
    ∷ carry 3 ⟶ did Moved
    ∷ carry 3 ⟶ refused NoNote
    ∷ follow 3 2 ⟶ refused Finished
    ∷ shows (waiter 3 ∷ [])
    (place 2 (route 12 14 M) 2 []
    (key (route 10 14 M))
    (key (route 12 14 M)))
    ∷ collect 2 ⟶ answer 2 Changed
    ∷ follow 3 3 ⟶ at 0 3
    ∷ carry 3 ⟶ did Moved
    ∷ shows []
    (place 2 (route 12 14 M) 2 (counter 3 Between ∷ [])
    (key (route 10 14 M))
    (key (route 12 14 M)))
    ∷ follow 3 3 ⟶ at 2 3
    ∷ carry 3 ⟶ did Moved
    ∷ collect 3 ⟶ answer 3 (Counted 2)
    ∷ reads 5 64 (Ok (2, route 10 14 M ∷ route 12 14 M ∷ []))
    ∷ []
