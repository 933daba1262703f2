-- Registers over few cells, and rows that are too short.
use Rattle.std.specs.Prelude.{List, [], ◌∷◌, Ok, Err}
use Rattle.keys.specs.declared.class.Class.TheVariants.{M}
use Rattle.keys.specs.declared.route.Route.{Route}
use Rattle.keys.specs.declared.refusal.Refusal.TheVariants.{Full, NotGiven, NoNote, NothingToCollect, TooShort}
use Rattle.requests.specs.declared.answer.Answer.TheVariants.{Changed}
use Rattle.requests.specs.declared.request.Request.TheVariants.{Enter}
use Rattle.rules.specs.declared.carried.Carried.TheVariants.{Decided, Moved}
use Rattle.rules.specs.Calls.{submit, follow, carry, collect}
use Rattle.edges.specs.Tables.{Line, ◌⟶◌, reads, number, at, did, answer, refused}
use Rattle.edges.specs.Worked.{route}

-- over one cell: a second request finds no room, even when the first is finished; reading off needs room for one key and one value
abbrev pub one_cell : List (Line Route)
one_cell =
    submit 1 (Enter (route 12 14 M)) ⟶ number 1
    ∷ submit 2 (Enter (route 10 14 M)) ⟶ refused Full
    ∷ follow 2 1 ⟶ at 0 1
    ∷ carry 2 ⟶ did Decided
    ∷ follow 2 1 ⟶ at 0 1
    ∷ carry 2 ⟶ did Moved
    ∷ submit 2 (Enter (route 10 14 M)) ⟶ refused Full
    ∷ collect 1 ⟶ answer 1 Changed
    ∷ reads 0 1 (Err TooShort)
    ∷ reads 1 0 (Err TooShort)
    ∷ reads 1 1 (Ok (1, route 12 14 M ∷ []))
    ∷ []

-- over no cell: nothing is taken, and reading off lists nothing
abbrev pub no_cell : List (Line Route)
no_cell =
    submit 1 (Enter (route 12 14 M)) ⟶ refused Full
    ∷ follow 1 1 ⟶ refused NotGiven
    ∷ carry 1 ⟶ refused NoNote
    ∷ collect 1 ⟶ refused NothingToCollect
    ∷ reads 0 0 (Ok (0, []))
    ∷ []
