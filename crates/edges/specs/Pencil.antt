-- The plain set done with a pencil: each line has a request, the set after it and the answer.
use Rattle.std.specs.Prelude.{◌≡◌, ℕ, List, [], ◌∷◌}
use Rattle.keys.specs.declared.class.Class.TheVariants.{M, W, C, S}
use Rattle.keys.specs.declared.route.Route.{Route}
use Rattle.tallies.specs.declared.number.Number.{Number}
use Rattle.requests.specs.declared.answer.Answer.{Answer}
use Rattle.requests.specs.declared.answer.Answer.TheVariants.{Changed, Unchanged, Absent, Counted}
use Rattle.requests.specs.declared.request.Request.{Request}
use Rattle.requests.specs.declared.request.Request.TheVariants.{Enter, Withdraw, LookUp, Count}
use Rattle.rules.specs.Kinds.{Kinds}
use Rattle.rules.specs.Plain.{done, answered}
use Rattle.edges.specs.Tables.{by_value}
use Rattle.edges.specs.Worked.{route}

pub data Pencilled (K : Type 0) : Type 0 where
  -- a request, the set that it leaves, and its answer, a tally by its value
  does : Request K → List K → Answer ℕ → Pencilled K

module _ {K : Type 0} (w : Kinds K Number) where
  -- the lines, with what the plain set gives in place of what they say
  abbrev pub pencilled : List K → List (Pencilled K) → List (Pencilled K)
  pencilled ks [] = []
  pencilled ks (does r set answer ∷ lines) = does r (done w r ks) (by_value (answered w r ks)) ∷ pencilled (done w r ks) lines

  -- the lines hold from the empty set on
  abbrev pub PencilAgrees : List (Pencilled K) → Type 0
  PencilAgrees lines = pencilled [] lines ≡ lines

-- one key, entered, counted, withdrawn and looked up
abbrev pub one_key_by_hand : List (Pencilled Route)
one_key_by_hand =
    does (Enter (route 12 14 M)) (route 12 14 M ∷ []) Changed
    ∷ does (Enter (route 12 14 M)) (route 12 14 M ∷ []) Unchanged
    ∷ does (Count (route 12 14 M) (route 12 14 M)) (route 12 14 M ∷ []) (Counted 1)
    ∷ does (Withdraw (route 12 14 M)) [] Changed
    ∷ does (LookUp (route 12 14 M)) [] Absent
    ∷ does (Withdraw (route 12 14 M)) [] Unchanged
    ∷ []

-- the rows of an archive, two of them unfinished when it was written
abbrev pub archive_by_hand : List (Pencilled Route)
archive_by_hand =
    does (Enter (route 12 14 M)) (route 12 14 M ∷ []) Changed
    ∷ does (Enter (route 10 14 M)) (route 10 14 M ∷ route 12 14 M ∷ []) Changed
    ∷ does (Count (route 10 14 M) (route 12 14 S)) (route 10 14 M ∷ route 12 14 M ∷ []) (Counted 2)
    ∷ does (Enter (route 11 14 W)) (route 10 14 M ∷ route 11 14 W ∷ route 12 14 M ∷ []) Changed
    ∷ does (Withdraw (route 10 14 M)) (route 11 14 W ∷ route 12 14 M ∷ []) Changed
    ∷ does (LookUp (route 10 14 M)) (route 11 14 W ∷ route 12 14 M ∷ []) Absent
    ∷ does (Count (route 12 14 M) (route 9999 9999 S)) (route 11 14 W ∷ route 12 14 M ∷ []) (Counted 1)
    ∷ does (Enter (route 12 14 M)) (route 11 14 W ∷ route 12 14 M ∷ []) Unchanged
    ∷ does (Withdraw (route 99 1 C)) (route 11 14 W ∷ route 12 14 M ∷ []) Unchanged
    ∷ does (Count (route 1 1 M) (route 9999 9999 S)) (route 11 14 W ∷ route 12 14 M ∷ []) (Counted 2)
    ∷ []
