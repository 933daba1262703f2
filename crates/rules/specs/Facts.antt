-- Further facts of every register: how queues rise, which places are older, where requests wait, and that what is finished stays so.
use Rattle.std.specs.Prelude.{◌≡◌, ℕ, ◌<◌, true, ◌⊎◌, List, [], ◌∷◌, Some, ◌≢◌}
use Rattle.requests.specs.declared.request.Request.{Request}
use Rattle.requests.specs.declared.request.Request.TheVariants.{Count}
use Rattle.rules.specs.Kinds.{Kinds}
use Rattle.rules.specs.States.{State, Place, Waiter, leads}
use Rattle.rules.specs.Queues.{numbered, waits, finished, final_answer}
use Rattle.rules.specs.Moves.{Side, slot_on}
use Rattle.rules.specs.Calls.{Call, after, run}

-- a number is below all that wait in a queue
abbrev pub BelowAll : ℕ → List Waiter → Type 0
BelowAll n [] = Unit {0}
BelowAll n (e ∷ q) = (n < e.number) × BelowAll n q

-- numbers strictly rise from the head of a queue on
abbrev pub Rises : List Waiter → Type 0
Rises [] = Unit {0}
Rises (e ∷ q) = BelowAll e.number q × Rises q

module _ {K T : Type 0} (s : State K T) where
  -- In every queue, the gate's included, the numbers strictly rise.
  abbrev pub QueuesRise : Type 0
  QueuesRise = (p : ℕ) → Rises (s.queue p)

  -- A place, the gate included, has a number below every number that waits in its queue.
  abbrev pub OlderThanQueue : Type 0
  OlderThanQueue = (p : ℕ) → BelowAll p (s.queue p)

  -- A place has a number below that of every place that one of its slots leads to.
  abbrev pub OlderThanBelow : Type 0
  OlderThanBelow = (p q : ℕ) (f : Place K T) (side : Side) → s.place p ≡ Some f → slot_on f side ≡ leads q → p < q

  -- The gate, place 0, is below every place that is made, and below that to which its slot leads.
  abbrev pub GateOldest : Type 0
  GateOldest = ((p : ℕ) (f : Place K T) → s.place p ≡ Some f → 0 < p) × ((q : ℕ) → s.slot ≡ leads q → 0 < q)

  -- Places are older than all that waits there and all that hangs below.
  abbrev pub PlacesOlder : Type 0
  PlacesOlder = OlderThanQueue × OlderThanBelow × GateOldest

  -- a number that is no count's
  abbrev pub NoCount : ℕ → Type 0
  NoCount t = (lo hi : K) → numbered s.requests t ≢ Some (Count lo hi)

  -- A request that is no count waits at one place at most.
  abbrev pub OnePlaceAtMost : Type 0
  OnePlaceAtMost = (t p q : ℕ) → NoCount t → waits s t p ≡ true → waits s t q ≡ true → p ≡ q

  -- Any request, a count too, waits at two places at most: of any three where it waits two are the same.
  abbrev pub TwoPlacesAtMost : Type 0
  TwoPlacesAtMost =
      (t p q o : ℕ) → waits s t p ≡ true → waits s t q ≡ true → waits s t o ≡ true → (p ≡ q) ⊎ ((p ≡ o) ⊎ (q ≡ o))

  -- Requests wait at one place at most, but for counts, which may wait at two.
  abbrev pub OnePlace : Type 0
  OnePlace = OnePlaceAtMost × TwoPlacesAtMost

module _ {K T : Type 0} (w : Kinds K T) where
  -- Whatever is called next: a request that is finished stays finished, and keeps its answer.
  abbrev pub FinishedStays : State K T → Type 0
  FinishedStays s =
      (c : Call K) (t : ℕ) (r : Request K) → numbered s.requests t ≡ Some r → finished s t ≡ true
      → (finished (after w s c) t ≡ true) × (final_answer (after w s c) t ≡ final_answer s t)

  -- the four of every state that calls lead to from the opening
  abbrev pub RegisterFacts : Type 0
  RegisterFacts =
      (cells : ℕ) (cs : List (Call K))
      → QueuesRise (run w cells cs) × PlacesOlder (run w cells cs) × OnePlace (run w cells cs) × FinishedStays (run w cells cs)
