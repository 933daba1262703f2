-- What a carry does by the station's note.
use Rattle.std.specs.Prelude.{ℕ, zero, suc, Bool, true, false, cond, List, [], ◌∷◌, Some, None, Option, ◌==◌}
use Rattle.requests.specs.declared.request.Request.{Request}
use Rattle.requests.specs.declared.request.Request.TheVariants.{Enter, Withdraw, LookUp, Count}
use Rattle.rules.specs.declared.carried.Carried.{Carried}
use Rattle.rules.specs.declared.carried.Carried.TheVariants.{Late, Decided, Walking, Moved}
use Rattle.rules.specs.declared.note.Note.{Note}
use Rattle.rules.specs.declared.note.Note.TheVariants as note
use Rattle.rules.specs.Kinds.{Kinds, same}
use Rattle.rules.specs.States.{State, Slot, Waiter, empty, holds, leads}
use Rattle.rules.specs.Queues.{numbered}
use Rattle.rules.specs.Changes.{with_decision, with_note}
use Rattle.rules.specs.Moves.{slot_for, moved}

-- the key that a request wants decided; a count has none
abbrev pub sought : {K : Type 0} → Request K → Option K
sought (Enter k) = Some k
sought (Withdraw k) = Some k
sought (LookUp k) = Some k
sought (Count lo hi) = None

-- what a request says of a key that it changes: an enter that it is present, a withdraw that it is absent
abbrev pub says : {K T : Type 0} → Kinds K T → K → Request K → Option Bool
says w k (Enter j) = cond (same w k j) (Some true) None
says w k (Withdraw j) = cond (same w k j) (Some false) None
says w k (LookUp j) = None
says w k (Count lo hi) = None

-- the later word where there is one, else the earlier
abbrev pub later : Option Bool → Option Bool → Option Bool
later (Some d) earlier = Some d
later None earlier = earlier

module _ {K T : Type 0} (w : Kinds K T) where
  -- what the last enter or withdraw of a key in a queue says
  abbrev pub last_word : List (Request K) → K → List Waiter → Option Bool
  last_word rs k [] = None
  last_word rs k (e ∷ q) =
      later (last_word rs k q) (elim (numbered rs e.number) [ None ↦ None | Some r ↦ says w k r ])

  module _ (s : State K T) (n : ℕ) where
    -- what the station leaves: its note is dropped
    abbrev pub dropped : State K T → State K T
    dropped x = with_note x n note.None

    abbrev pub late : Carried × State K T
    late = (Late, dropped s)

    -- the decision of request t is written
    abbrev pub decided : ℕ → Bool → Carried × State K T
    decided t d = (Decided, dropped (with_decision s t d))

    -- a slot read for request t and its key: it decides, or leads one place on
    abbrev pub read_slot : ℕ → K → Slot K → Carried × State K T
    read_slot t k empty = decided t false
    read_slot t k (holds j) = decided t (same w j k)
    read_slot t k (leads f) = (Walking, with_note s n (note.Walk t f))

    -- the head e of p's queue, with its request r, moves
    abbrev pub move : ℕ → Waiter → Request K → Carried × State K T
    move p e r = (Moved, dropped (moved w s p e r))

    -- at the gate, a request that is no count is decided before it moves
    abbrev pub at_gate : Waiter → Request K → Option K → Option Bool → Carried × State K T
    at_gate e r None d = move 0 e r
    at_gate e r (Some k) (Some d) = move 0 e r
    at_gate e r (Some k) None = read_slot e.number k s.slot

    abbrev pub at_head : ℕ → Waiter → Request K → Carried × State K T
    at_head zero e r = at_gate e r (sought r) (s.decision e.number)
    at_head (suc p) e r = move (suc p) e r

    -- the note says that request t was seen at the head of p's queue
    abbrev pub saw : ℕ → ℕ → List Waiter → Carried × State K T
    saw t p [] = late
    saw t p (e ∷ q) = cond (e.number == t) (elim (numbered s.requests t) [ None ↦ late | Some r ↦ at_head p e r ]) late

    -- the note says that the decision of request t is sought, next at place p
    abbrev pub look : ℕ → ℕ → K → Option Bool → Carried × State K T
    look t p k (Some d) = decided t d
    look t p k None = read_slot t k (slot_for w s p k)

    abbrev pub walk : ℕ → ℕ → Option Bool → Option K → Carried × State K T
    walk t p (Some d) k = late
    walk t p None None = late
    walk t p None (Some k) = look t p k (last_word s.requests k (s.queue p))

    -- a carry by the note; without one there is nothing to carry
    abbrev pub carried : Note → Carried × State K T
    carried note.None = late
    carried (note.Saw t p) = saw t p (s.queue p)
    carried (note.Walk t p) = walk t p (s.decision t) (elim (numbered s.requests t) [ None ↦ None | Some r ↦ sought r ])
