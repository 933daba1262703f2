-- A request moved at a place: what an enter, a withdraw, a look-up and a count do there.
use Rattle.std.specs.Prelude.{ℕ, zero, suc, Bool, true, false, cond, List, [], ◌∷◌, Some, None, Option}
use Rattle.requests.specs.declared.answer.Answer.TheVariants.{Changed, Unchanged, Present, Absent}
use Rattle.requests.specs.declared.request.Request.{Request}
use Rattle.requests.specs.declared.request.Request.TheVariants.{Enter, Withdraw, LookUp, Count}
use Rattle.rules.specs.declared.mode.Mode.{Mode}
use Rattle.rules.specs.declared.mode.Mode.TheVariants.{Between, From, Upto}
use Rattle.rules.specs.Kinds.{Kinds, before, greater, lesser}
use Rattle.rules.specs.Plain.{within}
use Rattle.rules.specs.States.{State, Slot, Place, Waiter, empty, holds, leads}
use Rattle.rules.specs.Queues.{behind}
use Rattle.rules.specs.Changes.{with_answer, with_counted, with_gate, with_place, with_queue, with_waiter}

-- the two sides of a place
pub data Side : Type 0 where
  on_left : Side
  on_right : Side

abbrev pub slot_on : {K T : Type 0} → Place K T → Side → Slot K
slot_on f on_left = f.left
slot_on f on_right = f.right

abbrev pub with_slot_on : {K T : Type 0} → Place K T → Side → Slot K → Place K T
with_slot_on f on_left x = record { split = f.split; left = x; right = f.right; tally = f.tally }
with_slot_on f on_right x = record { split = f.split; left = f.left; right = x; tally = f.tally }

abbrev pub with_tally : {K T : Type 0} → Place K T → T → Place K T
with_tally f t = record { split = f.split; left = f.left; right = f.right; tally = t }

-- a decision that is missing counts as absent; no request is moved before it has one, but for counts
abbrev pub is_present : Option Bool → Bool
is_present None = false
is_present (Some d) = d

-- what a count does at a place: it is shown a slot in a mode, or adds a slot's whole
pub data Step : Type 0 where
  show : Side → Mode → Step
  add : Side → Step

-- the table of modes, by whether lo is at least the split and whether hi is below it
abbrev pub count_steps : Mode → Bool → Bool → List Step
count_steps Between true below = show on_right Between ∷ []
count_steps Between false true = show on_left Between ∷ []
count_steps Between false false = show on_left From ∷ (show on_right Upto ∷ [])
count_steps From true below = show on_right From ∷ []
count_steps From false below = add on_right ∷ (show on_left From ∷ [])
count_steps Upto above true = show on_left Upto ∷ []
count_steps Upto above false = add on_left ∷ (show on_right Upto ∷ [])

module _ {K T : Type 0} (w : Kinds K T) where
  -- a key below the split belongs left, any other right
  abbrev pub side_of : Place K T → K → Side
  side_of f k = cond (before w k f.split) on_left on_right

  -- which keys a count wants in a mode
  abbrev pub wanted : K → K → Mode → K → Bool
  wanted lo hi Between k = within w lo hi k
  wanted lo hi From k = w.le lo k
  wanted lo hi Upto k = w.le k hi

  -- the place that two keys make
  abbrev pub made_place : K → K → Place K T
  made_place j k = record {
    split = greater w j k;
    left = holds (lesser w j k);
    right = holds (greater w j k);
    tally = w.joined (w.weighed j) (w.weighed k);
  }

  module _ (s : State K T) where
    -- the slot on the key's side; the gate has only one
    abbrev pub slot_for : ℕ → K → Slot K
    slot_for zero k = s.slot
    slot_for (suc p) k = elim (s.place (suc p)) [ None ↦ empty | Some f ↦ slot_on f (side_of f k) ]

    -- that slot written
    abbrev pub with_slot_for : ℕ → K → Slot K → State K T
    with_slot_for zero k x = with_gate s x
    with_slot_for (suc p) k x = elim (s.place (suc p)) [ None ↦ s | Some f ↦ with_place s (suc p) (with_slot_on f (side_of f k) x) ]

    -- a place's tally joined with a weight
    abbrev pub with_joined : ℕ → T → State K T
    with_joined p weight = elim (s.place p) [ None ↦ s | Some f ↦ with_place s p (with_tally f (w.joined f.tally weight)) ]

    -- a count's tally joined with a weight
    abbrev pub with_added : ℕ → T → State K T
    with_added t weight = with_counted s t (w.joined (s.counted t) weight)

    -- the whole of a slot: zero, its key's weight or its place's tally
    abbrev pub whole : Slot K → T
    whole empty = w.none
    whole (holds k) = w.weighed k
    whole (leads p) = elim (s.place p) [ None ↦ w.none | Some f ↦ f.tally ]

    -- request t, entering k, meets the slot x at place p
    abbrev pub enter_at : ℕ → ℕ → K → Slot K → State K T
    enter_at t p k empty = with_answer (with_slot_for p k (holds k)) t Changed
    enter_at t p k (holds j) = with_answer (with_place (with_slot_for p k (leads t)) t (made_place j k)) t Changed
    enter_at t p k (leads f) = with_waiter (with_joined f (w.weighed k)) f t Between

    -- request t, withdrawing k, meets the slot x at place p; an empty slot is never met
    abbrev pub withdraw_at : ℕ → ℕ → K → Slot K → State K T
    withdraw_at t p k empty = s
    withdraw_at t p k (holds j) = with_answer (with_slot_for p k empty) t Changed
    withdraw_at t p k (leads f) = with_waiter (with_joined f (w.opposed (w.weighed k))) f t Between

    -- count t is shown a slot in a mode
    abbrev pub shown : ℕ → K → K → Mode → Slot K → State K T
    shown t lo hi m empty = s
    shown t lo hi m (holds k) = with_added t (cond (wanted lo hi m k) (w.weighed k) w.none)
    shown t lo hi m (leads f) = with_waiter s f t m

  -- count t takes one step at a place
  abbrev pub stepped : State K T → ℕ → K → K → Place K T → Step → State K T
  stepped s t lo hi f (show side m) = shown s t lo hi m (slot_on f side)
  stepped s t lo hi f (add side) = with_added s t (whole s (slot_on f side))

  abbrev pub stepped_all : State K T → ℕ → K → K → Place K T → List Step → State K T
  stepped_all s t lo hi f [] = s
  stepped_all s t lo hi f (x ∷ xs) = stepped_all (stepped s t lo hi f x) t lo hi f xs

  -- count t in a mode at place p
  abbrev pub count_at : State K T → ℕ → ℕ → K → K → Mode → State K T
  count_at s t zero lo hi m = shown s t lo hi Between s.slot
  count_at s t (suc p) lo hi m =
      elim (s.place (suc p)) [ None ↦ s | Some f ↦ stepped_all s t lo hi f (count_steps m (w.le f.split lo) (before w hi f.split)) ]

  -- what request t does at place p once it has left the queue there
  abbrev pub acted : State K T → ℕ → ℕ → Mode → Request K → State K T
  acted s t p m (Enter k) = cond (is_present (s.decision t)) (with_answer s t Unchanged) (enter_at s t p k (slot_for s p k))
  acted s t p m (Withdraw k) = cond (is_present (s.decision t)) (withdraw_at s t p k (slot_for s p k)) (with_answer s t Unchanged)
  acted s t p m (LookUp k) = with_answer s t (cond (is_present (s.decision t)) Present Absent)
  acted s t p m (Count lo hi) = count_at s t p lo hi m

  -- the head e of p's queue leaves it and acts
  abbrev pub moved : State K T → ℕ → Waiter → Request K → State K T
  moved s p e r = acted (with_queue s p (behind (s.queue p))) e.number p e.mode r
