-- Registers that take a shortcut: each differs from the rules in one thing.
use Rattle.std.specs.Prelude.{ℕ, zero, suc, Bool, true, cond, not, List, [], ◌∷◌, is_some, Some, None, Option, Result, ◌==◌}
use Rattle.keys.specs.declared.refusal.Refusal.{Refusal}
use Rattle.keys.specs.declared.refusal.Refusal.TheVariants as no
use Rattle.requests.specs.Stations.{is_station}
use Rattle.requests.specs.declared.answer.Answer.TheVariants.{Unchanged}
use Rattle.requests.specs.declared.request.Request.{Request}
use Rattle.requests.specs.declared.request.Request.TheVariants.{Enter, Withdraw, LookUp, Count}
use Rattle.rules.specs.declared.mode.Mode.{Mode}
use Rattle.rules.specs.declared.mode.Mode.TheVariants.{Between}
use Rattle.rules.specs.Kinds.{Kinds}
use Rattle.rules.specs.States.{State, Slot, Waiter, empty, holds, leads}
use Rattle.rules.specs.Queues.{given, numbered}
use Rattle.rules.specs.Changes.{with_answer, with_waiter}
use Rattle.rules.specs.Moves.{is_present, slot_for, with_joined, enter_at, withdraw_at, acted}
use Rattle.rules.specs.Carries.{says, later, last_word}
use Rattle.rules.specs.Calls.{Call, submit, follow, carry, collect, check, answer_by, state_by, submit_refusal, after}
use Rattle.rules.specs.Laws.{turn, enough}
use Rattle.edges.specs.Ways.{Ways, if_noted}

-- the request that was noted, whether it stands at the head or is gone: then it is moved once more, and the queue stays
abbrev pub moved_again : ℕ → List Waiter → Option (Waiter × List Waiter)
moved_again t [] = Some (record { number = t; mode = Between }, [])
moved_again t (e ∷ q) = cond (e.number == t) (Some (e, q)) (Some (record { number = t; mode = Between }, e ∷ q))

-- whoever stands at the head now
abbrev pub whoever : ℕ → List Waiter → Option (Waiter × List Waiter)
whoever t [] = None
whoever t (e ∷ q) = Some (e, q)

module _ {K T : Type 0} (w : Kinds K T) where
  -- what the first enter or withdraw of a key in a queue says
  abbrev pub first_word : List (Request K) → K → List Waiter → Option Bool
  first_word rs k [] = None
  first_word rs k (e ∷ q) =
      later (elim (numbered rs e.number) [ None ↦ None | Some r ↦ says w k r ]) (first_word rs k q)

  -- an enter or a withdraw goes on to a place and leaves the tally there as it is
  abbrev pub enter_untold : State K T → ℕ → ℕ → K → Slot K → State K T
  enter_untold s t p k empty = enter_at w s t p k empty
  enter_untold s t p k (holds j) = enter_at w s t p k (holds j)
  enter_untold s t p k (leads f) = with_waiter s f t Between

  abbrev pub withdraw_untold : State K T → ℕ → ℕ → K → Slot K → State K T
  withdraw_untold s t p k empty = withdraw_at w s t p k empty
  withdraw_untold s t p k (holds j) = withdraw_at w s t p k (holds j)
  withdraw_untold s t p k (leads f) = with_waiter s f t Between

  -- the tally of a place changes when a request leaves it; the gate has none
  abbrev pub acted_tally_last : State K T → ℕ → ℕ → Mode → Request K → State K T
  acted_tally_last s t p m (Enter k) =
      cond (is_present (s.decision t)) (with_answer s t Unchanged)
      (enter_untold (with_joined w s p (w.weighed k)) t p k (slot_for w s p k))
  acted_tally_last s t p m (Withdraw k) =
      cond (is_present (s.decision t))
      (withdraw_untold (with_joined w s p (w.opposed (w.weighed k))) t p k (slot_for w s p k))
      (with_answer s t Unchanged)
  acted_tally_last s t p m (LookUp k) = acted w s t p m (LookUp k)
  acted_tally_last s t p m (Count lo hi) = acted w s t p m (Count lo hi)

  -- a count leaves its queue and counts nothing
  abbrev pub acted_no_count : State K T → ℕ → ℕ → Mode → Request K → State K T
  acted_no_count s t p m (Enter k) = acted w s t p m (Enter k)
  acted_no_count s t p m (Withdraw k) = acted w s t p m (Withdraw k)
  acted_no_count s t p m (LookUp k) = acted w s t p m (LookUp k)
  acted_no_count s t p m (Count lo hi) = s

  -- a walk decides from the slots alone, past the requests that wait
  abbrev pub slots_alone : Ways K T
  slots_alone = record { word = λ rs k q. None; leaves = if_noted; acts = acted w }

  -- a walk takes the first match in a queue
  abbrev pub first_match : Ways K T
  first_match = record { word = first_word; leaves = if_noted; acts = acted w }

  -- a carry moves the noted request without looking at the head again
  abbrev pub blind : Ways K T
  blind = record { word = last_word w; leaves = moved_again; acts = acted w }

  -- a carry takes whoever stands at the head for the noted request
  abbrev pub first_comer : Ways K T
  first_comer = record { word = last_word w; leaves = whoever; acts = acted w }

  -- a place's tally changes when a request leaves it, and not when it joins
  abbrev pub tally_last : Ways K T
  tally_last = record { word = last_word w; leaves = if_noted; acts = acted_tally_last }

  -- a carry is late even while the noted request stands at the head
  abbrev pub always_late : Ways K T
  always_late = record { word = last_word w; leaves = λ t q. None; acts = acted w }

  -- counts are always zero
  abbrev pub no_count : Ways K T
  no_count = record { word = last_word w; leaves = if_noted; acts = acted_no_count }

  -- a submit that always finds the register full
  abbrev pub full_refusal : State K T → ℕ → Option Refusal
  full_refusal s n =
      check (not (is_station n)) no.NoStation (check (is_some (s.desk n).uncollected) no.Uncollected (check true no.Full None))

  abbrev pub full_answer : State K T → ℕ → Request K → Result ℕ Refusal
  full_answer s n r = answer_by (full_refusal s n) (suc (given s))

  abbrev pub always_full : State K T → Call K → State K T
  always_full s (submit n r) = state_by (full_refusal s n) s (after w s (submit n r))
  always_full s (follow n t) = after w s (follow n t)
  always_full s (carry n) = after w s (carry n)
  always_full s (collect n) = after w s (collect n)

  -- so many turns of a station for request t
  abbrev pub turns : ℕ → State K T → ℕ → ℕ → State K T
  turns zero s n t = s
  turns (suc m) s n t = turns m (after w s (turn w s n t)) n t

  -- a submit that works the request out at once; carries have nothing left to do
  abbrev pub at_once : State K T → Call K → State K T
  at_once s (submit n r) =
      state_by (submit_refusal w s n) s (turns (enough w (suc (given s))) (after w s (submit n r)) n (suc (given s)))
  at_once s (follow n t) = after w s (follow n t)
  at_once s (carry n) = after w s (carry n)
  at_once s (collect n) = after w s (collect n)
