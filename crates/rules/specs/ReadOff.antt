-- Reading off: the keys from the gate's slot, left before right, when no request is unfinished.
use Rattle.std.specs.Prelude.{ℕ, zero, suc, Bool, true, not, ◌&&◌, ◌||◌, List, [], ◌∷◌, ◌++◌, length, Some, None, Option, Result, nat_lt}
use Rattle.keys.specs.declared.refusal.Refusal.{Refusal}
use Rattle.keys.specs.declared.refusal.Refusal.TheVariants as no
use Rattle.rules.specs.States.{State, Slot, empty, holds, leads}
use Rattle.rules.specs.Queues.{given, finished}
use Rattle.rules.specs.Calls.{check, answer_by}

-- whether each number from 1 to a bound passes a test
abbrev pub all_from_one : (ℕ → Bool) → ℕ → Bool
all_from_one test zero = true
all_from_one test (suc n) = all_from_one test n && test (suc n)

module _ {K T : Type 0} (s : State K T) where
  -- the keys under a slot, followed down so many places
  abbrev pub keys_under : ℕ → Slot K → List K
  keys_under depth empty = []
  keys_under depth (holds k) = k ∷ []
  keys_under zero (leads p) = []
  keys_under (suc depth) (leads p) =
      elim (s.place p) [ None ↦ [] | Some f ↦ keys_under depth f.left ++ keys_under depth f.right ]

  -- the keys under the gate; on the way down numbers rise, so no way is longer than there are requests
  abbrev pub keys_listed : List K
  keys_listed = keys_under (given s) s.slot

  abbrev pub all_finished : Bool
  all_finished = all_from_one (finished s) (given s)

  -- over a row for so many keys and a work row of so many numbers
  abbrev pub read_off_refusal : ℕ → ℕ → Option Refusal
  read_off_refusal row work =
      check (not all_finished) no.Unfinished
      (check (nat_lt row (length keys_listed) || nat_lt work s.capacity) no.TooShort None)

  -- how many keys are written
  abbrev pub read_off_answer : ℕ → ℕ → Result ℕ Refusal
  read_off_answer row work = answer_by (read_off_refusal row work) (length keys_listed)
