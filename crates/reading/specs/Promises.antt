-- What reading off promises: the answer, and the row of keys afterwards.
use Rattle.std.specs.Prelude.{◌≡◌, ℕ, ◌+◌, ◌<◌, true, cond, List, ◌++◌, map, length, drop, Ok, Err, Result, nat_lt}
use Rattle.keys.specs.declared.refusal.Refusal.{Refusal}
use Rattle.keys.specs.declared.refusal.Refusal.TheVariants as no
use Rattle.rules.specs.States.{State, leads}
use Rattle.rules.specs.Moves.{Side}
use Rattle.rules.specs.Sound.{slot_at, is_made}

-- numbers rise on every way down, and each way leads to a place that is made
abbrev pub Rising : {K T : Type 0} → State K T → Type 0
Rising s = (p : ℕ) (side : Side) (f : ℕ) → slot_at s p side ≡ leads f → (p < f) × (is_made s f ≡ true)

-- keys to the front of a row; the rest of it stays
abbrev pub keys_over : {K F : Type 0} → (K → F) → List K → List F → List F
keys_over parts keys row = map parts keys ++ drop (length keys) row

-- how many keys are written, over a row for so many; more do not fit
abbrev pub counted_within : ℕ → ℕ → Result ℕ Refusal
counted_within row keys = cond (nat_lt row keys) (Err no.TooShort) (Ok keys)

-- one key more, where there is room for it
abbrev pub next_count : ℕ → ℕ → Result ℕ Refusal
next_count room count = cond (nat_lt count room) (Ok (count + 1)) (Err no.TooShort)

-- the row afterwards, left as it was if the keys do not fit
abbrev pub written_within : {K F : Type 0} → (K → F) → List K → List F → List F
written_within parts keys row = cond (nat_lt (length row) (length keys)) row (keys_over parts keys row)

-- the answer, with a work row of so many numbers for so many requests
abbrev pub keys_answer : ℕ → ℕ → ℕ → ℕ → Result ℕ Refusal
keys_answer keys row work count = cond (nat_lt work count) (Err no.TooShort) (counted_within row keys)

-- the row afterwards: a refusal leaves it as it was
abbrev pub keys_after : {K F : Type 0} → (K → F) → List K → List F → ℕ → ℕ → List F
keys_after parts keys row work count = cond (nat_lt work count) row (written_within parts keys row)
