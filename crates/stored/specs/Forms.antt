-- The stored form of a kind: how many bytes its values have, which, and what bytes are a value; and how a value is put and got.
use Rattle.std.specs.Prelude.{ℕ, min, cond, List, ◌++◌, length, take, drop, Some, None, Ok, Err, Option, Result, nat_lt}
use Rattle.keys.specs.declared.refusal.Refusal.{Refusal}
use Rattle.keys.specs.declared.refusal.Refusal.TheVariants.{TooShort, OutOfRange, TooWide}

-- a kind of key: some bytes are no key
pub record KeyForm (K : Type 0) : Type 0 where
  pub size : ℕ
  pub written : K → List ℕ
  pub read : List ℕ → Option K

-- a kind of tally: all bytes are one
pub record TallyForm (T : Type 0) : Type 0 where
  pub size : ℕ
  pub written : T → List ℕ
  pub read : List ℕ → T

-- the most bytes that a value has in a row
abbrev pub widest : ℕ
widest = 16

-- the width that is told of so many bytes: all past the widest counts as 17
abbrev pub width_of : ℕ → ℕ
width_of size = min size 17

-- what is answered where the kind is not too wide and the row not too short; else the first that is
abbrev pub checked : {X : Type 0} → ℕ → List ℕ → Result X Refusal → Result X Refusal
checked size row answer = cond (nat_lt widest size) (Err TooWide) (cond (nat_lt (length row) size) (Err TooShort) answer)

-- putting a value of so many bytes to the front of a row
abbrev pub put_answer : ℕ → List ℕ → Result ℕ Refusal
put_answer size row = checked size row (Ok size)

-- what the row then holds: these bytes and its later ones; a refusal leaves it
abbrev pub put_after : ℕ → List ℕ → List ℕ → List ℕ
put_after size bytes row = cond (nat_lt widest size) row (cond (nat_lt (length row) size) row (bytes ++ drop size row))

-- the value that bytes were read as, or that a field is out of range
abbrev pub in_range : {X : Type 0} → Option X → Result X Refusal
in_range (Some x) = Ok x
in_range None = Err OutOfRange

-- getting a key from the front of a row
abbrev pub key_got : {K : Type 0} → KeyForm K → List ℕ → Result K Refusal
key_got form row = checked form.size row (in_range (form.read (take form.size row)))

-- getting a tally from the front of a row
abbrev pub tally_got : {T : Type 0} → TallyForm T → List ℕ → Result T Refusal
tally_got form row = checked form.size row (Ok (form.read (take form.size row)))
