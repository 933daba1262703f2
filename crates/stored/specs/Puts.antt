-- Putting and getting where the kind is not too wide and the row not too short. Assumes nothing.
use Rattle.std.specs.Prelude.{◌≡◌, ℕ, ◌≤◌, false, List, ◌++◌, length, drop, Result, nat_lt}
use Rattle.std.proofs.Common.{arith}
use Rattle.keys.specs.declared.refusal.Refusal.{Refusal}
use Rattle.stored.specs.Forms.{checked, put_after}

pub checked_through : {X : Type 0} (size : ℕ) (row : List ℕ) (answer : Result X Refusal) → size ≤ 16 → size ≤ length row → checked size row answer ≡ answer
checked_through size row answer h k =
    let wide : nat_lt 16 size ≡ false = grind arith in
    let short : nat_lt (length row) size ≡ false = grind arith in
    rw (wide, short)

pub put_through : (size : ℕ) (bytes row : List ℕ) → size ≤ 16 → size ≤ length row → put_after size bytes row ≡ bytes ++ drop size row
put_through size bytes row h k =
    let wide : nat_lt 16 size ≡ false = grind arith in
    let short : nat_lt (length row) size ≡ false = grind arith in
    rw (wide, short)
