-- A number that has an entry is within its row. Assumes nothing.
use Rattle.std.proofs.Common.{◌≡◌, ℕ, zero, suc, ◌<◌, ◌≤◌, true, List, [], ◌∷◌, length, is_some, sym, true≢false, arith}
use Rattle.rules.specs.Queues.{numbered}

pub number-within : {X : Type 0} (xs : List X) (i : ℕ) → is_some (numbered xs i) ≡ true → (0 < i) × (i ≤ length xs)
number-within [] i e = absurd (true≢false (sym e))
number-within (x ∷ xs) zero e = absurd (true≢false (sym e))
number-within (x ∷ xs) (suc zero) e = (omega arith, omega arith)
number-within (x ∷ xs) (suc (suc i)) e = let ih = number-within xs (suc i) e in (omega arith, omega arith)
