-- One of several numbers that may be missing.
use Rattle.std.specs.Prelude.{ℕ, zero, suc, Some, None, Option}

-- of two numbers the one that a choice takes; where one is missing, the other
abbrev pub either_by : (ℕ → ℕ → ℕ) → Option ℕ → Option ℕ → Option ℕ
either_by choice None b = b
either_by choice (Some a) None = Some a
either_by choice (Some a) (Some b) = Some (choice a b)

-- the one that a choice takes of the numbers at 1 to n
abbrev pub chosen_by : (ℕ → ℕ → ℕ) → (ℕ → Option ℕ) → ℕ → Option ℕ
chosen_by choice number zero = None
chosen_by choice number (suc n) = either_by choice (chosen_by choice number n) (number (suc n))
