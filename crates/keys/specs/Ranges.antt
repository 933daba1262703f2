-- The ranges of a key's fields.
use Rattle.std.specs.Prelude.{ℕ, ◌≤◌, min, max, Bool, ◌&&◌, nat_le}

abbrev pub least_signal : ℕ
least_signal = 1

abbrev pub greatest_signal : ℕ
greatest_signal = 9999

-- a signal's number is from 1 to 9,999
abbrev pub Signal : ℕ → Type 0
Signal n = (least_signal ≤ n) × (n ≤ greatest_signal)

abbrev pub is_signal : ℕ → Bool
is_signal n = nat_le least_signal n && nat_le n greatest_signal

-- the signal nearest to a number: itself where it is one
abbrev pub nearest_signal : ℕ → ℕ
nearest_signal n = max least_signal (min n greatest_signal)
