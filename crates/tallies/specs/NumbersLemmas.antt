-- When two numbers are equal, and what is left modulo 2^32. Assumes nothing.
use Rattle.std.specs.Prelude.{◌≡◌, ℕ, ◌%◌, ◌<◌, ◌^◌}
use mathlib.Core.HLevel.{is_prop→PathP}
use Rattle.std.proofs.Math.Bridge.{le_prop}
use Rattle.std.proofs.Math.Nat.{mod-mod}
use Rattle.tallies.specs.declared.number.Number.{Number}
use Rattle.tallies.specs.Numbers.{number_of}

pub number_path : (a b : Number) → a.value ≡ b.value → a ≡ b
number_path a b p = λ i. record {
  value = p i;
  fits = is_prop→PathP (λ j. p j < 2 ^ 32) (λ j. le_prop) a.fits b.fits i;
}

-- what is left of what is left
pub number_of_mod : (n : ℕ) → number_of (n % 2 ^ 32) ≡ number_of n
number_of_mod n = number_path _ _ (mod-mod n (2 ^ 32))
