-- When two counts by class are equal, and what is left modulo 2^16. Assumes nothing.
use Rattle.std.specs.Prelude.{◌≡◌, ℕ, ◌%◌, ◌<◌, ◌^◌}
use mathlib.Core.HLevel.{is_prop→PathP, ×_prop}
use Rattle.std.proofs.Math.Bridge.{le_prop}
use Rattle.std.proofs.Math.Nat.{mod-mod}
use Rattle.tallies.specs.declared.classes.Classes.{Classes}
use Rattle.tallies.specs.ClassCounts.{classes_of}

pub classes_path : (a b : Classes) → a.m ≡ b.m → a.w ≡ b.w → a.c ≡ b.c → a.s ≡ b.s → a ≡ b
classes_path a b p q r t = λ i. record {
  m = p i;
  w = q i;
  c = r i;
  s = t i;
  front = is_prop→PathP (λ j. (p j < 2 ^ 16) × (q j < 2 ^ 16)) (λ j. ×_prop le_prop le_prop) a.front b.front i;
  back = is_prop→PathP (λ j. (r j < 2 ^ 16) × (t j < 2 ^ 16)) (λ j. ×_prop le_prop le_prop) a.back b.back i;
}

-- what is left of what is left
pub classes_of_mod : (m w c s : ℕ) → classes_of (m % 2 ^ 16) (w % 2 ^ 16) (c % 2 ^ 16) (s % 2 ^ 16) ≡ classes_of m w c s
classes_of_mod m w c s = classes_path _ _ (mod-mod m (2 ^ 16)) (mod-mod w (2 ^ 16)) (mod-mod c (2 ^ 16)) (mod-mod s (2 ^ 16))
