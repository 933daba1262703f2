-- Joining modulo m keeps the laws of a tally. Assumes nothing.
use Rattle.std.specs.Prelude.{◌≡◌, ℕ, ◌+◌, ◌-◌, ◌%◌, ◌<◌}
use Rattle.std.proofs.Common.{sym, ap, ◌∙◌, add_assoc, add_comm, mod-eq_of_lt, arith}
use Rattle.std.proofs.Math.Nat.{mod-add-mod, add-mod-mod, mod_self}

module _ (m : ℕ) where
  pub mod_associative : (a b c : ℕ) → ((a + b) % m + c) % m ≡ (a + (b + c) % m) % m
  mod_associative a b c =
      mod-add-mod (a + b) m c ∙ ap (λ n. n % m) (add_assoc a b c) ∙ sym (add-mod-mod a (b + c) m)

  pub mod_commutative : (a b : ℕ) → (a + b) % m ≡ (b + a) % m
  mod_commutative a b = ap (λ n. n % m) (add_comm a b)

  pub mod_neutral : (a : ℕ) → a < m → (0 % m + a) % m ≡ a
  mod_neutral a h = mod-add-mod 0 m a ∙ ap (λ n. n % m) (omega arith) ∙ mod-eq_of_lt h

  pub mod_cancelling : (a : ℕ) → a < m → (a + (m - a) % m) % m ≡ 0 % m
  mod_cancelling a h =
      let whole : a + (m - a) ≡ m = omega arith in
      let none : 0 % m ≡ 0 = mod-eq_of_lt (omega arith) in
      add-mod-mod a (m - a) m ∙ ap (λ n. n % m) whole ∙ mod_self m ∙ sym none
