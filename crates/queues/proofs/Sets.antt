-- Numbers and truth values that may be missing are sets, so an equation of them comes out of a truncation. Assumes nothing.
use Rattle.std.proofs.Common.{◌≡◌, ℕ, Bool, Some, None, Option, refl, ap, ⊎_elim, arith}
use mathlib.Core.Bool.{Bool-discrete}
use mathlib.Core.HLevel.{Discrete, hedberg}
use Rattle.std.proofs.lemmas.Bool.{cases_eq}

module _ {A : Type 0} (decide : Discrete A) where
  option_discrete : Discrete (Option A)
  option_discrete None None = yes refl
  option_discrete None (Some b) = no (λ e. let z : ◌≡◌ {A = ℕ} 0 1 = cc in omega arith)
  option_discrete (Some a) None = no (λ e. let z : ◌≡◌ {A = ℕ} 0 1 = cc in omega arith)
  option_discrete (Some a) (Some b) = go (decide a b)
    where
      go : Dec (a ≡ b) → Dec (Some a ≡ Some b)
      go (yes e) = yes (ap Some e)
      go (no n) = no (λ e. n (let same : a ≡ b = cc in same))

pub numbers_set : IsSet (Option ℕ)
numbers_set = hedberg (option_discrete (λ a b. ⊎_elim (λ e. yes e) (λ n. no n) (cases_eq a b)))

pub truths_set : IsSet (Option Bool)
truths_set = hedberg (option_discrete Bool-discrete)
