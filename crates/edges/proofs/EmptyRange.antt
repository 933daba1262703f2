-- No key lies from lo to hi where hi comes before lo, so the plain set counts zero there.
use Rattle.std.proofs.Common.{◌≡◌, Bool, true, false, cond, ◌&&◌, List, [], ◌∷◌, sym, refl, ap, ◌∙◌, ap₂}
use Rattle.requests.specs.declared.answer.Answer.TheVariants.{Counted}
use Rattle.rules.specs.Kinds.{Kinds, Lawful}
use Rattle.rules.specs.Plain.{within, weight_of}
use Rattle.edges.specs.Cases.{EmptyRangeIsZero}
use Rattle.edges.proofs.TwoKeys.{not_true}

module _ {K T : Type 0} (w : Kinds K T) (law : Lawful w) where
  pub none_within : (lo hi k : K) → w.le lo hi ≡ false → within w lo hi k ≡ false
  none_within lo hi k e = go (w.le lo k) (w.le k hi) refl refl
    where
      go : (b c : Bool) → w.le lo k ≡ b → w.le k hi ≡ c → b && c ≡ false
      go true true p q = sym (law.transitive lo k hi p q) ∙ e
      go true false p q = refl
      go false c p q = refl

  weight_none : (lo hi : K) (ks : List K) → w.le lo hi ≡ false → weight_of w (within w lo hi) ks ≡ w.none
  weight_none lo hi [] e = refl
  weight_none lo hi (k ∷ ks) e =
      ap₂ (λ b x. w.joined (cond b (w.weighed k) w.none) x) (none_within lo hi k e) (weight_none lo hi ks e)
      ∙ law.neutral w.none

  pub empty_range_is_zero : EmptyRangeIsZero w
  empty_range_is_zero lo hi ks e = ap Counted (weight_none lo hi ks (not_true (w.le lo hi) e))
