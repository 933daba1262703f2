-- Runs in pieces: what a first part of the calls leads to, the rest goes on from.
use Rattle.std.proofs.Common.{◌≡◌, List, [], ◌∷◌, ◌++◌, refl, ap, ◌∙◌}
use Rattle.rules.specs.Kinds.{Kinds}
use Rattle.rules.specs.States.{State}
use Rattle.rules.specs.Calls.{Call, after, after_all}

module _ {K T : Type 0} (w : Kinds K T) where
  pub after_both : (s : State K T) (xs ys : List (Call K)) → after_all w s (xs ++ ys) ≡ after_all w (after_all w s xs) ys
  after_both s [] ys = refl
  after_both s (x ∷ xs) ys = after_both (after w s x) xs ys

  pub continued : (s a : State K T) (xs ys : List (Call K)) → after_all w s xs ≡ a → after_all w s (xs ++ ys) ≡ after_all w a ys
  continued s a xs ys e = after_both s xs ys ∙ ap (λ x. after_all w x ys) e
