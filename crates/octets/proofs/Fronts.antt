-- What stands before a byte is a front of the whole. Assumes nothing.
use Rattle.std.proofs.Common.{◌≡◌, ℕ, ◌≤◌, Bool, true, false, eqb, List, [], ◌∷◌, length, take, refl, ap, arith}
use Rattle.octets.specs.Runs.{up_to}

module _ (stop : ℕ) where
  pub up_to_front : (bytes : List ℕ) → take (length (up_to stop bytes)) bytes ≡ up_to stop bytes
  up_to_front [] = refl
  up_to_front (c ∷ cs) = go (up_to_front cs) (eqb c stop) refl
    where
      go : take (length (up_to stop cs)) cs ≡ up_to stop cs → (b : Bool) → eqb c stop ≡ b → take (length (up_to stop (c ∷ cs))) (c ∷ cs) ≡ up_to stop (c ∷ cs)
      go ih true e = rw e
      go ih false e = rw e (ap (λ l. c ∷ l) ih)

  pub up_to-short : (bytes : List ℕ) → length (up_to stop bytes) ≤ length bytes
  up_to-short [] = omega arith
  up_to-short (c ∷ cs) = let ih = up_to-short cs in grind arith
