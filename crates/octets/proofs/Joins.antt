-- Pieces put together again are the text, and a text put together of pieces is cut into them. Assumes nothing.
use Rattle.std.proofs.Common.{◌≡◌, ℕ, ◌<◌, Bool, true, false, not, ◌&&◌, eqb, List, [], ◌∷◌, ◌++◌, length, sym, refl, ap, ◌∙◌, arith}
use Rattle.octets.specs.Cuts.{pieces, onto_first}

-- pieces put together, the separator between them
abbrev pub joined_by : ℕ → List (List ℕ) → List ℕ
joined_by s [] = []
joined_by s (p ∷ []) = p
joined_by s (p ∷ q ∷ qs) = p ++ (s ∷ joined_by s (q ∷ qs))

-- no byte is the separator
abbrev pub lacks : ℕ → List ℕ → Bool
lacks s [] = true
lacks s (c ∷ cs) = not (eqb c s) && lacks s cs

module _ (s : ℕ) where
  onto_some : (c : ℕ) (ps : List (List ℕ)) → 0 < length (onto_first c ps)
  onto_some c [] = omega arith
  onto_some c (p ∷ ps) = omega arith

  -- there is a piece at least
  pub pieces_some : (t : List ℕ) → 0 < length (pieces s t)
  pieces_some [] = omega arith
  pieces_some (c ∷ cs) = go (eqb c s) refl
    where
      go : (b : Bool) → eqb c s ≡ b → 0 < length (pieces s (c ∷ cs))
      go true e = rw e (omega arith)
      go false e = rw e (onto_some c (pieces s cs))

  joined_onto : (c : ℕ) (ps : List (List ℕ)) → joined_by s (onto_first c ps) ≡ c ∷ joined_by s ps
  joined_onto c [] = refl
  joined_onto c (p ∷ []) = refl
  joined_onto c (p ∷ q ∷ qs) = refl

  joined-after : (ps : List (List ℕ)) → 0 < length ps → joined_by s ([] ∷ ps) ≡ s ∷ joined_by s ps
  joined-after [] h = absurd (omega arith)
  joined-after (p ∷ ps) h = refl

  -- the pieces put together are the text
  pub joined-pieces : (t : List ℕ) → joined_by s (pieces s t) ≡ t
  joined-pieces [] = refl
  joined-pieces (c ∷ cs) = go (joined-pieces cs) (eqb c s) refl
    where
      go : joined_by s (pieces s cs) ≡ cs → (b : Bool) → eqb c s ≡ b → joined_by s (pieces s (c ∷ cs)) ≡ c ∷ cs
      go ih true e =
          let same : c ≡ s = grind arith in
          rw e (joined-after (pieces s cs) (pieces_some cs) ∙ ap (λ t. s ∷ t) ih ∙ ap (λ d. d ∷ cs) (sym same))
      go ih false e = rw e (joined_onto c (pieces s cs) ∙ ap (λ t. c ∷ t) ih)

  -- a text without separator is one piece
  pub pieces_alone : (p : List ℕ) → lacks s p ≡ true → pieces s p ≡ p ∷ []
  pieces_alone [] h = refl
  pieces_alone (c ∷ cs) h =
      let other : eqb c s ≡ false = grind arith in
      let rest : lacks s cs ≡ true = grind arith in
      rw other (ap (onto_first c) (pieces_alone cs rest))

  -- what stands before the first separator is the first piece
  pub pieces-before : (p t : List ℕ) → lacks s p ≡ true → pieces s (p ++ (s ∷ t)) ≡ p ∷ pieces s t
  pieces-before [] t h = let here : eqb s s ≡ true = grind arith in rw here
  pieces-before (c ∷ cs) t h =
      let other : eqb c s ≡ false = grind arith in
      let rest : lacks s cs ≡ true = grind arith in
      rw other (ap (onto_first c) (pieces-before cs t rest))
