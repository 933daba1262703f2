-- The first piece of a text and the pieces after it. Rests on Fronts.
use Rattle.std.proofs.Common.{◌≡◌, ℕ, suc, ◌+◌, ◌-◌, ◌<◌, ◌≤◌, Bool, true, false, eqb, List, [], ◌∷◌, length, take, drop, refl, ap, ◌∙◌, arith, length-drop, take_all}
use Rattle.octets.specs.Runs.{up_to}
use Rattle.octets.specs.Cuts.{pieces, onto_first}
use Rattle.octets.proofs.Fronts.{up_to_front}

module _ (s : ℕ) where
  -- there is a separator: the pieces after it come next
  pub pieces_more : (t : List ℕ) → length (up_to s t) < length t → pieces s t ≡ up_to s t ∷ pieces s (drop (length (up_to s t) + 1) t)
  pieces_more [] h = absurd (omega arith)
  pieces_more (c ∷ cs) h = go (pieces_more cs) (eqb c s) refl
    where
      go : (length (up_to s cs) < length cs → pieces s cs ≡ up_to s cs ∷ pieces s (drop (length (up_to s cs) + 1) cs)) → (b : Bool) → eqb c s ≡ b → pieces s (c ∷ cs) ≡ up_to s (c ∷ cs) ∷ pieces s (drop (length (up_to s (c ∷ cs)) + 1) (c ∷ cs))
      go ih true e = rw e
      go ih false e =
          let k : length (c ∷ up_to s cs) < length (c ∷ cs) = rw e at h in
          let rest = ih (omega arith) in
          let past : suc (length (up_to s cs) + 1) ≡ suc (length (up_to s cs)) + 1 = omega arith in
          rw e (ap (onto_first c) rest ∙ ap (λ n. (c ∷ up_to s cs) ∷ pieces s (drop n (c ∷ cs))) past)

  -- there is none: the text is one piece
  pub pieces-last : (t : List ℕ) → length t ≤ length (up_to s t) → pieces s t ≡ t ∷ []
  pieces-last [] h = refl
  pieces-last (c ∷ cs) h = go (pieces-last cs) (eqb c s) refl
    where
      go : (length cs ≤ length (up_to s cs) → pieces s cs ≡ cs ∷ []) → (b : Bool) → eqb c s ≡ b → pieces s (c ∷ cs) ≡ (c ∷ cs) ∷ []
      go ih true e = let k : length (c ∷ cs) ≤ 0 = rw e at h in absurd (omega arith)
      go ih false e = let k : length (c ∷ cs) ≤ length (c ∷ up_to s cs) = rw e at h in rw e (ap (onto_first c) (ih (omega arith)))

  -- the two parts of a text around its first separator
  pub pieces-parted : (t : List ℕ) (n : ℕ) → n ≡ length (up_to s t) → n < length t → pieces s t ≡ take n t ∷ pieces s (take (length t - (n + 1)) (drop (n + 1) t))
  pieces-parted t n e h =
      let front : take n t ≡ up_to s t = ap (λ k. take k t) e ∙ up_to_front s t in
      let short : length (drop (n + 1) t) ≡ length t - (n + 1) = length-drop (n + 1) t in
      let whole : take (length t - (n + 1)) (drop (n + 1) t) ≡ drop (n + 1) t = take_all _ _ (omega arith) in
      rw (front, whole, e) (pieces_more t (omega arith))
