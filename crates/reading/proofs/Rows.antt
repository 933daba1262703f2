-- The keys of a walk written to a row, key by key. Assumes nothing.
use Rattle.std.proofs.Common.{◌≡◌, ℕ, ◌+◌, ◌<◌, ◌≤◌, List, [], ◌∷◌, ◌++◌, map, length, get_or, take, drop, set, sym, ap, ◌∙◌, ap₂, append_assoc, arith, length-take-le, take_all}
use mathlib.Core.List.{map-append}
use lib.ListN.{length-map}
use lib.Seq.{set_at}
use Rattle.std.proofs.lemmas.List.{drop_more, take_more}
use Rattle.reading.specs.Promises.{keys_over}

module _ {F X : Type 0} (h : F → X) (all : List F) (row₀ : List X) where
  -- so many keys are written over the row
  abbrev pub Written : ℕ → List X → Type 0
  Written n row = row ≡ map h (take n all) ++ drop n row₀

  pub written-key : (n m : ℕ) (row row' : List X) (f : F)
      → length all ≤ length row₀ → Written n row → n < length all → f ≡ get_or all n f → m ≡ n + 1 → row' ≡ set row n (h f) → Written m row'
  written-key n m row row' f room w low e is new =
      let long : length (map h (take n all)) ≡ n = length-map (take n all) h ∙ length-take-le n all (omega arith) in
      let split : take (n + 1) all ≡ take n all ++ (f ∷ []) = take_more all n f low ∙ ap (λ y. take n all ++ (y ∷ [])) (sym e) in
      new
      ∙ ap (λ r. set r n (h f)) (w ∙ ap (λ r. map h (take n all) ++ r) (drop_more row₀ n (h f) (omega arith)))
      ∙ set_at (map h (take n all)) (get_or row₀ n (h f)) (drop (n + 1) row₀) (h f) n long
      ∙ sym (append_assoc (map h (take n all)) (h f ∷ []) (drop (n + 1) row₀))
      ∙ ap (λ r. r ++ drop (n + 1) row₀) (sym (map-append h (take n all) (f ∷ [])) ∙ ap (map h) (sym split))
      ∙ ap (λ i. map h (take i all) ++ drop i row₀) (sym is)

  pub written_all : (n : ℕ) (row : List X) → Written n row → n ≡ length all → row ≡ keys_over h all row₀
  written_all n row w end = w ∙ ap₂ (λ a b. map h a ++ drop b row₀) (take_all n all (omega arith)) end
