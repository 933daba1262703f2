-- A word of one byte that is the letter of a class, or of none. Assumes nothing.
use Rattle.std.proofs.Common.{◌≡◌, ℕ, List, [], ◌∷◌, length, get_or, Some, Ok, Err, Result, sym, refl, subst, arith, ne_eqb}
use Rattle.std.specs.Result.{result_ok}
use Rattle.keys.specs.declared.class.Class.{Class}
use Rattle.keys.specs.declared.class.Class.TheVariants.{M, W, C, S}
use Rattle.keys.specs.declared.refusal.Refusal.{Refusal}
use Rattle.keys.specs.Classes.{ClassOfLetter}
use Rattle.words.specs.Letters.{class_of, letter_in}

-- the class of that letter, or none where no class has it, is what the word is
pub letter_by : (word : List ℕ) (r : Result Class Refusal) → length word ≡ 1 → ClassOfLetter (get_or word 0 0) r → result_ok r ≡ letter_in word
letter_by [] r e h = absurd (omega arith)
letter_by (l ∷ d ∷ ds) r e h = absurd (omega arith)
letter_by (l ∷ []) (Err refusal) e h =
    let m = ne_eqb l 77 (λ p. h.1 M (sym p)) in
    let w = ne_eqb l 87 (λ p. h.1 W (sym p)) in
    let c = ne_eqb l 67 (λ p. h.1 C (sym p)) in
    let s = ne_eqb l 83 (λ p. h.1 S (sym p)) in
    rw (m, w, c, s)
letter_by (l ∷ []) (Ok M) e h = subst (λ n. Some M ≡ class_of n) h refl
letter_by (l ∷ []) (Ok W) e h = subst (λ n. Some W ≡ class_of n) h refl
letter_by (l ∷ []) (Ok C) e h = subst (λ n. Some C ≡ class_of n) h refl
letter_by (l ∷ []) (Ok S) e h = subst (λ n. Some S ≡ class_of n) h refl
