-- Numbers and counts by class and their bytes. Rests on HighFirst and the equality of such tallies.
use Rattle.std.specs.Prelude.{◌≡◌, ℕ, ◌%◌, ◌^◌, ◌<◌, true, List, [], ◌∷◌, ◌++◌, length}
use Rattle.std.proofs.Common.{ap, ◌∙◌, mod-eq_of_lt, arith}
use Rattle.tallies.specs.declared.number.Number.{Number}
use Rattle.tallies.specs.declared.classes.Classes.{Classes}
use Rattle.tallies.specs.NumbersLemmas.{number_path}
use Rattle.tallies.specs.ClassCountsLemmas.{classes_path}
use Rattle.stored.specs.Numerals.{two, four, value, all_bytes}
use Rattle.stored.specs.NumberBytes.{number_form, classes_written, classes_read}
use Rattle.stored.specs.HighFirst.{two_read, two_written, four_read, four_written}

pub number_reread : (t : Number) → number_form.read (number_form.written t) ≡ t
number_reread t = number_path _ t (ap (λ n. n % 2 ^ 32) (four_read t.value) ∙ mod-eq_of_lt t.fits)

pub number_rewritten : (bytes : List ℕ) → length bytes ≡ 4 → all_bytes bytes ≡ true → number_form.written (number_form.read bytes) ≡ bytes
number_rewritten [] e h = absurd (omega arith)
number_rewritten (a ∷ []) e h = absurd (omega arith)
number_rewritten (a ∷ b ∷ []) e h = absurd (omega arith)
number_rewritten (a ∷ b ∷ c ∷ []) e h = absurd (omega arith)
number_rewritten (a ∷ b ∷ c ∷ d ∷ []) e h =
    let p : a < 256 = grind arith in
    let q : b < 256 = grind arith in
    let r : c < 256 = grind arith in
    let s : d < 256 = grind arith in
    let small : value (a ∷ b ∷ c ∷ d ∷ []) < 2 ^ 32 = omega arith in
    ap four (mod-eq_of_lt small) ∙ four_written a b c d q r s
number_rewritten (a ∷ b ∷ c ∷ d ∷ x ∷ rest) e h = absurd (omega arith)

pub classes_reread : (t : Classes) → classes_read (classes_written t) ≡ t
classes_reread t = classes_path _ t (kept t.m t.front.0) (kept t.w t.front.1) (kept t.c t.back.0) (kept t.s t.back.1)
  where
    kept : (n : ℕ) → n < 2 ^ 16 → value (two n) % 2 ^ 16 ≡ n
    kept n h = ap (λ k. k % 2 ^ 16) (two_read n) ∙ mod-eq_of_lt h

-- two bytes fit the count that they are
two_kept : (a b : ℕ) → a < 256 → b < 256 → two (value (a ∷ b ∷ []) % 2 ^ 16) ≡ a ∷ b ∷ []
two_kept a b h k =
    let small : value (a ∷ b ∷ []) < 2 ^ 16 = omega arith in
    ap two (mod-eq_of_lt small) ∙ two_written a b k

-- the first two of bytes are bytes, and the rest
two_bytes : (a b : ℕ) (rest : List ℕ) → all_bytes (a ∷ b ∷ rest) ≡ true → (a < 256) × (b < 256) × (all_bytes rest ≡ true)
two_bytes a b rest h = (grind arith, grind arith, grind arith)

pub classes_rewritten : (bytes : List ℕ) → length bytes ≡ 8 → all_bytes bytes ≡ true → classes_written (classes_read bytes) ≡ bytes
classes_rewritten [] e h = absurd (omega arith)
classes_rewritten (a ∷ []) e h = absurd (omega arith)
classes_rewritten (a ∷ b ∷ []) e h = absurd (omega arith)
classes_rewritten (a ∷ b ∷ c ∷ []) e h = absurd (omega arith)
classes_rewritten (a ∷ b ∷ c ∷ d ∷ []) e h = absurd (omega arith)
classes_rewritten (a ∷ b ∷ c ∷ d ∷ i ∷ []) e h = absurd (omega arith)
classes_rewritten (a ∷ b ∷ c ∷ d ∷ i ∷ j ∷ []) e h = absurd (omega arith)
classes_rewritten (a ∷ b ∷ c ∷ d ∷ i ∷ j ∷ k ∷ []) e h = absurd (omega arith)
classes_rewritten (a ∷ b ∷ c ∷ d ∷ i ∷ j ∷ k ∷ l ∷ []) e h =
    let one = two_bytes a b (c ∷ d ∷ i ∷ j ∷ k ∷ l ∷ []) h in
    let next = two_bytes c d (i ∷ j ∷ k ∷ l ∷ []) one.2 in
    let then = two_bytes i j (k ∷ l ∷ []) next.2 in
    let last = two_bytes k l [] then.2 in
    let m = two_kept a b one.0 one.1 in
    let w = two_kept c d next.0 next.1 in
    let n = two_kept i j then.0 then.1 in
    let s = two_kept k l last.0 last.1 in
    joined m w n s
  where
    joined : {p q r t p' q' r' t' : List ℕ} → p ≡ p' → q ≡ q' → r ≡ r' → t ≡ t' → p ++ (q ++ (r ++ t)) ≡ p' ++ (q' ++ (r' ++ t'))
    joined e f g h = cc
classes_rewritten (a ∷ b ∷ c ∷ d ∷ i ∷ j ∷ k ∷ l ∷ x ∷ rest) e h = absurd (omega arith)
