-- A word that is a number is what is written of it, and so is a letter. Assumes nothing.
use Rattle.std.proofs.Common.{◌≡◌, ℕ, ◌^◌, ◌<◌, ◌≤◌, Bool, true, false, eqb, leb, List, [], ◌∷◌, length, get_or, Some, None, decimal, sym, refl, ap, ◌∙◌, ⊎_elim, arith}
use Rattle.std.specs.Str.Parse.{digits_value}
use Rattle.std.specs.Str.{all_ascii_digits}
use Rattle.std.proofs.lemmas.Fmt.{decimal-digits_value, decimal_digit, first_decimal, length-decimal-le, digits_decimal, digits_value-decimal}
use Rattle.std.proofs.lemmas.Str.Parse.{IsNumeralModel, numerals_by_value, tells_all_ascii_digits, digits_value_short}
use Rattle.std.proofs.lemmas.Bool.{cases_lt}
use Rattle.octets.proofs.Joins.{lacks}
use Rattle.keys.specs.declared.class.Class.{Class}
use Rattle.keys.specs.declared.class.Class.TheVariants.{M, W, C, S}
use Rattle.keys.specs.Classes.{class_letter}
use Rattle.words.specs.Figures.{starts_well, number_in}
use Rattle.words.specs.Letters.{class_of, letter_in}

own : IsNumeralModel (λ ds. all_ascii_digits ds ≡ true) (digits_value 10)
own = numerals_by_value _ tells_all_ascii_digits

starts_some : (word : List ℕ) → starts_well word ≡ true → 0 < length word
starts_some [] h = absurd cc
starts_some (c ∷ cs) h = omega arith

starts_zero : (word : List ℕ) → starts_well word ≡ true → get_or word 0 0 ≡ 48 → length word ≡ 1
starts_zero [] h e = absurd (omega arith)
starts_zero (c ∷ []) h e = refl
starts_zero (c ∷ d ∷ ds) h e = let k : starts_well (c ∷ d ∷ ds) ≡ true = h in absurd (grind arith)

-- what a word that is a number has
record Figures (word : List ℕ) (n : ℕ) : Type 0 where
  short : length word ≤ 5
  starts : starts_well word ≡ true
  digits : all_ascii_digits word ≡ true
  worth : digits_value 10 word ≡ n

figures : (word : List ℕ) (n : ℕ) → number_in word ≡ Some n → Figures word n
figures word n h = go (leb (length word) 5) (starts_well word) (all_ascii_digits word) refl refl refl
  where
    go : (a b d : Bool) → leb (length word) 5 ≡ a → starts_well word ≡ b → all_ascii_digits word ≡ d → Figures word n
    go true true true p q r =
        let s : Some (digits_value 10 word) ≡ Some n = rw (p, q, r) at h in
        record { short = grind arith; starts = q; digits = r; worth = cc }
    go true true false p q r = let s : None ≡ Some n = rw (p, q, r) at h in absurd cc
    go true false d p q r = let s : None ≡ Some n = rw (p, q) at h in absurd cc
    go false b d p q r = let s : None ≡ Some n = rw p at h in absurd cc

pub number_short : (word : List ℕ) (n : ℕ) → number_in word ≡ Some n → n < 100000
number_short word n h =
    let f = figures word n h in
    let v : digits_value 10 word < 100000 = digits_value_short own word 5 f.digits f.short in
    omega (arith, f.worth)

-- the word is what is written of its number
pub number_text : (word : List ℕ) (n : ℕ) → number_in word ≡ Some n → word ≡ decimal n
number_text word n h =
    let f = figures word n h in
    let v : digits_value 10 word < 100000 = digits_value_short own word 5 f.digits f.short in
    let small : digits_value 10 word < 2 ^ 64 = omega arith in
    sym (decimal-digits_value own word f.digits (starts_some word f.starts) (starts_zero word f.starts) small) ∙ ap decimal f.worth

starts_by : (word : List ℕ) → 48 < get_or word 0 0 → starts_well word ≡ true
starts_by [] h = absurd (omega arith)
starts_by (c ∷ []) h = refl
starts_by (c ∷ d ∷ ds) h = grind arith

decimal_starts : (n : ℕ) → n < 100000 → starts_well (decimal n) ≡ true
decimal_starts n h = ⊎_elim some none (cases_lt 0 n)
  where
    some : 0 < n → starts_well (decimal n) ≡ true
    some k = starts_by (decimal n) (first_decimal n k (omega arith))

    none : n ≤ 0 → starts_well (decimal n) ≡ true
    none k = ap starts_well (decimal_digit n (omega arith))

-- what is written of a number is a word that is the number
pub number_back : (n : ℕ) → n < 100000 → number_in (decimal n) ≡ Some n
number_back n h =
    let fits : n < 2 ^ 64 = omega arith in
    let long = length-decimal-le 5 n (omega arith) (omega arith) fits in
    let short : leb (length (decimal n)) 5 ≡ true = grind arith in
    let starts = decimal_starts n h in
    let digits = digits_decimal own n fits in
    let worth = digits_value-decimal own n fits in
    rw (short, starts, digits, worth)

digits_lack : (ds : List ℕ) → all_ascii_digits ds ≡ true → lacks 32 ds ≡ true
digits_lack [] h = refl
digits_lack (c ∷ cs) h =
    let rest : all_ascii_digits cs ≡ true = grind arith in
    let ih = digits_lack cs rest in
    grind arith

-- no space in it
pub decimal_lacks : (n : ℕ) → n < 100000 → lacks 32 (decimal n) ≡ true
decimal_lacks n h = digits_lack (decimal n) (digits_decimal own n (omega arith))

letter_of : (l : ℕ) (c : Class) → class_of l ≡ Some c → l ≡ class_letter c
letter_of l c h = go (eqb l 77) (eqb l 87) (eqb l 67) (eqb l 83) refl refl refl refl
  where
    go : (m w d s : Bool) → eqb l 77 ≡ m → eqb l 87 ≡ w → eqb l 67 ≡ d → eqb l 83 ≡ s → l ≡ class_letter c
    go true w d s p q r t = let e : Some M ≡ Some c = rw p at h in let f : M ≡ c = cc in rw (← f) (grind arith)
    go false true d s p q r t = let e : Some W ≡ Some c = rw (p, q) at h in let f : W ≡ c = cc in rw (← f) (grind arith)
    go false false true s p q r t = let e : Some C ≡ Some c = rw (p, q, r) at h in let f : C ≡ c = cc in rw (← f) (grind arith)
    go false false false true p q r t = let e : Some S ≡ Some c = rw (p, q, r, t) at h in let f : S ≡ c = cc in rw (← f) (grind arith)
    go false false false false p q r t = let e : None ≡ Some c = rw (p, q, r, t) at h in absurd cc

-- the word is the letter of its class
pub letter_text : (word : List ℕ) (c : Class) → letter_in word ≡ Some c → word ≡ class_letter c ∷ []
letter_text [] c h = absurd cc
letter_text (l ∷ []) c h = ap (λ n. n ∷ []) (letter_of l c h)
letter_text (l ∷ d ∷ ds) c h = absurd cc

pub letter_back : (c : Class) → letter_in (class_letter c ∷ []) ≡ Some c
letter_back M = refl
letter_back W = refl
letter_back C = refl
letter_back S = refl

pub letter_lacks : (c : Class) → lacks 32 (class_letter c ∷ []) ≡ true
letter_lacks M = refl
letter_lacks W = refl
letter_lacks C = refl
letter_lacks S = refl
