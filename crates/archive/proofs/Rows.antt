-- What the checks of all rows say while some are left: those before passed, and the rest decides. Assumes nothing.
use Rattle.std.proofs.Common.{◌≡◌, ℕ, zero, suc, ◌+◌, ◌-◌, ◌*◌, ◌<◌, ◌≤◌, List, [], ◌∷◌, ◌++◌, length, take, drop, Ok, Err, refl, ap, ◌∙◌, suc-mul, arith, length-append}
use Rattle.std.proofs.lemmas.List.{take_at, drop_at}
use Rattle.archive.specs.declared.fault.Fault.{Fault}
use Rattle.archive.specs.Checks.{Check, passed}

-- checks that pass leave it to the others, and a fault is told, whatever follows
pub passed_append : (xs ys : List Check) → passed xs ≡ Ok tt → passed (xs ++ ys) ≡ passed ys
passed_append [] ys h = refl
passed_append (c ∷ cs) ys h = let ih = passed_append cs ys in grind (arith, ih)

pub failed_append : (xs ys : List Check) (f : Fault) → passed xs ≡ Err f → passed (xs ++ ys) ≡ Err f
failed_append [] ys f h = cc
failed_append (c ∷ cs) ys f h = let ih = failed_append cs ys f in grind (arith, ih)

-- a row is there as long as its bytes are, and then one less is left
pub row_there : (rows count size room : ℕ) → 0 < size → size ≤ room → room ≡ (rows - count) * size → count < rows
row_there rows count size room h k e =
    let some : (rows - count) * size ≡ (rows - count) * size = refl in
    go (rows - count) refl
  where
    go : (n : ℕ) → rows - count ≡ n → count < rows
    go zero p = let none : room ≡ 0 = e ∙ ap (λ n. n * size) p ∙ omega arith in absurd (omega arith)
    go (suc n) p = omega arith

pub row_taken : (rows count size : ℕ) (row rest rest' : List ℕ) → count < rows → rest ≡ row ++ rest' → length row ≡ size → length rest ≡ (rows - count) * size → length rest' ≡ (rows - (count + 1)) * size
row_taken rows count size row rest rest' h e l k =
    let more = suc-mul (rows - (count + 1)) size in
    let one : rows - count ≡ suc (rows - (count + 1)) = omega arith in
    let whole : length rest ≡ suc (rows - (count + 1)) * size = k ∙ ap (λ n. n * size) one in
    let both : length rest ≡ length row + length rest' = ap length e ∙ length-append row rest' in
    omega arith

-- fewer bytes than a row has: no row is left
pub row_none : (rows count size room : ℕ) → room < size → room ≡ (rows - count) * size → rows ≤ count
row_none rows count size room h e = go (rows - count) refl
  where
    go : (n : ℕ) → rows - count ≡ n → rows ≤ count
    go zero p = omega arith
    go (suc n) p =
        let more = suc-mul n size in
        let whole : room ≡ suc n * size = e ∙ ap (λ n. n * size) p in
        absurd (omega arith)

pub front_of : (size : ℕ) (row rest rest' : List ℕ) → rest ≡ row ++ rest' → length row ≡ size → take size rest ≡ row
front_of size row rest rest' e l = ap (take size) e ∙ take_at row rest' size l

pub back_of : (size : ℕ) (row rest rest' : List ℕ) → rest ≡ row ++ rest' → length row ≡ size → drop size rest ≡ rest'
back_of size row rest rest' e l = ap (drop size) e ∙ drop_at row rest' size l

-- rows of one size, from a start on: the checks of one, and of all
module _ {X : Type 0} (size start : ℕ) (one : ℕ → ℕ → X → List Check) (next : X → X) (all : ℕ → ℕ → ℕ → X → List Check) (none : (number offset : ℕ) (x : X) → all 0 number offset x ≡ []) (more : (n number offset : ℕ) (x : X) → all (suc n) number offset x ≡ one number offset x ++ all n (number + 1) (offset + size) (next x)) where
  abbrev pub Left : ℕ → ℕ → X → X → Type 0
  Left rows count whole rest = passed (all rows 1 start whole) ≡ passed (all (rows - count) (count + 1) (start + count * size) rest)

  left_next : (rows count : ℕ) (whole rest : X) → count < rows → Left rows count whole rest → passed (all rows 1 start whole) ≡ passed (one (count + 1) (start + count * size) rest ++ all (rows - (count + 1)) (count + 1 + 1) (start + count * size + size) (next rest))
  left_next rows count whole rest h l =
      let fewer : rows - count ≡ suc (rows - (count + 1)) = omega arith in
      l ∙ ap (λ n. passed (all n (count + 1) (start + count * size) rest)) fewer ∙ ap passed (more (rows - (count + 1)) (count + 1) (start + count * size) rest)

  pub left_more : (rows count : ℕ) (whole rest : X) → count < rows → Left rows count whole rest → passed (one (count + 1) (start + count * size) rest) ≡ Ok tt → Left rows (count + 1) whole (next rest)
  left_more rows count whole rest h l p =
      let along : start + count * size + size ≡ start + (count + 1) * size = let m = suc-mul count size in let n : (count + 1) * size ≡ suc count * size = ap (λ n. n * size) (omega arith) in omega arith in
      left_next rows count whole rest h l ∙ passed_append (one (count + 1) (start + count * size) rest) (all (rows - (count + 1)) (count + 1 + 1) (start + count * size + size) (next rest)) p ∙ ap (λ n. passed (all (rows - (count + 1)) (count + 1 + 1) n (next rest))) along

  pub left_failed : (rows count : ℕ) (whole rest : X) → count < rows → Left rows count whole rest → (f : Fault) → passed (one (count + 1) (start + count * size) rest) ≡ Err f → passed (all rows 1 start whole) ≡ Err f
  left_failed rows count whole rest h l f p =
      left_next rows count whole rest h l ∙ failed_append (one (count + 1) (start + count * size) rest) (all (rows - (count + 1)) (count + 1 + 1) (start + count * size + size) (next rest)) f p

  pub left_none : (rows count : ℕ) (whole rest : X) → rows ≤ count → Left rows count whole rest → passed (all rows 1 start whole) ≡ Ok tt
  left_none rows count whole rest h l =
      let zero-left : rows - count ≡ 0 = omega arith in
      l ∙ ap (λ n. passed (all n (count + 1) (start + count * size) rest)) zero-left ∙ ap passed (none (count + 1) (start + count * size) rest)
