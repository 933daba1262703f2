-- Rows of one length put one after the other. Rests on the rows of a file by number.
use Rattle.std.proofs.Common.{◌≡◌, ℕ, zero, suc, ◌+◌, ◌-◌, ◌*◌, ◌<◌, ◌≤◌, List, [], ◌∷◌, ◌++◌, length, take, Some, Ok, Result, sym, ap, ◌∙◌, ap₂, mul-le-mul_right, suc-mul, zero-mul, arith, take_all}
use borrow.Rule.Slice.PartMut.{put_mid}
use Rattle.std.proofs.lemmas.List.{append_assoc, append-nil}
use Rattle.std.proofs.lemmas.Slice.{take-put_mid}
use Rattle.std.specs.List.{slice_get, flat_map}
use Rattle.keys.specs.declared.refusal.Refusal.{Refusal}
use Rattle.requests.specs.declared.row.Row.{Row}
use Rattle.archive.specs.Opened.{row_numbered, row_given}
use Rattle.archive.proofs.Handed.{numbered, nth_there}

-- the next part lies within
pub part_fits : (count i size room : ℕ) → i < count → room ≡ count * size → i * size + size ≤ room
part_fits count i size room h e =
    let more = suc-mul i size in
    let less : suc i * size ≤ count * size = mul-le-mul_right {m = suc i} {n = count} size (omega arith) in
    omega arith

taken_more : {X : Type 0} (f : X → List ℕ) (xs : List X) (i : ℕ) (x : X) → slice_get xs i ≡ Some x → flat_map f (take (i + 1) xs) ≡ flat_map f (take i xs) ++ f x
taken_more f [] i x h = absurd cc
taken_more f (y ∷ ys) zero x h = let same : y ≡ x = cc in append-nil (f y) ∙ ap f same
taken_more f (y ∷ ys) (suc j) x h =
    let step : suc j + 1 ≡ suc (j + 1) = omega arith in
    ap (λ n. flat_map f (take n (y ∷ ys))) step ∙ ap (λ l. f y ++ l) (taken_more f ys j x h) ∙ sym (append_assoc (f y) (flat_map f (take j ys)) (f x))

-- there is a row at a place before the end
pub given-at : {K T : Type 0} (rows : List (Row K T)) (i : ℕ) (r : Result (Row K T) Refusal) → i < length rows → r ≡ row_given (row_numbered rows (i + 1)) → (w : Row K T) × ((slice_get rows i ≡ Some w) × (r ≡ Ok w))
given-at rows i r h e =
    let back : i + 1 - 1 ≡ i = omega arith in
    let found = nth_there rows i h in
    (found.0, (found.1, e ∙ ap row_given (numbered rows (i + 1) (omega arith) ∙ ap (slice_get rows) back ∙ found.1)))

module _ {K T : Type 0} (f : Row K T → List ℕ) (size : ℕ) (long : (w : Row K T) → length (f w) ≡ size) where
  -- one row more
  pub row_put : (rows : List (Row K T)) (count i : ℕ) (part last : List ℕ) (r : Result (Row K T) Refusal) → i < count → count ≡ length rows → length part ≡ count * size → r ≡ row_given (row_numbered rows (i + 1)) → ((w : Row K T) → r ≡ Ok w → last ≡ f w) → take (i * size) part ≡ flat_map f (take i rows) → take ((i + 1) * size) (put_mid (i * size) (i * size + size - i * size) part last) ≡ flat_map f (take (i + 1) rows)
  row_put rows count i part last r h n room e g inv =
      let found = given-at rows i r (omega arith) e in
      let w = found.0 in
      let put = g found.0 found.1.1 in
      let last-long : length last ≡ size = ap length put ∙ long found.0 in
      let fits = part_fits count i size (length part) h room in
      let step : (i + 1) * size ≡ i * size + size = ap (λ k. k * size) (next i) ∙ suc-mul i size in
      let further : (i + 1) * size ≡ i * size + length last = omega arith in
      take-put_mid (i * size) (i * size + size - i * size) part last ((i + 1) * size) further (omega arith) ∙ ap₂ (λ x y. x ++ y) inv put ∙ sym (taken_more f rows i found.0 found.1.0)
    where
      next : (k : ℕ) → k + 1 ≡ suc k
      next k = omega arith

  -- no row yet, and all
  pub none-put : (rows : List (Row K T)) (part : List ℕ) → take (0 * size) part ≡ flat_map f (take 0 rows)
  none-put rows part = ap (λ n. take n part) (zero-mul size)

  pub all_put : (rows : List (Row K T)) (count i : ℕ) (part : List ℕ) → count ≡ length rows → count ≤ i → i ≤ count → length part ≡ count * size → take (i * size) part ≡ flat_map f (take i rows) → part ≡ flat_map f rows
  all_put rows count i part e h k long inv =
      let there : i ≡ count = omega arith in
      let whole : i ≡ length rows = there ∙ e in
      let full : length part ≡ i * size = long ∙ ap (λ n. n * size) (sym there) in
      sym (take_all (i * size) part (omega arith)) ∙ inv ∙ ap (flat_map f) (take_all i rows (omega arith))
