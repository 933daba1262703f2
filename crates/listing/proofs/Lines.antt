-- One line after another. Assumes nothing.
use Rattle.std.proofs.Common.{◌≡◌, ℕ, zero, suc, ◌+◌, ◌-◌, ◌<◌, ◌≤◌, List, [], ◌∷◌, ◌++◌, length, drop, Some, Ok, Result, sym, ap, ◌∙◌, ap₂, append_assoc, arith}
use Rattle.std.proofs.lemmas.List.{drop_all, append-nil}
use Rattle.std.specs.List.{slice_get}
use Rattle.keys.specs.declared.refusal.Refusal.{Refusal}
use Rattle.requests.specs.declared.row.Row.{Row}
use Rattle.archive.specs.Opened.{row_numbered, row_given}
use Rattle.archive.proofs.Handed.{nth_there, numbered}
use Rattle.listing.specs.RowTexts.{row_line, row_lines, last_line, listing_text}

nth_drop : {X : Type 0} (xs : List X) (i : ℕ) (x : X) → slice_get xs i ≡ Some x → drop i xs ≡ x ∷ drop (i + 1) xs
nth_drop [] i x h = absurd cc
nth_drop (y ∷ ys) zero x h = let same : y ≡ x = cc in ap (λ z. z ∷ ys) same
nth_drop (y ∷ ys) (suc j) x h =
    let step : suc j + 1 ≡ suc (j + 1) = omega arith in
    nth_drop ys j x h ∙ ap (λ n. x ∷ drop n (y ∷ ys)) (sym step)

module _ {K T : Type 0} (key : K → List ℕ) (tally : T → List ℕ) where
  -- one row more is written, one less is left
  pub line_more : (rows : List (Row K T)) (i : ℕ) (r : Result (Row K T) Refusal) (written after line : List ℕ) → i < length rows → r ≡ row_given (row_numbered rows (i + 1)) → ((w : Row K T) → r ≡ Ok w → line ≡ row_line key tally (i + 1) w) → after ≡ written ++ line → written ++ row_lines key tally (i + 1) (drop i rows) ≡ row_lines key tally 1 rows → after ++ row_lines key tally (i + 1 + 1) (drop (i + 1) rows) ≡ row_lines key tally 1 rows
  line_more rows i r written after line h e f g inv =
      let back : i + 1 - 1 ≡ i = omega arith in
      let found = nth_there rows i h in
      let given : r ≡ Ok found.0 = e ∙ ap row_given (numbered rows (i + 1) (omega arith) ∙ ap (slice_get rows) back ∙ found.1) in
      let shown = f found.0 given in
      let next = ap (row_lines key tally (i + 1)) (nth_drop rows i found.0 found.1) in
      ap (λ l. l ++ row_lines key tally (i + 1 + 1) (drop (i + 1) rows)) (g ∙ ap (λ l. written ++ l) shown) ∙ append_assoc written (row_line key tally (i + 1) found.0) (row_lines key tally (i + 1 + 1) (drop (i + 1) rows)) ∙ ap (λ l. written ++ l) (sym next) ∙ inv

  -- all rows are written
  pub lines_all : (rows : List (Row K T)) (i count : ℕ) (written after last : List ℕ) → count ≡ length rows → count ≤ i → written ++ row_lines key tally (i + 1) (drop i rows) ≡ row_lines key tally 1 rows → last ≡ last_line count → after ≡ written ++ last → after ≡ listing_text key tally rows
  lines_all rows i count written after last e h inv l a =
      let none = ap (row_lines key tally (i + 1)) (drop_all i rows (omega arith)) in
      let whole : written ≡ row_lines key tally 1 rows = sym (append-nil written) ∙ ap (λ x. written ++ x) (sym none) ∙ inv in
      a ∙ ap₂ (λ x y. x ++ y) whole (l ∙ ap last_line e)
