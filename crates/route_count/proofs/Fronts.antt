-- The first line of a text and the lines after it. Rests on the pieces of a text.
use Rattle.std.proofs.Common.{◌≡◌, ℕ, ◌+◌, ◌-◌, ◌<◌, ◌≤◌, Bool, true, false, eqb, List, [], ◌∷◌, length, take, drop, refl, ap, ◌∙◌, arith}
use Rattle.std.proofs.lemmas.List.{take_rest, drop_all}
use Rattle.octets.specs.Runs.{up_to}
use Rattle.octets.specs.Cuts.{pieces, onto_first}
use Rattle.octets.proofs.Cuts.{pieces-last, pieces-parted}
use Rattle.octets.proofs.Joins.{pieces_some}
use Rattle.route_count.specs.Rows.{but_empty_last, lines}

pub no_line : (t : List ℕ) → length t ≡ 0 → lines t ≡ []
no_line [] h = refl
no_line (c ∷ cs) h = absurd (omega arith)

some_line : (t : List ℕ) → 0 < length t → but_empty_last (t ∷ []) ≡ t ∷ []
some_line [] h = absurd (omega arith)
some_line (c ∷ cs) h = refl

-- a text without newline is a line, and nothing stands behind it
pub last_line : (t : List ℕ) → 0 < length t → length t ≤ length (up_to 10 t) → lines t ≡ t ∷ lines (take (length t - length t) (drop (length t) t))
last_line t some h =
    let behind : take (length t - length t) (drop (length t) t) ≡ [] = take_rest t (length t) ∙ drop_all (length t) t (omega arith) in
    rw behind (ap but_empty_last (pieces-last 10 t h) ∙ some_line t some)

more_lines : (p : List ℕ) (ps : List (List ℕ)) → 0 < length ps → but_empty_last (p ∷ ps) ≡ p ∷ but_empty_last ps
more_lines p [] h = absurd (omega arith)
more_lines p (q ∷ qs) h = refl

-- a newline ends the first line
pub first_line : (t : List ℕ) (n : ℕ) → n ≡ length (up_to 10 t) → n < length t → lines t ≡ take n t ∷ lines (take (length t - (n + 1)) (drop (n + 1) t))
first_line t n e h =
    ap but_empty_last (pieces-parted 10 t n e h) ∙ more_lines (take n t) _ (pieces_some 10 (take (length t - (n + 1)) (drop (n + 1) t)))

onto_few : (c : ℕ) (ps : List (List ℕ)) (n : ℕ) → length (but_empty_last ps) ≤ n → length (but_empty_last (onto_first c ps)) ≤ n + 1
onto_few c [] n h = omega arith
onto_few c (p ∷ []) n h = omega arith
onto_few c (p ∷ q ∷ qs) n h = omega arith

-- there are no more lines than bytes
pub lines_few : (t : List ℕ) → length (lines t) ≤ length t
lines_few [] = omega arith
lines_few (c ∷ cs) = go (lines_few cs) (eqb c 10) refl
  where
    go : length (lines cs) ≤ length cs → (b : Bool) → eqb c 10 ≡ b → length (lines (c ∷ cs)) ≤ length (c ∷ cs)
    go ih true e = let more = more_lines [] (pieces 10 cs) (pieces_some 10 cs) in rw (e, more) (omega arith)
    go ih false e = let more = onto_few c (pieces 10 cs) (length cs) ih in rw e (omega arith)
