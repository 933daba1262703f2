-- Rows with the same bytes are the same rows. Rests on Laws and RowBytes.
use Rattle.std.proofs.Common.{◌≡◌, ℕ, ◌≤◌, true, List, [], ◌∷◌, ◌++◌, length, take, drop, Some, None, Option, sym, refl, ap, ◌∙◌, ap₂, arith}
use mathlib.Core.Bool.{Bool-set}
use mathlib.Core.HLevel.{is_prop→PathP, ×_prop}
use native.Mathlib.Bridge.{le_prop}
use Rattle.std.proofs.lemmas.List.{take_at, drop_at}
use Rattle.std.specs.List.{flat_map}
use Rattle.std.specs.Option.{option_map, option_zip}
use Rattle.requests.specs.declared.answer.Answer.{Answer}
use Rattle.requests.specs.declared.answer.Answer.TheVariants.{Changed, Unchanged, Present, Absent, Counted}
use Rattle.requests.specs.declared.request.Request.{Request}
use Rattle.requests.specs.declared.request.Request.TheVariants.{Enter, Withdraw, LookUp, Count}
use Rattle.requests.specs.declared.row.Row.{Row}
use Rattle.requests.specs.declared.station.Station.{Station}
use Rattle.requests.specs.Fits.{fits}
use Rattle.requests.specs.Kinds.{kind_number}
use Rattle.requests.specs.Requests.{kind_of}
use Rattle.stored.specs.Forms.{KeyForm, TallyForm}
use Rattle.archive.specs.Format.{request_length, answer_length, zeros, key_fields, tally_field, code_of, request_row, answer_row}
use Rattle.archive.specs.RowsIn.{answer_in, request_in}
use Rattle.archive.proofs.Laws.{KeyLaws, TallyLaws}
use Rattle.archive.proofs.RowBytes.{request_row_long, answer_row_long}

pub station_path : (a b : Station) → a.number ≡ b.number → a ≡ b
station_path a b p = λ i. record {
  number = p i;
  known = is_prop→PathP (λ j. (1 ≤ p j) × (p j ≤ 8)) (λ j. ×_prop le_prop le_prop) a.known b.known i;
}

pub row_path : {K T : Type 0} (a b : Row K T) → a.station ≡ b.station → a.request ≡ b.request → a.answer ≡ b.answer → a ≡ b
row_path a b p q r = λ i. record {
  station = p i;
  request = q i;
  answer = r i;
  answered = is_prop→PathP (λ j. fits (q j) (r j) ≡ true) (λ j. Bool-set (fits (q j) (r j)) true) a.answered b.answered i;
}

module _ {T : Type 0} (tallies : TallyForm T) (laws : TallyLaws tallies) where
  pub answer_back : (a : Option (Answer T)) → answer_in tallies (code_of a) (tally_field tallies a) ≡ a
  answer_back None = refl
  answer_back (Some Changed) = refl
  answer_back (Some Unchanged) = refl
  answer_back (Some Present) = refl
  answer_back (Some Absent) = refl
  answer_back (Some (Counted t)) = ap (λ u. Some (Counted u)) (laws.reread t)

  pub answer-same : (a b : Option (Answer T)) → code_of a ≡ code_of b → tally_field tallies a ≡ tally_field tallies b → a ≡ b
  answer-same a b p q = sym (answer_back a) ∙ ap₂ (answer_in tallies) p q ∙ answer_back b

module _ {K : Type 0} (keys : KeyForm K) (laws : KeyLaws keys) where
  front : (k : K) (rest : List ℕ) → keys.read (take keys.size (keys.written k ++ rest)) ≡ Some k
  front k rest = ap keys.read (take_at (keys.written k) rest keys.size (laws.long k)) ∙ laws.reread k

  pub request_back : (q : Request K) → request_in keys (kind_number (kind_of q)) (key_fields keys q) ≡ Some q
  request_back (Enter k) = ap (option_map Enter) (front k (zeros keys.size))
  request_back (Withdraw k) = ap (option_map Withdraw) (front k (zeros keys.size))
  request_back (LookUp k) = ap (option_map LookUp) (front k (zeros keys.size))
  request_back (Count lo hi) =
      let back : keys.read (drop keys.size (keys.written lo ++ keys.written hi)) ≡ Some hi = ap keys.read (drop_at (keys.written lo) (keys.written hi) keys.size (laws.long lo)) ∙ laws.reread hi in
      ap₂ (λ x y. option_map (λ both. Count both.0 both.1) (option_zip x y)) (front lo (keys.written hi)) back

  pub request_same : (a b : Request K) → kind_number (kind_of a) ≡ kind_number (kind_of b) → key_fields keys a ≡ key_fields keys b → a ≡ b
  request_same a b p q =
      let both : Some a ≡ Some b = sym (request_back a) ∙ ap₂ (request_in keys) p q ∙ request_back b in
      cc

-- the parts of equal rows
heads : {a b c d a' b' c' d' : ℕ} {r r' : List ℕ} → a ∷ b ∷ c ∷ d ∷ r ≡ a' ∷ b' ∷ c' ∷ d' ∷ r' → (a ≡ a') × (b ≡ b') × (r ≡ r')
heads e = (cc, cc, cc)

module _ {K T : Type 0} (keys : KeyForm K) (tallies : TallyForm T) (key_laws : KeyLaws keys) (tally-laws : TallyLaws tallies) where
  pub row_same : (a b : Row K T) → request_row keys a ≡ request_row keys b → answer_row tallies a ≡ answer_row tallies b → a ≡ b
  row_same a b p q =
      let r = heads p in
      let s = heads q in
      row_path a b (station_path a.station b.station r.1) (request_same keys key_laws a.request b.request r.0 r.2) (answer-same tallies tally-laws a.answer b.answer s.0 s.2)

  pub rows_same : (rows others : List (Row K T)) → length rows ≡ length others → flat_map (request_row keys) rows ≡ flat_map (request_row keys) others → flat_map (answer_row tallies) rows ≡ flat_map (answer_row tallies) others → rows ≡ others
  rows_same [] [] e p q = refl
  rows_same [] (b ∷ ys) e p q = absurd (omega arith)
  rows_same (a ∷ xs) [] e p q = absurd (omega arith)
  rows_same (a ∷ xs) (b ∷ ys) e p q =
      let lr : ℕ = request_length keys.size in
      let la : ℕ = answer_length tallies.size in
      let here : request_row keys a ≡ request_row keys b = sym (take_at (request_row keys a) (flat_map (request_row keys) xs) lr (request_row_long keys key_laws a)) ∙ ap (take lr) p ∙ take_at (request_row keys b) (flat_map (request_row keys) ys) lr (request_row_long keys key_laws b) in
      let later : flat_map (request_row keys) xs ≡ flat_map (request_row keys) ys = sym (drop_at (request_row keys a) (flat_map (request_row keys) xs) lr (request_row_long keys key_laws a)) ∙ ap (drop lr) p ∙ drop_at (request_row keys b) (flat_map (request_row keys) ys) lr (request_row_long keys key_laws b) in
      let reply : answer_row tallies a ≡ answer_row tallies b = sym (take_at (answer_row tallies a) (flat_map (answer_row tallies) xs) la (answer_row_long tallies tally-laws a)) ∙ ap (take la) q ∙ take_at (answer_row tallies b) (flat_map (answer_row tallies) ys) la (answer_row_long tallies tally-laws b) in
      let replies : flat_map (answer_row tallies) xs ≡ flat_map (answer_row tallies) ys = sym (drop_at (answer_row tallies a) (flat_map (answer_row tallies) xs) la (answer_row_long tallies tally-laws a)) ∙ ap (drop la) q ∙ drop_at (answer_row tallies b) (flat_map (answer_row tallies) ys) la (answer_row_long tallies tally-laws b) in
      ap₂ (λ x l. x ∷ l) (row_same a b here reply) (rows_same xs ys (omega arith) later replies)
