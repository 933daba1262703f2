-- Rows that were written have no fault. Rests on RowBytes and Faults.
use Rattle.std.proofs.Common.{◌≡◌, ℕ, zero, suc, ◌+◌, true, ◌||◌, eqb, List, [], ◌∷◌, ◌++◌, length, take, drop, is_some, Some, None, Option, refl, ap, ◌∙◌, ap₂, arith}
use Rattle.std.proofs.lemmas.List.{take_at, drop_at}
use Rattle.octets.specs.Runs.{all_are}
use Rattle.std.specs.List.{flat_map}
use Rattle.requests.specs.declared.kind.Kind.{Kind}
use Rattle.requests.specs.declared.kind.Kind.TheVariants as kind
use Rattle.requests.specs.declared.answer.Answer.{Answer}
use Rattle.requests.specs.declared.answer.Answer.TheVariants.{Changed, Unchanged, Present, Absent, Counted}
use Rattle.requests.specs.declared.request.Request.{Request}
use Rattle.requests.specs.declared.request.Request.TheVariants.{Enter, Withdraw, LookUp, Count}
use Rattle.requests.specs.declared.row.Row.{Row}
use Rattle.requests.specs.Fits.{fits}
use Rattle.requests.specs.Kinds.{kind_number}
use Rattle.requests.specs.Requests.{kind_of}
use Rattle.requests.specs.Stations.{is_station}
use Rattle.stored.specs.Forms.{KeyForm, TallyForm}
use Rattle.archive.specs.Format.{request_length, answer_length, zeros, key_fields, tally_field, code_of, request_row, answer_row}
use Rattle.archive.specs.Checks.{first_fault, kind_numbered, is_second, is_code, request_checks, requests_checks, answer_checks, answers_checks}
use Rattle.archive.proofs.Laws.{KeyLaws, TallyLaws}
use Rattle.archive.proofs.Faults.{first_after}
use Rattle.archive.proofs.RowBytes.{request_row_long, answer_row_long}

-- a kind is the one of its number
pub kind_reread : (k : Kind) → kind_numbered (kind_number k) ≡ Some k
kind_reread kind.Enter = refl
kind_reread kind.Withdraw = refl
kind_reread kind.LookUp = refl
kind_reread kind.Count = refl

pub all_are-zeros : (n : ℕ) → all_are 0 (zeros n) ≡ true
all_are-zeros zero = refl
all_are-zeros (suc n) = all_are-zeros n

-- the offset of a row's second key, step by step
past-four : (n : ℕ) → 4 + n ≡ suc (suc (suc (suc n)))
past-four n = omega arith

module _ {K : Type 0} (keys : KeyForm K) (laws : KeyLaws keys) where
  first_key : (k : K) (rest : List ℕ) → is_some (keys.read (take keys.size (keys.written k ++ rest))) ≡ true
  first_key k rest = ap (λ l. is_some (keys.read l)) (take_at (keys.written k) rest keys.size (laws.long k)) ∙ ap is_some (laws.reread k)

  pub first_key-read : (q : Request K) → is_some (keys.read (take keys.size (key_fields keys q))) ≡ true
  first_key-read (Enter k) = first_key k _
  first_key-read (Withdraw k) = first_key k _
  first_key-read (LookUp k) = first_key k _
  first_key-read (Count lo hi) = first_key lo _

  no_second : (k : K) → all_are 0 (drop keys.size (keys.written k ++ zeros keys.size)) ≡ true
  no_second k = ap (all_are 0) (drop_at (keys.written k) (zeros keys.size) keys.size (laws.long k)) ∙ all_are-zeros keys.size

  pub second_key-read : (q : Request K) → is_second keys (kind_number (kind_of q)) (drop keys.size (key_fields keys q)) ≡ true
  second_key-read (Enter k) = no_second k
  second_key-read (Withdraw k) = no_second k
  second_key-read (LookUp k) = no_second k
  second_key-read (Count lo hi) = ap (λ l. is_some (keys.read l)) (drop_at (keys.written lo) (keys.written hi) keys.size (laws.long lo)) ∙ ap is_some (laws.reread hi)

  pub request_row_sound : {T : Type 0} (r : Row K T) (number offset : ℕ) → first_fault (request_checks keys number offset (request_row keys r)) ≡ None
  request_row_sound r number offset =
      let kind : is_some (kind_numbered (kind_number (kind_of r.request))) ≡ true = ap is_some (kind_reread (kind_of r.request)) in
      let station : is_station r.station.number ≡ true = grind arith in
      let first = first_key-read r.request in
      let second : is_second keys (kind_number (kind_of r.request)) (drop (4 + keys.size) (request_row keys r)) ≡ true = ap (λ n. is_second keys (kind_number (kind_of r.request)) (drop n (request_row keys r))) (past-four keys.size) ∙ second_key-read r.request in
      rw (kind, station, first, second)

  pub requests_sound : {T : Type 0} (rows : List (Row K T)) (number offset : ℕ) → first_fault (requests_checks keys (length rows) number offset (flat_map (request_row keys) rows)) ≡ None
  requests_sound [] number offset = refl
  requests_sound (r ∷ rs) number offset =
      let ih = requests_sound rs (number + 1) (offset + request_length keys.size) in
      let row = request_row keys r in
      let rest = flat_map (request_row keys) rs in
      let front = take_at row rest (request_length keys.size) (request_row_long keys laws r) in
      let back = drop_at row rest (request_length keys.size) (request_row_long keys laws r) in
      let here = request_row_sound r number offset in
      first_after (request_checks keys number offset (take (request_length keys.size) (row ++ rest))) (requests_checks keys (length rs) (number + 1) (offset + request_length keys.size) (drop (request_length keys.size) (row ++ rest))) (ap (λ l. first_fault (request_checks keys number offset l)) front ∙ here) ∙ ap (λ l. first_fault (requests_checks keys (length rs) (number + 1) (offset + request_length keys.size) l)) back ∙ ih

-- a code that fits is one of the request's kind
code_sound : {K T : Type 0} (q : Request K) (a : Option (Answer T)) → fits q a ≡ true → is_code (Some (kind_of q)) (code_of a) ≡ true
code_sound q None h = refl
code_sound q (Some a) h = grind arith

tally_sound : {T : Type 0} (tallies : TallyForm T) (a : Option (Answer T)) → (eqb (code_of a) 5 || all_are 0 (tally_field tallies a)) ≡ true
tally_sound tallies None = all_are-zeros tallies.size
tally_sound tallies (Some Changed) = all_are-zeros tallies.size
tally_sound tallies (Some Unchanged) = all_are-zeros tallies.size
tally_sound tallies (Some Present) = all_are-zeros tallies.size
tally_sound tallies (Some Absent) = all_are-zeros tallies.size
tally_sound tallies (Some (Counted t)) = refl

module _ {K T : Type 0} (keys : KeyForm K) (tallies : TallyForm T) (key_laws : KeyLaws keys) (tally-laws : TallyLaws tallies) where
  pub answer_row_sound : (r : Row K T) (number offset : ℕ) → first_fault (answer_checks (kind_number (kind_of r.request)) number offset (answer_row tallies r)) ≡ None
  answer_row_sound r number offset =
      let code : is_code (kind_numbered (kind_number (kind_of r.request))) (code_of r.answer) ≡ true = ap (λ k. is_code k (code_of r.answer)) (kind_reread (kind_of r.request)) ∙ code_sound r.request r.answer r.answered in
      let tally = tally_sound tallies r.answer in
      rw (code, tally)

  pub answers_sound : (rows : List (Row K T)) (number offset : ℕ) → first_fault (answers_checks keys.size tallies.size (length rows) number offset (flat_map (request_row keys) rows) (flat_map (answer_row tallies) rows)) ≡ None
  answers_sound [] number offset = refl
  answers_sound (r ∷ rs) number offset =
      let ih = answers_sound rs (number + 1) (offset + answer_length tallies.size) in
      let asked = request_row keys r in
      let asked-later = flat_map (request_row keys) rs in
      let row = answer_row tallies r in
      let rest = flat_map (answer_row tallies) rs in
      let front = take_at row rest (answer_length tallies.size) (answer_row_long tallies tally-laws r) in
      let back = drop_at row rest (answer_length tallies.size) (answer_row_long tallies tally-laws r) in
      let requests = drop_at asked asked-later (request_length keys.size) (request_row_long keys key_laws r) in
      let here = answer_row_sound r number offset in
      first_after (answer_checks (kind_number (kind_of r.request)) number offset (take (answer_length tallies.size) (row ++ rest))) (answers_checks keys.size tallies.size (length rs) (number + 1) (offset + answer_length tallies.size) (drop (request_length keys.size) (asked ++ asked-later)) (drop (answer_length tallies.size) (row ++ rest))) (ap (λ l. first_fault (answer_checks (kind_number (kind_of r.request)) number offset l)) front ∙ here) ∙ ap₂ (λ l m. first_fault (answers_checks keys.size tallies.size (length rs) (number + 1) (offset + answer_length tallies.size) l m)) requests back ∙ ih
