-- The lengths of rows and of runs of rows. Rests on Laws.
use Rattle.std.proofs.Common.{◌≡◌, ℕ, suc, ◌+◌, ◌*◌, List, [], ◌∷◌, length, Some, None, Option, sym, ◌∙◌, ap₂, suc-mul, zero-mul, arith, length-append}
use lib.ListN.{length-replicate}
use Rattle.std.specs.List.{flat_map}
use Rattle.requests.specs.declared.answer.Answer.{Answer}
use Rattle.requests.specs.declared.answer.Answer.TheVariants.{Changed, Unchanged, Present, Absent, Counted}
use Rattle.requests.specs.declared.request.Request.{Request}
use Rattle.requests.specs.declared.request.Request.TheVariants.{Enter, Withdraw, LookUp, Count}
use Rattle.requests.specs.declared.row.Row.{Row}
use Rattle.stored.specs.Forms.{KeyForm, TallyForm}
use Rattle.archive.specs.Format.{request_length, answer_length, key_fields, tally_field, request_row, answer_row}
use Rattle.archive.proofs.Laws.{KeyLaws, TallyLaws}

-- a run of parts of one length
pub joined_long : {X : Type 0} (f : X → List ℕ) (n : ℕ) → ((x : X) → length (f x) ≡ n) → (xs : List X) → length (flat_map f xs) ≡ length xs * n
joined_long f n h [] = sym (zero-mul n)
joined_long f n h (x ∷ xs) =
    let ih = joined_long f n h xs in
    let here = h x in
    let step : suc (length xs) * n ≡ length xs * n + n = suc-mul (length xs) n in
    length-append (f x) (flat_map f xs) ∙ omega arith

module _ {K : Type 0} (keys : KeyForm K) (laws : KeyLaws keys) where
  pub key_fields_long : (q : Request K) → length (key_fields keys q) ≡ 2 * keys.size
  key_fields_long (Enter k) = length-append _ _ ∙ ap₂ (λ m n. m + n) (laws.long k) (length-replicate keys.size 0) ∙ omega arith
  key_fields_long (Withdraw k) = length-append _ _ ∙ ap₂ (λ m n. m + n) (laws.long k) (length-replicate keys.size 0) ∙ omega arith
  key_fields_long (LookUp k) = length-append _ _ ∙ ap₂ (λ m n. m + n) (laws.long k) (length-replicate keys.size 0) ∙ omega arith
  key_fields_long (Count lo hi) = length-append _ _ ∙ ap₂ (λ m n. m + n) (laws.long lo) (laws.long hi) ∙ omega arith

  pub request_row_long : {T : Type 0} (r : Row K T) → length (request_row keys r) ≡ request_length keys.size
  request_row_long r = let h = key_fields_long r.request in omega arith

module _ {T : Type 0} (tallies : TallyForm T) (laws : TallyLaws tallies) where
  pub tally_field_long : (a : Option (Answer T)) → length (tally_field tallies a) ≡ tallies.size
  tally_field_long None = length-replicate tallies.size 0
  tally_field_long (Some Changed) = length-replicate tallies.size 0
  tally_field_long (Some Unchanged) = length-replicate tallies.size 0
  tally_field_long (Some Present) = length-replicate tallies.size 0
  tally_field_long (Some Absent) = length-replicate tallies.size 0
  tally_field_long (Some (Counted t)) = laws.long t

  pub answer_row_long : {K : Type 0} (r : Row K T) → length (answer_row tallies r) ≡ answer_length tallies.size
  answer_row_long r = let h = tally_field_long r.answer in omega arith
