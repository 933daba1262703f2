-- How the layers' faults make the file's. Rests on Passed and Faults.
use Rattle.std.proofs.Common.{◌≡◌, ℕ, zero, suc, ◌-◌, ◌*◌, ◌<◌, true, List, [], ◌∷◌, ◌++◌, length, get_or, take, drop, Some, None, Ok, Err, sym, refl, ap, ◌∙◌, ap₂, arith}
use Rattle.std.proofs.lemmas.List.{take_rest}
use Rattle.std.specs.Option.{option_or}
use Rattle.stored.specs.Forms.{KeyForm, TallyForm}
use Rattle.stored.specs.Numerals.{all_bytes}
use Rattle.archive.specs.declared.fault.Fault.{Fault}
use Rattle.archive.specs.Format.{request_length, answers_start}
use Rattle.archive.specs.Checks.{Check, first_fault, passed, rows_told, header_checks, requests_checks, answers_checks, requests_part, answers_part, fault_of}
use Rattle.archive.proofs.Faults.{first_append}
use Rattle.archive.proofs.Passed.{none_passed, first_failed}

-- rows of u8 are bytes
pub all_typed : (bytes : List ℕ) → ((i : ℕ) → get_or bytes i 0 < 256) → all_bytes bytes ≡ true
all_typed [] h = refl
all_typed (b ∷ bs) h =
    let here : b < 256 = h zero in
    let ih = all_typed bs (λ i. h (suc i)) in
    grind arith

module _ {K T : Type 0} (keys : KeyForm K) (tallies : TallyForm T) (bytes : List ℕ) where
  abbrev asking : List Check
  asking = requests_checks keys (rows_told bytes) 1 36 (requests_part (rows_told bytes) keys.size bytes)

  abbrev answering : List Check
  answering = answers_checks keys.size tallies.size (rows_told bytes) 1 (answers_start (rows_told bytes) keys.size) (requests_part (rows_told bytes) keys.size bytes) (answers_part (rows_told bytes) keys.size bytes)

  layered : fault_of keys tallies bytes ≡ option_or (first_fault (header_checks keys.size tallies.size bytes)) (option_or (first_fault asking) (first_fault answering))
  layered = first_append (header_checks keys.size tallies.size bytes) (asking ++ answering) ∙ ap (option_or (first_fault (header_checks keys.size tallies.size bytes))) (first_append asking answering)

  module _ (rows start : ℕ) (headed : first_fault (header_checks keys.size tallies.size bytes) ≡ None) (counted : rows ≡ rows_told bytes) (begun : start ≡ answers_start rows keys.size) where
    requests_cut : take (start - 36) (drop 36 bytes) ≡ requests_part (rows_told bytes) keys.size bytes
    requests_cut = ap (λ n. take n (drop 36 bytes)) (let e = ap (λ n. n * request_length keys.size) counted in omega arith)

    answers_cut : take (length bytes - start) (drop start bytes) ≡ answers_part (rows_told bytes) keys.size bytes
    answers_cut = take_rest bytes start ∙ ap (λ n. drop n bytes) (begun ∙ ap (λ n. answers_start n keys.size) counted)

    asked_same : passed (requests_checks keys rows 1 36 (take (start - 36) (drop 36 bytes))) ≡ passed asking
    asked_same = ap₂ (λ n l. passed (requests_checks keys n 1 36 l)) counted requests_cut

    answered_same : passed (answers_checks keys.size tallies.size rows 1 (answers_start rows keys.size) (take (start - 36) (drop 36 bytes)) (take (length bytes - start) (drop start bytes))) ≡ passed answering
    answered_same =
        ap (λ n. passed (answers_checks keys.size tallies.size n 1 (answers_start n keys.size) (take (start - 36) (drop 36 bytes)) (take (length bytes - start) (drop start bytes)))) counted ∙ ap₂ (λ l m. passed (answers_checks keys.size tallies.size (rows_told bytes) 1 (answers_start (rows_told bytes) keys.size) l m)) requests_cut answers_cut

    -- a fault of the request rows
    pub requests_first : (f : Fault) → passed (requests_checks keys rows 1 36 (take (start - 36) (drop 36 bytes))) ≡ Err f → fault_of keys tallies bytes ≡ Some f
    requests_first f e =
        layered ∙ ap₂ (λ x y. option_or x (option_or y (first_fault answering))) headed (first_failed asking f (sym asked_same ∙ e))

    module _ (asked : passed (requests_checks keys rows 1 36 (take (start - 36) (drop 36 bytes))) ≡ Ok tt) where
      later : fault_of keys tallies bytes ≡ first_fault answering
      later =
          layered ∙ ap₂ (λ x y. option_or x (option_or y (first_fault answering))) headed (none_passed asking (sym asked_same ∙ asked))

      -- a fault of the answer rows, or none at all
      pub answers_first : (f : Fault) → passed (answers_checks keys.size tallies.size rows 1 (answers_start rows keys.size) (take (start - 36) (drop 36 bytes)) (take (length bytes - start) (drop start bytes))) ≡ Err f → fault_of keys tallies bytes ≡ Some f
      answers_first f e = later ∙ first_failed answering f (sym answered_same ∙ e)

      pub none_first : passed (answers_checks keys.size tallies.size rows 1 (answers_start rows keys.size) (take (start - 36) (drop 36 bytes)) (take (length bytes - start) (drop start bytes))) ≡ Ok tt → fault_of keys tallies bytes ≡ None
      none_first e = later ∙ none_passed answering (sym answered_same ∙ e)
