-- What holds of rows without a fault, field by field. Rests on Faults.
use Rattle.std.proofs.Common.{◌≡◌, ℕ, ◌+◌, Bool, true, ◌||◌, eqb, List, [], ◌∷◌, get_or, take, drop, is_some, None}
use Rattle.octets.specs.Runs.{all_are}
use Rattle.requests.specs.Stations.{is_station}
use Rattle.stored.specs.Forms.{KeyForm}
use Rattle.archive.specs.declared.fault.Fault.{Fault}
use Rattle.archive.specs.Checks.{Check, first_fault, in_request, in_answer, kind_numbered, is_second, is_code, request_checks, answer_checks}
use Rattle.archive.proofs.Faults.{none_first, none_others}

abbrev check : Bool → Fault → Check
check holds fault = record { holds = holds; fault = fault }

three_hold : (a b c : Bool) (f g h : Fault) → first_fault (check a f ∷ check b g ∷ check c h ∷ []) ≡ None → (a ≡ true) × (b ≡ true) × (c ≡ true)
three_hold a b c f g h e =
    let p = none_others (check a f) (check b g ∷ check c h ∷ []) e in
    let q = none_others (check b g) (check c h ∷ []) p in
    (none_first (check a f) (check b g ∷ check c h ∷ []) e, none_first (check b g) (check c h ∷ []) p, none_first (check c h) [] q)

five_hold : (a b c d e : Bool) (f g h i j : Fault) → first_fault (check a f ∷ check b g ∷ check c h ∷ check d i ∷ check e j ∷ []) ≡ None → (a ≡ true) × (b ≡ true) × (c ≡ true) × (d ≡ true) × (e ≡ true)
five_hold a b c d e f g h i j n =
    let p = none_others (check a f) (check b g ∷ check c h ∷ check d i ∷ check e j ∷ []) n in
    let q = none_others (check b g) (check c h ∷ check d i ∷ check e j ∷ []) p in
    let r = three_hold c d e h i j q in
    (none_first (check a f) (check b g ∷ check c h ∷ check d i ∷ check e j ∷ []) n, none_first (check b g) (check c h ∷ check d i ∷ check e j ∷ []) p, r.0, r.1, r.2)

-- a request row without a fault
pub record RequestHolds {K : Type 0} (keys : KeyForm K) (row : List ℕ) : Type 0 where
  pub kind : is_some (kind_numbered (get_or row 0 0)) ≡ true
  pub station : is_station (get_or row 1 0) ≡ true
  pub gap : all_are 0 (take 2 (drop 2 row)) ≡ true
  pub first : is_some (keys.read (take keys.size (drop 4 row))) ≡ true
  pub second : is_second keys (get_or row 0 0) (drop (4 + keys.size) row) ≡ true

pub request_holds : {K : Type 0} (keys : KeyForm K) (number offset : ℕ) (row : List ℕ) → first_fault (request_checks keys number offset row) ≡ None → RequestHolds keys row
request_holds keys number offset row h =
    let all = five_hold (is_some (kind_numbered (get_or row 0 0))) (is_station (get_or row 1 0)) (all_are 0 (take 2 (drop 2 row))) (is_some (keys.read (take keys.size (drop 4 row)))) (is_second keys (get_or row 0 0) (drop (4 + keys.size) row)) (in_request number offset) (in_request number (offset + 1)) (in_request number (offset + 2)) (in_request number (offset + 4)) (in_request number (offset + 4 + keys.size)) h in
    record { kind = all.0; station = all.1; gap = all.2; first = all.3; second = all.4 }

-- an answer row without a fault
pub record AnswerHolds (kind : ℕ) (row : List ℕ) : Type 0 where
  pub code : is_code (kind_numbered kind) (get_or row 0 0) ≡ true
  pub gap : all_are 0 (take 3 (drop 1 row)) ≡ true
  pub tally : (eqb (get_or row 0 0) 5 || all_are 0 (drop 4 row)) ≡ true

pub answer-holds : (kind number offset : ℕ) (row : List ℕ) → first_fault (answer_checks kind number offset row) ≡ None → AnswerHolds kind row
answer-holds kind number offset row h =
    let all = three_hold (is_code (kind_numbered kind) (get_or row 0 0)) (all_are 0 (take 3 (drop 1 row))) (eqb (get_or row 0 0) 5 || all_are 0 (drop 4 row)) (in_answer number offset) (in_answer number (offset + 1)) (in_answer number (offset + 4)) h in
    record { code = all.0; gap = all.1; tally = all.2 }
