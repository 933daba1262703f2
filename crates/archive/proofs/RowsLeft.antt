-- The request rows and the answer rows that are left. Rests on Rows.
use Rattle.std.proofs.Common.{◌≡◌, ℕ, ◌+◌, ◌-◌, ◌*◌, ◌<◌, ◌≤◌, ◌⊎◌, inl, inr, List, [], ◌∷◌, ◌++◌, length, get_or, take, drop, Ok, Err, Result, sym, refl, ap, ◌∙◌, ap₂, arith, length-append}
use Rattle.stored.specs.Forms.{KeyForm}
use Rattle.archive.specs.declared.fault.Fault.{Fault}
use Rattle.archive.specs.Format.{request_length, answer_length}
use Rattle.archive.specs.Checks.{Check, passed, request_checks, requests_checks, answer_checks, answers_checks}
use Rattle.archive.proofs.Rows.{Left, row_there, row_taken, row_none, front_of, back_of, left_more, left_failed, left_none}

-- a row in front is one that is left
there : (rows count size : ℕ) (row rest rest' : List ℕ) → 0 < size → rest ≡ row ++ rest' → length row ≡ size → length rest ≡ (rows - count) * size → count < rows
there rows count size row rest rest' h e l k =
    let both : length rest ≡ length row + length rest' = ap length e ∙ length-append row rest' in
    row_there rows count size (length rest) h (omega arith) k

module _ {K : Type 0} (keys : KeyForm K) where
  abbrev one_request : ℕ → ℕ → List ℕ → List Check
  one_request number offset l = request_checks keys number offset (take (request_length keys.size) l)

  pub record RequestsLeft (rows count size : ℕ) (whole rest : List ℕ) : Type 0 where
    pub sized : size ≡ request_length keys.size
    pub within : count ≤ rows
    pub long : length rest ≡ (rows - count) * request_length keys.size
    pub same : Left (request_length keys.size) 36 one_request (drop (request_length keys.size)) (requests_checks keys) (λ number offset l. refl) (λ n number offset l. refl) rows count whole rest

  module _ (rows count size : ℕ) (whole rest row rest' : List ℕ) (left : RequestsLeft rows count size whole rest) (cut : rest ≡ row ++ rest') (long : length row ≡ size) (i : ℕ) (o : Result (Unit {0}) Fault) (at : i ≡ count) (told : o ≡ passed (request_checks keys (i + 1) (36 + i * size) row)) where
    full : length row ≡ request_length keys.size
    full = long ∙ left.sized

    pub request_there : count < rows
    request_there = there rows count (request_length keys.size) row rest rest' (omega arith) cut full left.long

    here : o ≡ passed (one_request (count + 1) (36 + count * request_length keys.size) rest)
    here =
        told ∙ ap₂ (λ n m. passed (request_checks keys (n + 1) (36 + n * m) row)) at left.sized ∙ ap (λ l. passed (request_checks keys (count + 1) (36 + count * request_length keys.size) l)) (sym (front_of (request_length keys.size) row rest rest' cut full))

    pub requests_more : (j : ℕ) → j ≡ count + 1 → o ≡ Ok tt → RequestsLeft rows j size whole rest'
    requests_more j e p =
        let more = left_more (request_length keys.size) 36 one_request (drop (request_length keys.size)) (requests_checks keys) (λ number offset l. refl) (λ n number offset l. refl) rows count whole rest request_there left.same (sym here ∙ p) in
        let h = request_there in
        record {
          sized = left.sized;
          within = omega arith;
          long = row_taken rows count (request_length keys.size) row rest rest' request_there cut full left.long ∙ ap (λ n. (rows - n) * request_length keys.size) (sym e);
          same = more ∙ ap₂ (λ n l. passed (requests_checks keys (rows - n) (n + 1) (36 + n * request_length keys.size) l)) (sym e) (back_of (request_length keys.size) row rest rest' cut full);
        }

    pub requests_failed : (f : Fault) → o ≡ Err f → passed (requests_checks keys rows 1 36 whole) ≡ Err f
    requests_failed f p =
        left_failed (request_length keys.size) 36 one_request (drop (request_length keys.size)) (requests_checks keys) (λ number offset l. refl) (λ n number offset l. refl) rows count whole rest request_there left.same f (sym here ∙ p)

  pub requests_end : (rows count size : ℕ) (whole rest : List ℕ) → RequestsLeft rows count size whole rest → length rest < size → passed (requests_checks keys rows 1 36 whole) ≡ Ok tt
  requests_end rows count size whole rest left h =
      let e = left.sized in
      left_none (request_length keys.size) 36 one_request (drop (request_length keys.size)) (requests_checks keys) (λ number offset l. refl) (λ n number offset l. refl) rows count whole rest (row_none rows count (request_length keys.size) (length rest) (omega arith) left.long) left.same

module _ (key tally : ℕ) where
  abbrev one_answer : ℕ → ℕ → List ℕ × List ℕ → List Check
  one_answer number offset p = answer_checks (get_or p.0 0 0) number offset (take (answer_length tally) p.1)

  abbrev behind : List ℕ × List ℕ → List ℕ × List ℕ
  behind p = (drop (request_length key) p.0, drop (answer_length tally) p.1)

  abbrev all_answers : ℕ → ℕ → ℕ → List ℕ × List ℕ → List Check
  all_answers n number offset p = answers_checks key tally n number offset p.0 p.1

  pub record AnswersLeft (rows count start size : ℕ) (requests answers asked rest : List ℕ) : Type 0 where
    pub sized : size ≡ answer_length tally
    pub within : count ≤ rows
    pub asked_long : length asked ≡ (rows - count) * request_length key
    pub long : length rest ≡ (rows - count) * answer_length tally
    pub same : Left (answer_length tally) start one_answer behind all_answers (λ number offset l. refl) (λ n number offset l. refl) rows count (requests, answers) (asked, rest)

  pub answer_there : (rows count start size : ℕ) (requests answers asked rest row rest' : List ℕ) → AnswersLeft rows count start size requests answers asked rest → rest ≡ row ++ rest' → length row ≡ size → count < rows
  answer_there rows count start size requests answers asked rest row rest' left cut long =
      there rows count (answer_length tally) row rest rest' (omega arith) cut (long ∙ left.sized) left.long

  module _ (rows count start size : ℕ) (requests answers asked rest ask row asked' rest' : List ℕ) (left : AnswersLeft rows count start size requests answers asked rest) (asked-cut : asked ≡ ask ++ asked') (cut : rest ≡ row ++ rest') (asked-full : length ask ≡ request_length key) (long : length row ≡ size) (i : ℕ) (o : Result (Unit {0}) Fault) (at : i ≡ count) (told : o ≡ passed (answer_checks (get_or ask 0 0) (i + 1) (start + i * size) row)) where
    answer-full : length row ≡ answer_length tally
    answer-full = long ∙ left.sized

    here-answer : count < rows
    here-answer = answer_there rows count start size requests answers asked rest row rest' left cut long

    asked_here : get_or ask 0 0 ≡ get_or asked 0 0
    asked_here = sym (ap (λ l. get_or l 0 0) asked-cut ∙ go ask asked-full)
      where
        go : (l : List ℕ) → length l ≡ request_length key → get_or (l ++ asked') 0 0 ≡ get_or l 0 0
        go [] h = absurd (omega arith)
        go (x ∷ xs) h = refl

    answer_here : o ≡ passed (one_answer (count + 1) (start + count * answer_length tally) (asked, rest))
    answer_here =
        told ∙ ap₂ (λ n m. passed (answer_checks (get_or ask 0 0) (n + 1) (start + n * m) row)) at left.sized ∙ ap₂ (λ k l. passed (answer_checks k (count + 1) (start + count * answer_length tally) l)) asked_here (sym (front_of (answer_length tally) row rest rest' cut answer-full))

    pub answers_more : (j : ℕ) → j ≡ count + 1 → o ≡ Ok tt → AnswersLeft rows j start size requests answers asked' rest'
    answers_more j e p =
        let more = left_more (answer_length tally) start one_answer behind all_answers (λ number offset l. refl) (λ n number offset l. refl) rows count (requests, answers) (asked, rest) here-answer left.same (sym answer_here ∙ p) in
        let h = here-answer in
        let back = ap₂ (λ k l. passed (answers_checks key tally (rows - (count + 1)) (count + 1 + 1) (start + (count + 1) * answer_length tally) k l)) (back_of (request_length key) ask asked asked' asked-cut asked-full) (back_of (answer_length tally) row rest rest' cut answer-full) in
        record {
          sized = left.sized;
          within = omega arith;
          asked_long = row_taken rows count (request_length key) ask asked asked' here-answer asked-cut asked-full left.asked_long ∙ ap (λ n. (rows - n) * request_length key) (sym e);
          long = row_taken rows count (answer_length tally) row rest rest' here-answer cut answer-full left.long ∙ ap (λ n. (rows - n) * answer_length tally) (sym e);
          same = more ∙ back ∙ ap (λ n. passed (answers_checks key tally (rows - n) (n + 1) (start + n * answer_length tally) asked' rest')) (sym e);
        }

    pub answers_failed : (f : Fault) → o ≡ Err f → passed (answers_checks key tally rows 1 start requests answers) ≡ Err f
    answers_failed f p =
        left_failed (answer_length tally) start one_answer behind all_answers (λ number offset l. refl) (λ n number offset l. refl) rows count (requests, answers) (asked, rest) here-answer left.same f (sym answer_here ∙ p)

  pub answers_end : (rows count start size : ℕ) (requests answers asked rest : List ℕ) → AnswersLeft rows count start size requests answers asked rest → (length asked < request_length key) ⊎ (length rest < size) → passed (answers_checks key tally rows 1 start requests answers) ≡ Ok tt
  answers_end rows count start size requests answers asked rest left h =
      left_none (answer_length tally) start one_answer behind all_answers (λ number offset l. refl) (λ n number offset l. refl) rows count (requests, answers) (asked, rest) (go h) left.same
    where
      go : (length asked < request_length key) ⊎ (length rest < size) → rows ≤ count
      go (inl h) = row_none rows count (request_length key) (length asked) h left.asked_long
      go (inr h) = let e = left.sized in row_none rows count (answer_length tally) (length rest) (omega arith) left.long
