-- The request and the answer that the fields of a row are.
use Rattle.std.specs.Prelude.{ℕ, cond, List, take, drop, Some, None, Option, ◌==◌}
use Rattle.std.specs.Option.{option_map, option_zip}
use Rattle.requests.specs.declared.answer.Answer.{Answer}
use Rattle.requests.specs.declared.answer.Answer.TheVariants.{Changed, Unchanged, Present, Absent, Counted}
use Rattle.requests.specs.declared.request.Request.{Request}
use Rattle.requests.specs.declared.request.Request.TheVariants.{Enter, Withdraw, LookUp, Count}
use Rattle.stored.specs.Forms.{KeyForm, TallyForm}

-- the answer of a code and a tally field
abbrev pub answer_in : {T : Type 0} → TallyForm T → ℕ → List ℕ → Option (Answer T)
answer_in tallies code bytes =
    cond (code == 0) None (cond (code == 1) (Some Changed) (cond (code == 2) (Some Unchanged) (cond (code == 3) (Some Present) (cond (code == 4) (Some Absent) (Some (Counted (tallies.read bytes)))))))

-- the request of a kind's number and key fields
abbrev pub request_in : {K : Type 0} → KeyForm K → ℕ → List ℕ → Option (Request K)
request_in keys number bytes =
    cond (number == 1) (option_map Enter (keys.read (take keys.size bytes))) (cond (number == 2) (option_map Withdraw (keys.read (take keys.size bytes))) (cond (number == 3) (option_map LookUp (keys.read (take keys.size bytes))) (option_map (λ both. Count both.0 both.1) (option_zip (keys.read (take keys.size bytes)) (keys.read (drop keys.size bytes))))))
