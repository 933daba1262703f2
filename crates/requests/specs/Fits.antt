-- When an answer, or none yet, stands with a request.
use Rattle.std.specs.Prelude.{Bool, true, Some, None, Option}
use Rattle.requests.specs.declared.answer.Answer.{Answer}
use Rattle.requests.specs.declared.request.Request.{Request}
use Rattle.requests.specs.Answers.{answer_code, answers}
use Rattle.requests.specs.Requests.{kind_of}

-- a request that is unfinished has no answer, and any other one of its kind
abbrev pub fits : {K T : Type 0} → Request K → Option (Answer T) → Bool
fits request None = true
fits request (Some answer) = answers (kind_of request) (answer_code answer)
