-- The code of each answer, and which codes answer which kind of request.
use Rattle.std.specs.Prelude.{ℕ, Bool, ◌||◌, ◌==◌}
use Rattle.requests.specs.declared.answer.Answer.{Answer}
use Rattle.requests.specs.declared.answer.Answer.TheVariants.{Changed, Unchanged, Present, Absent, Counted}
use Rattle.requests.specs.declared.kind.Kind.{Kind}
use Rattle.requests.specs.declared.kind.Kind.TheVariants.{Enter, Withdraw, LookUp, Count}

abbrev pub answer_code : {T : Type 0} → Answer T → ℕ
answer_code Changed = 1
answer_code Unchanged = 2
answer_code Present = 3
answer_code Absent = 4
answer_code (Counted tally) = 5

-- enter and withdraw are answered by 1 or 2, a look-up by 3 or 4, a count by 5
abbrev pub answers : Kind → ℕ → Bool
answers Enter code = code == 1 || code == 2
answers Withdraw code = code == 1 || code == 2
answers LookUp code = code == 3 || code == 4
answers Count code = code == 5
