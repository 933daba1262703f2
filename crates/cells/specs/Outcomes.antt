-- The answer that an outcome stands for.
use Rattle.requests.specs.declared.answer.Answer.{Answer}
use Rattle.requests.specs.declared.answer.Answer.TheVariants as answer
use Rattle.cells.specs.declared.outcome.Outcome.{Outcome}
use Rattle.cells.specs.declared.outcome.Outcome.TheVariants.{Changed, Unchanged, Present, Absent}

abbrev pub answer_of : {T : Type 0} → Outcome → Answer T
answer_of Changed = answer.Changed
answer_of Unchanged = answer.Unchanged
answer_of Present = answer.Present
answer_of Absent = answer.Absent
