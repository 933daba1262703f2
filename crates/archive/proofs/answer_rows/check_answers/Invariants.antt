-- What is left decides.
use Rattle.std.proofs.Common.{◌≡◌}
use Rattle.std.specs.Slice.Iter.{chunks_exact_rest, chunks_exact_size}
use Rattle.archive.specs.Format.{request_length}
use Rattle.archive.proofs.RowsLeft.{AnswersLeft}
use Rattle.archive.proofs.answer_rows.check_answers.Given as goal

abbrev pub invariant-loop-i : goal.invariant-loop-i
invariant-loop-i g l =
    (goal.iterator-loop-i g).can_next l.i-iterator ×
    (goal.iterator-loop-i g).is_finite l.i-iterator ×
    AnswersLeft g.K.StoredKey.form.size g.T.StoredTally.form.size l.layout.rows l.i-iterator.count l.start l.size l.requests l.answers (chunks_exact_rest l.i-iterator.iter.a) (chunks_exact_rest l.i-iterator.iter.b) ×
    (chunks_exact_size l.i-iterator.iter.a ≡ request_length g.K.StoredKey.form.size) ×
    (chunks_exact_size l.i-iterator.iter.b ≡ l.size)
