-- One row more passes, or its fault is told.
use Rattle.std.proofs.Common.{◌*◌, ◌<◌, ◌≤◌, inl, inr, ⊎_elim, mul-le-mul, ◌∙◌, arith}
use Rattle.std.specs.Slice.Iter.{chunks_exact_rest}
use Rattle.archive.specs.Format.{request_length}
use Rattle.archive.proofs.RowsLeft.{answer_there, answers_more, answers_failed, answers_end}
use Rattle.archive.proofs.answer_rows.check_answers.Goals as goal

pub check_answer-requires : goal.check_answer-requires
check_answer-requires g c =
    let key = g.K.StoredKey.form.size in
    let tally = g.T.StoredTally.form.size in
    let s = c.in-Some.ensures.steps in
    let inv = c.loop-i.invariant in
    let left = inv.2 in
    let below : c.loop-i.i-iterator.count < c.args.layout.now.rows = answer_there key tally c.args.layout.now.rows c.loop-i.i-iterator.count c.answers_start-start.result c.answer_length-size.result c.args.requests.now c.args.answers.now (chunks_exact_rest c.loop-i.i-iterator.iter.a) (chunks_exact_rest c.loop-i.i-iterator.iter.b) c.in-Some.row.now (chunks_exact_rest c.next.new.self.iter.b) left s.0.1.1.0 (s.0.1.1.1 ∙ inv.4) in
    let asked : c.args.layout.now.rows * request_length key ≤ 1024 * 36 = mul-le-mul {n₁ = c.args.layout.now.rows} {m₁ = request_length key} {n₂ = 1024} {m₂ = 36} (omega arith) (omega arith) in
    let answered : c.in-Some.i * c.answer_length-size.result ≤ 1024 * 20 = mul-le-mul {n₁ = c.in-Some.i} {m₁ = c.answer_length-size.result} {n₂ = 1024} {m₂ = 20} (omega (arith, s.1)) (omega (arith, left.sized)) in
    (omega (arith, s.0.1.1.1, inv.4, left.sized), omega (arith, c.answers_start-start.ensures))

pub loop-i-preserved : goal.loop-i-preserved
loop-i-preserved g c =
    let s = c.in-Some.ensures.steps in
    let inv = c.loop-i.invariant in
    let more = answers_more g.K.StoredKey.form.size g.T.StoredTally.form.size c.args.layout.now.rows c.loop-i.i-iterator.count c.answers_start-start.result c.answer_length-size.result c.args.requests.now c.args.answers.now (chunks_exact_rest c.loop-i.i-iterator.iter.a) (chunks_exact_rest c.loop-i.i-iterator.iter.b) c.in-Some.asked.now c.in-Some.row.now (chunks_exact_rest c.next.new.self.iter.a) (chunks_exact_rest c.next.new.self.iter.b) inv.2 s.0.0.1.0 s.0.1.1.0 (s.0.0.1.1 ∙ inv.3) (s.0.1.1.1 ∙ inv.4) c.in-Some.i c.check_answer.result s.1 c.check_answer.ensures c.next.new.self.count s.2 c.in_ok-check_answer.was in
    let on = c.in-Some.ensures.goes.on inv.1 in
    (on.0, on.1, more, s.0.0.0 ∙ inv.3, s.0.1.0 ∙ inv.4)

pub returns-in_err-check_answer : goal.returns-in_err-check_answer
returns-in_err-check_answer g c =
    let s = c.in-Some.ensures.steps in
    let inv = c.loop-i.invariant in
    let told = answers_failed g.K.StoredKey.form.size g.T.StoredTally.form.size c.args.layout.now.rows c.loop-i.i-iterator.count c.answers_start-start.result c.answer_length-size.result c.args.requests.now c.args.answers.now (chunks_exact_rest c.loop-i.i-iterator.iter.a) (chunks_exact_rest c.loop-i.i-iterator.iter.b) c.in-Some.asked.now c.in-Some.row.now (chunks_exact_rest c.next.new.self.iter.a) (chunks_exact_rest c.next.new.self.iter.b) inv.2 s.0.0.1.0 s.0.1.1.0 (s.0.0.1.1 ∙ inv.3) (s.0.1.1.1 ∙ inv.4) c.in-Some.i c.check_answer.result s.1 c.check_answer.ensures c.in_err-check_answer.field-0.0 c.in_err-check_answer.was in
    let start = c.answers_start-start.ensures in
    let given = c.from_residual.ensures in
    grind (arith, told, given, start)

pub returns : goal.returns
returns g c =
    let s = c.in-None.ensures.steps in
    let inv = c.loop-i.invariant in
    let end = answers_end g.K.StoredKey.form.size g.T.StoredTally.form.size c.args.layout.now.rows c.loop-i.i-iterator.count c.answers_start-start.result c.answer_length-size.result c.args.requests.now c.args.answers.now (chunks_exact_rest c.loop-i.i-iterator.iter.a) (chunks_exact_rest c.loop-i.i-iterator.iter.b) inv.2 (⊎_elim (λ e. inl (omega (arith, e.1.1.0, inv.3))) (λ e. inr (omega (arith, e.1.1.0, inv.4))) s.0) in
    let start = c.answers_start-start.ensures in
    grind (arith, end, start)
