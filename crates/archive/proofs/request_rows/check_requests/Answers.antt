-- One row more passes, or its fault is told.
use Rattle.std.proofs.Common.{sym, ◌∙◌, arith}
use Rattle.std.specs.Slice.Iter.{chunks_exact_rest}
use Rattle.archive.proofs.RowsLeft.{requests_more, requests_failed, requests_end}
use Rattle.archive.proofs.request_rows.check_requests.Goals as goal

pub loop-i-preserved : goal.loop-i-preserved
loop-i-preserved g c =
    let s = c.in-Some.ensures.steps in
    let left = c.loop-i.invariant in
    (requests_more g.K.StoredKey.form c.args.layout.now.rows c.loop-i.i-iterator.count c.request_length-size.result c.args.requests.now (chunks_exact_rest c.loop-i.i-iterator.iter) c.in-Some.row.now (chunks_exact_rest c.next.new.self.iter) left.0 s.0.1.0 (s.0.1.1 ∙ left.1) c.in-Some.i c.check_request.result s.1 c.check_request.ensures c.next.new.self.count s.2 c.in_ok-check_request.was, s.0.0 ∙ left.1)

pub returns-in_err-check_request : goal.returns-in_err-check_request
returns-in_err-check_request g c =
    let s = c.in-Some.ensures.steps in
    let left = c.loop-i.invariant in
    let told = requests_failed g.K.StoredKey.form c.args.layout.now.rows c.loop-i.i-iterator.count c.request_length-size.result c.args.requests.now (chunks_exact_rest c.loop-i.i-iterator.iter) c.in-Some.row.now (chunks_exact_rest c.next.new.self.iter) left.0 s.0.1.0 (s.0.1.1 ∙ left.1) c.in-Some.i c.check_request.result s.1 c.check_request.ensures c.in_err-check_request.field-0.0 c.in_err-check_request.was in
    let given = c.from_residual.ensures in
    grind (arith, told, given)

pub returns : goal.returns
returns g c =
    let s = c.in-None.ensures.steps in
    sym (requests_end g.K.StoredKey.form c.args.layout.now.rows c.loop-i.i-iterator.count c.request_length-size.result c.args.requests.now (chunks_exact_rest c.loop-i.i-iterator.iter) c.loop-i.invariant.0 (omega (arith, s, c.loop-i.invariant.1)))
