-- What is left decides.
use Rattle.std.proofs.Common.{◌≡◌}
use Rattle.std.specs.Slice.Iter.{chunks_exact_rest, chunks_exact_size}
use Rattle.archive.proofs.RowsLeft.{RequestsLeft}
use Rattle.archive.proofs.request_rows.check_requests.Given as goal

abbrev pub invariant-loop-i : goal.invariant-loop-i
invariant-loop-i g l =
    RequestsLeft g.K.StoredKey.form l.layout.rows l.i-iterator.count l.size l.requests (chunks_exact_rest l.i-iterator.iter) × (chunks_exact_size l.i-iterator.iter ≡ l.size)
