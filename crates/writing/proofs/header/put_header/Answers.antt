-- One field more.
use Rattle.std.proofs.Common.{◌≡◌, ◌^◌, ◌<◌, length, get_or, ap, ◌∙◌, arith}
use Rattle.writing.proofs.HeaderPut.{field_put, fields_fit, library_four}
use Rattle.writing.proofs.header.put_header.Goals as goal

pub loop-i-preserved : goal.loop-i-preserved
loop-i-preserved g c =
    let layout = c.args.layout.now in
    let fields = c.header_fields-fields.result in
    let nine : length c.header_fields-fields.result ≡ 9 = ap length c.header_fields-fields.ensures in
    let fits : get_or c.header_fields-fields.result c.loop-i.i 0 < 2 ^ 32 = omega (arith, ap (λ l. get_or l c.loop-i.i 0) c.header_fields-fields.ensures, fields_fit layout.rows g.K.StoredKey.form.size g.T.StoredTally.form.size c.loop-i.i layout.few layout.key_fits layout.tally_fits) in
    field_put fields c.args.buffer.now c.loop-i.buffer c.copy_from_slice.new.self c.loop-i.i (omega arith) (omega arith) c.loop-i.invariant (c.copy_from_slice.ensures.after ∙ c.to_be_bytes.ensures ∙ library_four (get_or fields c.loop-i.i 0) fits)
