-- A file without a fault has rows.
use Rattle.archive.proofs.Laws.{KeyLaws, TallyLaws}
use Rattle.archive.proofs.Opening.{rows_of}
use Rattle.archive.proofs.opened.Archive.count.Goals as goal

pub returns-clause-opened : goal.returns-clause-opened
returns-clause-opened g c =
    λ sound.
    let keys = g.K.StoredKey.form in
    let tallies = g.T.StoredTally.form in
    let key_laws : KeyLaws keys = let m = g.met.K.StoredKey in record { long = m.long; reread = m.reread; rewritten = m.rewritten } in
    let tally_laws : TallyLaws tallies = let m = g.met.T.StoredTally in record { long = m.long; reread = m.reread; rewritten = m.rewritten } in
    let a = c.args.self.now in
    let r = rows_of keys tallies key_laws tally_laws a.bytes.now a.count a.typed sound a.counted in
    (r.rows, record { file = r.file; counted = r.counted })
