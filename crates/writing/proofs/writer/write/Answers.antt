-- A kind too wide or too few bytes are told, and all is left; else the file stands in front.
use Rattle.std.proofs.Common.{refl, ◌∙◌, true≢false, arith}
use Rattle.archive.proofs.Laws.{KeyLaws, TallyLaws}
use Rattle.writing.proofs.FilePut.{wide-answer, short-answer, short-after, whole-answer, whole-after}
use Rattle.writing.proofs.writer.write.Goals as goal

pub returns-then-buffer-end : goal.returns-then-buffer-end
returns-then-buffer-end g c =
    let keys = g.K.StoredKey.form in
    let tallies = g.T.StoredTally.form in
    let key_laws : KeyLaws keys = let m = g.met.K.StoredKey in record { long = m.long; reread = m.reread; rewritten = m.rewritten } in
    let tally-laws : TallyLaws tallies = let m = g.met.T.StoredTally in record { long = m.long; reread = m.reread; rewritten = m.rewritten } in
    let l = c.in_ok-layout.layout in
    let same = c.in_ok-layout.ensures.1 in
    record {
      answer = λ rows h. short-answer keys tallies key_laws tally-laws rows l.rows c.answers_start-answers.result c.end-end.result (same ∙ c.count.ensures.all rows h) l.key_fits l.tally_fits c.answers_start-answers.ensures c.end-end.ensures c.args.buffer.now c.if-buffer-end.true;
      after = λ rows h. short-after keys tallies key_laws tally-laws rows l.rows c.answers_start-answers.result c.end-end.result (same ∙ c.count.ensures.all rows h) l.key_fits l.tally_fits c.answers_start-answers.ensures c.end-end.ensures c.args.buffer.now c.if-buffer-end.true;
      kept = λ _. refl;
    }

pub returns : goal.returns
returns g c =
    let keys = g.K.StoredKey.form in
    let tallies = g.T.StoredTally.form in
    let key_laws : KeyLaws keys = let m = g.met.K.StoredKey in record { long = m.long; reread = m.reread; rewritten = m.rewritten } in
    let tally-laws : TallyLaws tallies = let m = g.met.T.StoredTally in record { long = m.long; reread = m.reread; rewritten = m.rewritten } in
    let l = c.in_ok-layout.layout in
    let same = c.in_ok-layout.ensures.1 in
    record {
      answer = λ rows h. whole-answer keys tallies key_laws tally-laws rows l.rows c.answers_start-answers.result c.end-end.result (same ∙ c.count.ensures.all rows h) l.key_fits l.tally_fits c.answers_start-answers.ensures c.end-end.ensures c.args.buffer.now c.if-buffer-end.false;
      after = λ rows h. whole-after keys tallies key_laws tally-laws rows l.rows c.answers_start-answers.result c.end-end.result (same ∙ c.count.ensures.all rows h) l.key_fits l.tally_fits c.answers_start-answers.ensures c.end-end.ensures c.args.buffer.now c.put_header.new.buffer c.put_all.new.parts c.put_all-2.new.parts c.if-buffer-end.false c.put_header.ensures (c.put_all.ensures rows h (same ∙ c.count.ensures.all rows h)) (c.put_all-2.ensures rows h (same ∙ c.count.ensures.all rows h));
      kept = λ e. absurd (true≢false e);
    }

pub returns-in_err-new : goal.returns-in_err-new
returns-in_err-new g c =
    let keys = g.K.StoredKey.form in
    let tallies = g.T.StoredTally.form in
    let given = c.from_residual.ensures in
    record {
      answer = λ rows h. let told = wide-answer keys tallies rows 0 c.in_err-new.field-0.0 c.args.buffer.now (omega arith) c.in_err-new.ensures in let front = told.0 in grind (arith, front, given);
      after = λ rows h. (wide-answer keys tallies rows 0 c.in_err-new.field-0.0 c.args.buffer.now (omega arith) c.in_err-new.ensures).1;
      kept = λ _. refl;
    }

pub returns-in_err-layout : goal.returns-in_err-layout
returns-in_err-layout g c =
    let keys = g.K.StoredKey.form in
    let tallies = g.T.StoredTally.form in
    let given = c.from_residual-in_err-layout.ensures in
    record {
      answer = λ rows h. let told = wide-answer keys tallies rows c.count.result c.in_err-layout.field-0.0 c.args.buffer.now c.count.ensures.few c.in_err-layout.ensures in let front = told.0 in grind (arith, front, given);
      after = λ rows h. (wide-answer keys tallies rows c.count.result c.in_err-layout.field-0.0 c.args.buffer.now c.count.ensures.few c.in_err-layout.ensures).1;
      kept = λ _. refl;
    }
