-- Without a fault the bytes are the file of some rows, and with one they are the file of none.
use Rattle.std.proofs.Common.{◌≡◌, List, Some, None, Ok, Err, Result, MatchResult, sym, refl, ◌∙◌, arith}
use Rattle.std.specs.Result.{IsErr}
use Rattle.requests.specs.declared.row.Row.{Row}
use Rattle.archive.specs.Theorems.{FileOf}
use Rattle.archive.proofs.Laws.{KeyLaws, TallyLaws}
use Rattle.archive.proofs.Files.{written_is_read, read_is_written}
use Rattle.archive.proofs.Opening.{rows_of}
use Rattle.archive.proofs.Reading.{all_typed}
use Rattle.archive.proofs.opened.Archive.open.Goals as goal

-- what stands on the side of a refusal
err_side : {A E : Type 0} (P : A → Type 0) (N : Type 0) (r : Result A E) → IsErr r → N → MatchResult r P (λ f. N)
err_side P N (Ok a) h n = cc
err_side P N (Err e) h n = n

pub returns : goal.returns
returns g c =
    let keys = g.K.StoredKey.form in
    let tallies = g.T.StoredTally.form in
    let key_laws : KeyLaws keys = let m = g.met.K.StoredKey in record { long = m.long; reread = m.reread; rewritten = m.rewritten } in
    let tally_laws : TallyLaws tallies = let m = g.met.T.StoredTally in record { long = m.long; reread = m.reread; rewritten = m.rewritten } in
    let bytes = c.args.bytes.now in
    let known = c.in_ok-layout.ensures in
    let r = rows_of keys tallies key_laws tally_laws bytes c.in_ok-layout.layout.rows (all_typed bytes (λ i. omega (arith, c.type_inv.bytes i))) known.0 known.1 in
    record {
      first = known.0;
      accepted = (refl, (r.rows, record { file = r.file; counted = c.rows.ensures ∙ r.counted }));
      written = written_is_read keys tallies key_laws tally_laws;
      read = read_is_written keys tallies key_laws tally_laws;
    }

pub returns-in_err-layout : goal.returns-in_err-layout
returns-in_err-layout g c =
    let keys = g.K.StoredKey.form in
    let tallies = g.T.StoredTally.form in
    let key_laws : KeyLaws keys = let m = g.met.K.StoredKey in record { long = m.long; reread = m.reread; rewritten = m.rewritten } in
    let tally_laws : TallyLaws tallies = let m = g.met.T.StoredTally in record { long = m.long; reread = m.reread; rewritten = m.rewritten } in
    let h = c.in_err-layout.ensures in
    let k = c.from_residual.ensures in
    record {
      first = grind (arith, h, k);
      accepted = err_side _ ((rows : List (Row g.row.K.Denot g.row.T.Denot)) → FileOf keys tallies c.args.bytes.now rows → ⊥) c.from_residual.result k.0 (λ rows f. let none = (written_is_read keys tallies key_laws tally_laws c.args.bytes.now rows f).0 in let both : Some c.in_err-layout.field-0.0 ≡ None = sym h ∙ none in cc);
      written = written_is_read keys tallies key_laws tally_laws;
      read = read_is_written keys tallies key_laws tally_laws;
    }

pub invariant_of-result : goal.invariant_of-result
invariant_of-result g c =
    let l = c.in_ok-layout.layout in
    record {
      few = omega (arith, l.few, c.rows.ensures);
      typed = all_typed c.args.bytes.now (λ i. omega (arith, c.type_inv.bytes i));
      counted = c.rows.ensures ∙ c.in_ok-layout.ensures.1;
    }
