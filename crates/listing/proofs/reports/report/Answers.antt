-- A file with a fault is the file of no rows, and its fault is the one told.
use Rattle.std.proofs.Common.{◌≡◌, Some, None, sym, subst, ap, ◌∙◌, ap₂}
use Rattle.std.proofs.lemmas.Result.{IfOk-weaker}
use Rattle.stored.specs.Forms.{width_of}
use Rattle.archive.specs.Theorems.{FileOf}
use Rattle.listing.specs.FaultTexts.{fault_text}
use Rattle.listing.specs.RowTexts.{listing_text}
use Rattle.listing.proofs.reports.report.Goals as goal

pub returns-in-Ok : goal.returns-in-Ok
returns-in-Ok g c =
    let told = c.in-Ok.ensures in
    let o = told.accepted.1 in
    let file = subst (λ l. FileOf g.K.StoredKey.form g.T.StoredTally.form l o.0) told.accepted.0 o.1.file in
    record {
      rows = λ rs f. let same : rs ≡ o.0 = (told.written c.args.bytes.now o.0 file).1 rs f in IfOk-weaker c.list_rows.result _ _ (λ s h. h ∙ ap (listing_text g.K.PrintedKey.text g.T.PrintedTally.text) (sym same)) (c.list_rows.ensures o.0 o.1);
      fault = λ f e. let both : None ≡ Some f = sym told.first ∙ e in absurd cc;
      written = told.written;
      read = told.read;
    }

pub returns-in-Err : goal.returns-in-Err
returns-in-Err g c =
    let told = c.in-Err.ensures in
    record {
      rows = λ rs f. absurd (told.accepted rs f);
      fault = λ f e.
          let both : Some c.in-Err.fault ≡ Some f = sym told.first ∙ e in
          let same : c.in-Err.fault ≡ f = cc in
          IfOk-weaker c.format.result _ _ (λ s h. h ∙ ap₂ (λ k t. fault_text k t c.args.bytes.now c.in-Err.fault) c.width.ensures c.width-in-Err.ensures ∙ ap (fault_text (width_of g.K.StoredKey.form.size) (width_of g.T.StoredTally.form.size) c.args.bytes.now) same) c.format.ensures.ok;
      written = c.«open».ensures.written;
      read = c.«open».ensures.read;
    }
