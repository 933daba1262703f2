-- A number that is given has its row, and the parts are that row's.
use Rattle.std.proofs.Common.{◌≡◌, ◌-◌, Some, None, Ok, Err, Option, Result, sym, refl, ap, ◌∙◌, ap₂, arith}
use Rattle.std.specs.Option.{option_map, ok_or}
use Rattle.archive.specs.Format.{answer_length, answers_start, request_row, answer_row}
use Rattle.archive.specs.Opened.{row_numbered, row_given, row_bytes, part_of}
use Rattle.archive.proofs.Laws.{KeyLaws, TallyLaws}
use Rattle.archive.proofs.Handed.{handed}
use Rattle.archive.proofs.opened.Archive.row.Goals as goal

-- a part that is there is no refusal, and is the one that is passed on
no_refusal : {X Y E : Type 0} (f : X → Y) (o : Option X) (y : Y) (e g : E) (r : Result X E) → option_map f o ≡ Some y → r ≡ ok_or o e → r ≡ Err g → ⊥
no_refusal f None y e g r h p q = cc
no_refusal f (Some x) y e g r h p q = let both : Ok x ≡ Err g = sym p ∙ q in cc

passed_on : {X Y E : Type 0} (f : X → Y) (o : Option X) (y : Y) (e : E) (x : X) (r : Result X E) → option_map f o ≡ Some y → r ≡ ok_or o e → r ≡ Ok x → f x ≡ y
passed_on f None y e x r h p q = cc
passed_on f (Some z) y e x r h p q =
    let both : Ok z ≡ Ok x = sym p ∙ q in
    let same : z ≡ x = cc in
    let there : f z ≡ y = cc in
    ap f (sym same) ∙ there

pub returns-in_err-request : goal.returns-in_err-request
returns-in_err-request g c =
    λ rows o.
    let keys = g.K.StoredKey.form in
    let tallies = g.T.StoredTally.form in
    let key_laws : KeyLaws keys = let m = g.met.K.StoredKey in record { long = m.long; reread = m.reread; rewritten = m.rewritten } in
    let tally_laws : TallyLaws tallies = let m = g.met.T.StoredTally in record { long = m.long; reread = m.reread; rewritten = m.rewritten } in
    let bytes = c.args.self.now.bytes.now in
    let start = answers_start c.rows.result keys.size in
    let counted = c.rows.ensures ∙ c.in_ok-layout.ensures ∙ o.counted in
    let h = handed keys tallies key_laws tally_laws bytes rows c.args.number c.request_length.result (answer_length tallies.size) start (option_map (λ x. x.now) c.part.result) (part_of start (answer_length tallies.size) (c.args.number - 1) bytes) o.file (omega arith) (omega (arith, counted)) c.request_length.ensures refl (ap (λ n. answers_start n keys.size) counted) c.part.ensures refl in
    absurd (no_refusal (λ x. x.now) c.part.result _ _ _ c.ok_or.result h.request c.ok_or.ensures.value c.in_err-request.was)

pub returns-in_err-answer : goal.returns-in_err-answer
returns-in_err-answer g c =
    λ rows o.
    let keys = g.K.StoredKey.form in
    let tallies = g.T.StoredTally.form in
    let key_laws : KeyLaws keys = let m = g.met.K.StoredKey in record { long = m.long; reread = m.reread; rewritten = m.rewritten } in
    let tally_laws : TallyLaws tallies = let m = g.met.T.StoredTally in record { long = m.long; reread = m.reread; rewritten = m.rewritten } in
    let counted = c.rows.ensures ∙ c.in_ok-layout.ensures ∙ o.counted in
    let start = c.answers_start.ensures ∙ ap (λ n. answers_start n keys.size) (c.in_ok-layout.ensures ∙ o.counted) in
    let h = handed keys tallies key_laws tally_laws c.args.self.now.bytes.now rows c.args.number c.request_length.result c.answer_length.result c.answers_start.result (option_map (λ x. x.now) c.part.result) (option_map (λ x. x.now) c.part-2.result) o.file (omega arith) (omega (arith, counted)) c.request_length.ensures c.answer_length.ensures start c.part.ensures c.part-2.ensures in
    absurd (no_refusal (λ x. x.now) c.part-2.result _ _ _ c.ok_or-2.result h.answer c.ok_or-2.ensures.value c.in_err-answer.was)

pub returns : goal.returns
returns g c =
    λ rows o.
    let keys = g.K.StoredKey.form in
    let tallies = g.T.StoredTally.form in
    let key_laws : KeyLaws keys = let m = g.met.K.StoredKey in record { long = m.long; reread = m.reread; rewritten = m.rewritten } in
    let tally_laws : TallyLaws tallies = let m = g.met.T.StoredTally in record { long = m.long; reread = m.reread; rewritten = m.rewritten } in
    let counted = c.rows.ensures ∙ c.in_ok-layout.ensures ∙ o.counted in
    let start = c.answers_start.ensures ∙ ap (λ n. answers_start n keys.size) (c.in_ok-layout.ensures ∙ o.counted) in
    let h = handed keys tallies key_laws tally_laws c.args.self.now.bytes.now rows c.args.number c.request_length.result c.answer_length.result c.answers_start.result (option_map (λ x. x.now) c.part.result) (option_map (λ x. x.now) c.part-2.result) o.file (omega arith) (omega (arith, counted)) c.request_length.ensures c.answer_length.ensures start c.part.ensures c.part-2.ensures in
    let given : row_given (option_map (row_bytes keys tallies) (row_numbered rows c.args.number)) ≡ Ok (request_row keys h.row, answer_row tallies h.row) = ap (λ w. row_given (option_map (row_bytes keys tallies) w)) h.given in
    let asked = passed_on (λ x. x.now) c.part.result _ _ c.in_ok-request.request c.ok_or.result h.request c.ok_or.ensures.value c.in_ok-request.was in
    let answered = passed_on (λ x. x.now) c.part-2.result _ _ c.in_ok-answer.answer c.ok_or-2.result h.answer c.ok_or-2.ensures.value c.in_ok-answer.was in
    ap₂ (λ x y. Ok (x, y)) asked answered ∙ sym given
