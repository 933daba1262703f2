-- Keys, tallies and rows as the reader takes them out of rows. Rests on RowsSame.
use Rattle.std.proofs.Common.{◌≡◌, ℕ, ◌-◌, false, List, length, get_or, take, drop, Some, None, Option, sym, ap, ◌∙◌, ap₂, true≢false, MatchOption}
use Rattle.std.proofs.lemmas.List.{take_rest}
use Rattle.stored.specs.Forms.{KeyForm, TallyForm}
use Rattle.requests.specs.declared.answer.Answer.{Answer}
use Rattle.requests.specs.declared.request.Request.{Request}
use Rattle.requests.specs.declared.row.Row.{Row}
use Rattle.requests.specs.declared.station.Station.{Station}
use Rattle.requests.specs.Fits.{fits}
use Rattle.archive.specs.Format.{request_row, answer_row}
use Rattle.archive.specs.RowsIn.{request_in, answer_in}
use Rattle.archive.proofs.Laws.{KeyLaws, TallyLaws}
use Rattle.archive.proofs.RowsSame.{row_path, station_path, request_back, answer_back}

-- the request and the answer of a row's bytes
pub request_known : {K T : Type 0} (keys : KeyForm K) (laws : KeyLaws keys) (w : Row K T) (bytes : List ℕ) → bytes ≡ request_row keys w → request_in keys (get_or bytes 0 0) (take (length bytes - 4) (drop 4 bytes)) ≡ Some w.request
request_known keys laws w bytes e =
    ap (request_in keys (get_or bytes 0 0)) (take_rest bytes 4) ∙ ap (λ l. request_in keys (get_or l 0 0) (drop 4 l)) e ∙ request_back keys laws w.request

pub answer_known : {K T : Type 0} (tallies : TallyForm T) (laws : TallyLaws tallies) (w : Row K T) (bytes : List ℕ) → bytes ≡ answer_row tallies w → answer_in tallies (get_or bytes 0 0) (take (length bytes - 4) (drop 4 bytes)) ≡ w.answer
answer_known tallies laws w bytes e =
    ap (answer_in tallies (get_or bytes 0 0)) (take_rest bytes 4) ∙ ap (λ l. answer_in tallies (get_or l 0 0) (drop 4 l)) e ∙ answer_back tallies laws w.answer

-- the row that is made of a row's parts is that row
pub row_made : {K T : Type 0} (w : Row K T) (station : Station) (asked : Request K) (answer : Option (Answer T)) (r : Option (Row K T)) → MatchOption r (fits asked answer ≡ false) (λ v. (v.station ≡ station) × (v.request ≡ asked) × (v.answer ≡ answer)) → station.number ≡ w.station.number → asked ≡ w.request → answer ≡ w.answer → r ≡ Some w
row_made w station asked answer None h p q a =
    absurd (true≢false (sym w.answered ∙ sym (ap₂ fits q a) ∙ h))
row_made w station asked answer (Some v) h p q a =
    ap Some (row_path v w (h.0 ∙ station_path station w.station p) (h.1 ∙ q) (h.2 ∙ a))
