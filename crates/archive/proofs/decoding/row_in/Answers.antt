-- The bytes of a row have its lengths, its station, its request and its answer.
use Rattle.std.proofs.Common.{◌≡◌, ℕ, ◌-◌, true, false, length, get_or, take, drop, Ok, Err, Some, None, Result, MatchResult, sym, ap, ◌∙◌, arith}
use Rattle.std.specs.Result.{result_ok}
use Rattle.keys.specs.declared.refusal.Refusal.{Refusal}
use Rattle.keys.specs.declared.refusal.Refusal.TheVariants.{NoStation}
use Rattle.requests.specs.declared.kind.Kind.{Kind}
use Rattle.requests.specs.declared.station.Station.{Station}
use Rattle.requests.specs.Kinds.{kind_number}
use Rattle.requests.specs.Stations.{is_station}
use Rattle.archive.specs.Checks.{kind_numbered}
use Rattle.archive.specs.RowsIn.{request_in}
use Rattle.archive.proofs.Laws.{KeyLaws, TallyLaws}
use Rattle.archive.proofs.RowsIn.{request_known, answer_known, row_made}
use Rattle.archive.proofs.decoding.row_in.Goals as goal

kind_told : (n : ℕ) (k : Kind) → Some k ≡ kind_numbered n → kind_number k ≡ n
kind_told n k h = grind arith

station_told : (n : ℕ) (r : Result Station Refusal) (s : Station) → MatchResult r (λ s. (s.number ≡ n) × (is_station n ≡ true)) (λ e. (e ≡ NoStation) × (is_station n ≡ false)) → Some s ≡ result_ok r → s.number ≡ n
station_told n (Ok t) s h e = let same : s ≡ t = cc in ap (λ u. u.number) same ∙ h.0
station_told n (Err e) s h k = cc

pub returns-in_err-asked : goal.returns-in_err-asked
returns-in_err-asked g c =
    λ w p q.
    let request = c.args.request.now in
    let laws : KeyLaws g.K.StoredKey.form = let m = g.met.K.StoredKey in record { long = m.long; reread = m.reread; rewritten = m.rewritten } in
    let kind = kind_told (get_or request 0 0) c.in_ok-kind_numbered.field-0 c.in_ok-kind_numbered.ensures in
    let both : None ≡ Some w.request = sym c.in_err-asked.was ∙ c.request_in.ensures ∙ ap (λ n. request_in g.K.StoredKey.form n (take (length request - 4) (drop 4 request))) kind ∙ request_known g.K.StoredKey.form laws w request p in
    cc

pub returns : goal.returns
returns g c =
    λ w p q.
    let request = c.args.request.now in
    let key_laws : KeyLaws g.K.StoredKey.form = let m = g.met.K.StoredKey in record { long = m.long; reread = m.reread; rewritten = m.rewritten } in
    let tally-laws : TallyLaws g.T.StoredTally.form = let m = g.met.T.StoredTally in record { long = m.long; reread = m.reread; rewritten = m.rewritten } in
    let kind = kind_told (get_or request 0 0) c.in_ok-kind_numbered.field-0 c.in_ok-kind_numbered.ensures in
    let both : Some c.in_ok-asked.asked ≡ Some w.request = sym c.in_ok-asked.was ∙ c.request_in.ensures ∙ ap (λ n. request_in g.K.StoredKey.form n (take (length request - 4) (drop 4 request))) kind ∙ request_known g.K.StoredKey.form key_laws w request p in
    let asked : c.in_ok-asked.asked ≡ w.request = cc in
    let answer = c.answer_in.ensures ∙ answer_known g.T.StoredTally.form tally-laws w c.args.answer.now q in
    let station : c.in_ok-station.station.number ≡ w.station.number = station_told (get_or request 1 0) c.new.result c.in_ok-station.station c.new.ensures c.in_ok-station.ensures.value ∙ ap (λ l. get_or l 1 0) p in
    row_made w c.in_ok-station.station c.in_ok-asked.asked c.answer_in.result c.new-2.result c.new-2.ensures station asked answer
