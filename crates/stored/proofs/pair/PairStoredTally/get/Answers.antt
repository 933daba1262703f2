-- Both tallies, each from its own bytes.
use Rattle.std.proofs.Common.{◌≡◌, ◌+◌, ◌-◌, ◌≤◌, length, take, drop, Ok, sym, ap, ◌∙◌, arith, length-drop}
use Rattle.std.proofs.lemmas.List.{take_rest}
use Rattle.stored.specs.Forms.{tally_got}
use Rattle.stored.specs.Puts.{checked_through}
use Rattle.stored.specs.PairBytesLemmas.{pair_got}
use Rattle.stored.proofs.pair.PairStoredTally.get.Goals as goal

pub returns : goal.returns
returns g c =
    let row = c.args.row.now in
    let a = g.A.StoredTally.form in
    let b = g.B.StoredTally.form in
    let narrow = c.in_ok-fits.ensures.narrow in
    let room = c.in_ok-fits.ensures.room in
    let front : c.width-front.result ≡ a.size = omega (arith, c.width-front.ensures) in
    let wide : a.size + b.size ≤ 16 = omega (arith, c.width.ensures) in
    let long : a.size + b.size ≤ length row = omega (arith, c.width.ensures) in
    let rest : length (drop a.size row) ≡ length row - a.size = length-drop a.size row in
    let whole : take (length row - c.width-front.result) (drop c.width-front.result row) ≡ drop a.size row = take_rest row c.width-front.result ∙ ap (λ n. drop n row) front in
    let first : Ok c.in_ok-first.first ≡ Ok (a.read (take a.size row)) = sym c.in_ok-first.was ∙ c.get.ensures ∙ checked_through a.size row _ (omega arith) (omega arith) in
    let second : Ok c.in_ok-second.second ≡ Ok (b.read (take b.size (drop a.size row))) = sym c.in_ok-second.was ∙ c.get-2.ensures ∙ ap (tally_got b) whole ∙ checked_through b.size (drop a.size row) _ (omega arith) (omega arith) in
    let both = pair_got a b row wide long in
    cc
