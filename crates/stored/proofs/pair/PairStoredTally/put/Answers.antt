-- The second behind the first.
use Rattle.std.proofs.Common.{◌≡◌, ◌+◌, ◌-◌, ◌≤◌, length, take, drop, Ok, sym, ap, ◌∙◌, ap₂, arith}
use borrow.Rule.Slice.PartMut.{put_mid}
use Rattle.stored.specs.Forms.{put_after}
use Rattle.stored.specs.Puts.{checked_through}
use Rattle.stored.specs.PairBytesLemmas.{pair_put}
use Rattle.stored.proofs.pair.PairStoredTally.put.Goals as goal

pub returns : goal.returns
returns g c =
    let row = c.args.row.now in
    let a = g.A.StoredTally.form in
    let b = g.B.StoredTally.form in
    let narrow = c.in_ok-fits.ensures.narrow in
    let room = c.in_ok-fits.ensures.room in
    let front : c.width-front.result ≡ a.size = omega (arith, c.width-front.ensures) in
    let back : c.width.result ≡ b.size = omega (arith, c.width.ensures) in
    let wide : a.size + b.size ≤ 16 = omega arith in
    let long : a.size + b.size ≤ length row = omega arith in
    let kept : length c.put.new.row ≡ length row = c.put.auto.row in
    let part = c.put-2.ensures.after in
    record {
      answer = ap₂ (λ m n. Ok (m + n)) front back ∙ sym (checked_through (a.size + b.size) row _ wide long);
      after = ap (λ n. put_mid n (length c.put.new.row - n) c.put.new.row c.put-2.new.row) front ∙ pair_put row c.put.new.row c.put-2.new.row (a.written c.args.self.first) (b.written c.args.self.second) a.size b.size (length c.put.new.row - a.size) wide long (g.met.A.StoredTally.long c.args.self.first) c.put.ensures.after (omega arith) (part ∙ ap (λ n. put_after b.size (b.written c.args.self.second) (take (length c.put.new.row - n) (drop n c.put.new.row))) front);
    }
