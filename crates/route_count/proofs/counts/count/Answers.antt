-- One line more is counted, one less is left.
use Rattle.std.proofs.Common.{◌≡◌, sym, ap, ap₂, ◌∙◌}
use Rattle.route_count.specs.Rows.{readings}
use Rattle.route_count.specs.Totals.{both_joined, with_reading, routes_weight}
use Rattle.route_count.proofs.Joinings.{joined-none, count_more, count_all}
use Rattle.route_count.proofs.Meanings.{counts}
use Rattle.route_count.proofs.counts.count.Goals as goal

pub loop-line-init : goal.loop-line-init
loop-line-init c =
    let left : c.into_iter-line-iterator.result.left.now ≡ c.args.text.now = ap (λ s. s.left.now) c.into_iter-line-iterator.ensures.into_iter_gives ∙ c.new-line-items.ensures in
    ap₂ (λ t l. both_joined t (routes_weight (readings l))) c.zero-total.ensures left ∙ joined-none (routes_weight (readings c.args.text.now))

pub loop-line-preserved : goal.loop-line-preserved
loop-line-preserved c =
    let left = c.loop-line.line-iterator.left.now in
    let rest = c.next.new.self.left.now in
    let total = c.counted-total.ensures ∙ ap (λ r. with_reading r c.loop-line.total) c.read_route.ensures.answer in
    ap (λ t. both_joined t (routes_weight (readings rest))) total ∙ count_more left c.in-Some.line.now rest c.loop-line.total c.in-Some.ensures.steps ∙ c.loop-line.invariant

pub returns : goal.returns
returns c =
    let total : c.loop-line.total ≡ routes_weight (readings c.args.text.now) = sym (count_all c.loop-line.line-iterator.left.now c.loop-line.total c.in-None.ensures.steps.0) ∙ c.loop-line.invariant in
    record { answer = total; meaning = counts (readings c.args.text.now) c.loop-line.total total }
