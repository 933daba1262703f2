-- There are no more lines than bytes, so their numbers fit.
use Rattle.std.proofs.Common.{◌≡◌, ◌+◌, ◌<◌, ◌≤◌, ◌^◌, length, inl, arith, rules}
use Rattle.route_count.specs.Rows.{lines}
use Rattle.route_count.proofs.Fronts.{lines_few}
use Rattle.route_count.proofs.reports.refused_lines.Goals as goal

pub loop-index-init-derived : goal.loop-index-init-derived
loop-index-init-derived c =
    let all = c.into_iter-index-iterator.result in
    let first : all.count ≡ 0 = search rules in
    let left : all.iter.left.now ≡ c.args.text.now = search rules in
    let short : length (lines all.iter.left.now) ≤ length c.args.text.now = rw left (lines_few c.args.text.now) in
    let bound : all.count + length (lines all.iter.left.now) < 2 ^ 64 = omega arith in
    ((tt, tt, inl bound), tt)
