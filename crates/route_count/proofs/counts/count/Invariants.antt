-- What is counted and what is left make the whole.
use Rattle.std.proofs.Common.{◌≡◌}
use Rattle.route_count.specs.Rows.{readings}
use Rattle.route_count.specs.Totals.{both_joined, routes_weight}
use Rattle.route_count.proofs.counts.count.Given as goal

abbrev pub invariant-loop-line : goal.invariant-loop-line
invariant-loop-line l = both_joined l.total (routes_weight (readings l.line-iterator.left.now)) ≡ routes_weight (readings l.text)
