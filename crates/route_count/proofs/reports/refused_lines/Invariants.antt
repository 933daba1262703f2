-- What is written and what is left make the whole.
use Rattle.std.proofs.Common.{◌≡◌, ◌+◌, ◌++◌, string_bytes}
use Rattle.route_count.specs.Reports.{refused_lines}
use Rattle.route_count.specs.Rows.{readings}
use Rattle.route_count.proofs.reports.refused_lines.Given as goal

abbrev pub invariant-loop-index : goal.invariant-loop-index
invariant-loop-index l =
    string_bytes l.written ++ refused_lines (l.index-iterator.count + 1) (readings l.index-iterator.iter.left.now) ≡ refused_lines 1 (readings l.text)
