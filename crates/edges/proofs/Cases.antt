-- The list of the cases, proved for lawful kinds.
use Rattle.rules.specs.Kinds.{Kinds, Lawful}
use Rattle.edges.specs.Cases.{EdgeCases}
use Rattle.edges.proofs.FirstRequest.{fresh_counts_zero, seen_undecided, seen_decided, first_needs_four}
use Rattle.edges.proofs.OneKey.{entered_twice, entered_and_withdrawn}
use Rattle.edges.proofs.TwoKeys.{lesser_second, greater_second}
use Rattle.edges.proofs.EmptyRange.{empty_range_is_zero}
use Rattle.edges.proofs.QuietCalls.{empty_range_counts_zero}

pub edge_cases : {K T : Type 0} (w : Kinds K T) → Lawful w → EdgeCases w
edge_cases w law = record {
  fresh_counts_zero = fresh_counts_zero w;
  empty_range_is_zero = empty_range_is_zero w law;
  empty_range_counts_zero = empty_range_counts_zero w law;
  entered_twice = entered_twice w law;
  in_and_out = entered_and_withdrawn w law;
  lesser_second = lesser_second w;
  greater_second = greater_second w law;
  seen_undecided = seen_undecided w;
  seen_decided = seen_decided w;
  first_needs_four = first_needs_four w;
}
