-- The keys so far are written over the row.
use Rattle.std.proofs.Common.{length}
use Rattle.reading.specs.Walks.{firsts_under}
use Rattle.reading.proofs.Rows.{Written}
use Rattle.reading.proofs.keys_off.write_keys.Given as goal

abbrev pub invariant-loop-i : goal.invariant-loop-i
invariant-loop-i g l =
    (goal.iterator-loop-i g).can_next l.i-iterator
    × (goal.iterator-loop-i g).is_finite l.i-iterator
    × Written (λ f. g.K.Key.parts (g.K.Key.made f)) (firsts_under l.live l.fn.gate) l.initial.row (length l.yielded) l.row
