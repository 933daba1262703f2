-- The keys still to come are those from the start on.
use Rattle.std.proofs.Common.{◌≡◌, length}
use Rattle.reading.specs.Slots.{slots_left, firsts_left, CanGoOn}
use Rattle.reading.proofs.walk.FirstsIterator.next.Given as goal

abbrev pub invariant-loop-at : goal.invariant-loop-at
invariant-loop-at g l = CanGoOn l.self.slots × (l.self.live.now ≡ l.initial.self.live.now) × (firsts_left l.initial.self ≡ firsts_left l.self)

abbrev pub decreases-loop-at : goal.decreases-loop-at
decreases-loop-at g l = length (slots_left l.self.slots)
