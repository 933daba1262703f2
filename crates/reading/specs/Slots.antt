-- The slots that a walk has still to come by, and the keys that these name.
use Rattle.std.specs.Prelude.{List, [], Some, None}
use Rattle.cells.specs.declared.slot.Slot.{Slot}
use Rattle.reading.specs.declared.walk.Slots.{Slots}
use Rattle.reading.specs.declared.walk.Firsts.{Firsts}
use Rattle.reading.specs.Walks.{to_come, firsts_named, Stands}

module _ {F T : Type 0} where
  abbrev pub slots_left : Slots F T → List Slot
  slots_left s = elim s.walk [ None ↦ [] | Some w ↦ to_come s.live.now s.work.now w.depth w.at ]

  -- while it goes on, the work row stands as the walk needs it
  abbrev pub CanGoOn : Slots F T → Type 0
  CanGoOn s = elim s.walk [ None ↦ Unit {0} | Some w ↦ Stands s.live.now s.work.now w.depth w.at ]

  -- the fields of the keys still to come
  abbrev pub firsts_left : Firsts F T → List F
  firsts_left s = firsts_named s.live.now (slots_left s.slots)

  abbrev pub CanFind : Firsts F T → Type 0
  CanFind s = CanGoOn s.slots
