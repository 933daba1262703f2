-- Slots and splits name keys by requests that were submitted.
use Rattle.std.specs.Prelude.{ℕ, ◌≤◌, List, [], ◌∷◌, Some, None, Option}
use Rattle.cells.specs.declared.cell.Cell.{Cell}
use Rattle.cells.specs.declared.slot.Slot.{Slot}
use Rattle.cells.specs.declared.slot.Slot.TheVariants.{Empty, Key, Place}
use Rattle.cells.specs.Views.{split_of}

-- a slot names no key of a request above n
abbrev pub SlotNamed : ℕ → Slot → Type 0
SlotNamed n Empty = Unit {0}
SlotNamed n (Key i) = i ≤ n
SlotNamed n (Place p) = Unit {0}

-- nor does a split
abbrev pub SplitNamed : ℕ → Option ℕ → Type 0
SplitNamed n None = Unit {0}
SplitNamed n (Some i) = i ≤ n

-- and so for a cell's slots and, once its place is made, its split
abbrev pub CellNamed : {F T : Type 0} → ℕ → Cell F T → Type 0
CellNamed n c = SlotNamed n c.left × SlotNamed n c.right × SplitNamed n (split_of c)

abbrev pub CellsNamed : {F T : Type 0} → ℕ → List (Cell F T) → Type 0
CellsNamed n [] = Unit {0}
CellsNamed n (c ∷ cs) = CellNamed n c × CellsNamed n cs
