-- The walk over a row of cells, left before right: which slots it comes by, which keys these name, and what is still to come.
use Rattle.std.specs.Prelude.{ℕ, zero, suc, ◌<◌, ◌≤◌, Bool, false, cond, List, [], ◌∷◌, ◌++◌, length, is_some, Some, None, Option, nat_le, nat_lt, slice_index}
use Rattle.std.specs.List.{filter_map}
use Rattle.std.specs.Option.{option_map}
use Rattle.rules.specs.Queues.{numbered}
use Rattle.cells.specs.declared.cell.Cell.{Cell}
use Rattle.cells.specs.declared.side.Side.{Side}
use Rattle.cells.specs.declared.side.Side.TheVariants.{Left, Right}
use Rattle.cells.specs.declared.slot.Slot.{Slot}
use Rattle.cells.specs.declared.slot.Slot.TheVariants.{Empty, Key, Place}
use Rattle.cells.specs.Views.{side_slot, split_of}

-- a slot below a place, where numbers rise and pass no bound; any other way down is taken for empty
abbrev pub rising_from : ℕ → ℕ → Slot → Slot
rising_from above most Empty = Empty
rising_from above most (Key i) = Key i
rising_from above most (Place p) = cond (nat_lt above p) (cond (nat_le p most) (Place p) Empty) Empty

module _ {F T : Type 0} (live : List (Cell F T)) where
  -- whether a number is that of a cell
  abbrev pub is_number : ℕ → Bool
  is_number i = is_some (numbered live i)

  -- whether a place is made: its split is the number of a cell
  abbrev pub is_split : Option ℕ → Bool
  is_split None = false
  is_split (Some i) = is_number i

  -- the slot of a cell on one side, once its place is made
  abbrev pub slot_in : ℕ → Side → Cell F T → Slot
  slot_in p side c = cond (is_split (split_of c)) (rising_from p (length live) (side_slot side c)) Empty

  -- the slot of a place on one side
  abbrev pub slot_below : ℕ → Side → Slot
  slot_below p side = elim (numbered live p) [ None ↦ Empty | Some c ↦ slot_in p side c ]

  -- the fields of the key that a slot names
  abbrev pub first_named : Slot → Option F
  first_named Empty = None
  first_named (Key i) = option_map (λ c. c.first) (numbered live i)
  first_named (Place p) = None

  -- the slots that a walk comes by from one slot on, followed down so many places
  abbrev pub visits : ℕ → Slot → List Slot
  visits depth Empty = Empty ∷ []
  visits depth (Key i) = Key i ∷ []
  visits zero (Place p) = Place p ∷ []
  visits (suc depth) (Place p) = Place p ∷ (visits depth (slot_below p Left) ++ visits depth (slot_below p Right))

  -- the fields of the keys that slots name, in their order
  abbrev pub firsts_named : List Slot → List F
  firsts_named slots = filter_map first_named slots

  -- the fields of the keys under the gate
  abbrev pub firsts_under : Slot → List F
  firsts_under gate = firsts_named (visits (length live) (rising_from 0 (length live) gate))

  -- the right sides still to come of the places in a work row, the last first
  abbrev pub right_sides : List ℕ → ℕ → List Slot
  right_sides work zero = []
  right_sides work (suc depth) = visits (length live) (slot_below (slice_index work depth) Right) ++ right_sides work depth

  -- the slots still to come of a walk that is at a slot with so many places in the work row
  abbrev pub to_come : List ℕ → ℕ → Slot → List Slot
  to_come work depth at = visits (length live) at ++ right_sides work depth

  -- a place at hand is higher than the work row is deep, and within the bound
  abbrev pub Deep : ℕ → Slot → Type 0
  Deep depth Empty = Unit {0}
  Deep depth (Key i) = Unit {0}
  Deep depth (Place p) = (depth < p) × (p ≤ length live)

  -- the work row holds as many places as it has cells at most, since each is higher than its own depth
  pub record Stands (work : List ℕ) (depth : ℕ) (at : Slot) : Type 0 where
    pub room : length live ≤ length work
    pub fits : depth ≤ length work
    pub low : (j : ℕ) → j < depth → j < slice_index work j
    pub here : Deep depth at
