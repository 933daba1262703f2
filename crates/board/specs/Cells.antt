-- Single things that a board's cells hold.
use Rattle.std.specs.Prelude.{ℕ, Bool, true, List, take, Some, None, Option, nat_le}
use Rattle.keys.specs.declared.key.Key as key
use Rattle.tallies.specs.declared.tally.Tally as tally
use Rattle.rules.specs.Queues.{numbered}
use Rattle.rules.specs.Moves as moves
use Rattle.rules.specs.States as rules
use Rattle.cells.specs.declared.cell.Cell.{Cell}
use Rattle.cells.specs.declared.side.Side.{Side}
use Rattle.cells.specs.declared.side.Side.TheVariants.{Left, Right}
use Rattle.cells.specs.declared.slot.Slot.{Slot}
use Rattle.cells.specs.declared.slot.Slot.TheVariants as slot
use Rattle.cells.specs.declared.waits.Waits.{Waits}
use Rattle.cells.specs.declared.waits.Waits.TheVariants.{Nowhere}
use Rattle.cells.specs.Views.{side_slot, key_named, slot_shown}
use Rattle.board.specs.declared.board.Board.{Board}
use Rattle.board.specs.declared.met.Met.{Met}
use Rattle.board.specs.declared.met.Met.TheVariants as met

module _ {K F T : Type 0} {k : key.Ghosts K F} {t : tally.Ghosts T K F} where
  -- the cells of the requests that were given numbers
  abbrev pub live : Board K T F k t → List (Cell F T)
  live b = take b.count b.cells.now

  -- where a request waits
  abbrev pub waits_of : Board K T F k t → ℕ → Waits
  waits_of b n = elim (numbered (live b) n) [ None ↦ Nowhere | Some c ↦ c.waits ]

  -- the slots and the tally of a place, as its cell has them
  abbrev pub slot_beside : Board K T F k t → ℕ → Side → Slot
  slot_beside b p side = elim (numbered (live b) p) [ None ↦ slot.Empty | Some c ↦ side_slot side c ]

module _ {K F T : Type 0} where
  abbrev pub tally_of : (k : key.Ghosts K F) (t : tally.Ghosts T K F) → Board K T F k t → ℕ → T
  tally_of k t b p = elim (numbered (live b) p) [ None ↦ t.none | Some c ↦ c.tally ]

  -- the key that a number names
  abbrev pub key_of : (k : key.Ghosts K F) (t : tally.Ghosts T K F) → Board K T F k t → ℕ → Option K
  key_of k t b i = key_named k t (live b) i

  -- a slot with its key
  abbrev pub slot_of : (k : key.Ghosts K F) (t : tally.Ghosts T K F) → Board K T F k t → Slot → rules.Slot K
  slot_of k t b x = slot_shown k t (live b) x

  -- what is met in a slot: its key with the number that names it
  abbrev pub met_of : (k : key.Ghosts K F) (t : tally.Ghosts T K F) → Board K T F k t → Slot → Met K
  met_of k t b slot.Empty = met.Nothing
  met_of k t b (slot.Key i) = elim (key_of k t b i) [ None ↦ met.Nothing | Some j ↦ met.Key i j ]
  met_of k t b (slot.Place p) = met.Place p

-- whether a slot names no key of a request above n
abbrev pub names : ℕ → Slot → Bool
names n slot.Empty = true
names n (slot.Key i) = nat_le i n
names n (slot.Place p) = true

-- a side as the rules name it
abbrev pub side_shown : Side → moves.Side
side_shown Left = moves.on_left
side_shown Right = moves.on_right

-- what was met in a slot
abbrev pub met_slot : {K : Type 0} → Met K → rules.Slot K
met_slot met.Nothing = rules.empty
met_slot (met.Key i j) = rules.holds j
met_slot (met.Place p) = rules.leads p
