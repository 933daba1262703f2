-- The state of the rules that a row of cells shows, with the count of requests, the gate's slot and the desks beside it.
use Rattle.std.specs.Prelude.{ℕ, min, false, List, map, length, take, Some, None, Option}
use Rattle.std.specs.Bool.{then_some}
use Rattle.std.specs.Option.{option_map}
use Rattle.keys.specs.declared.key.Key as key
use Rattle.tallies.specs.declared.tally.Tally as tally
use Rattle.requests.specs.declared.kind.Kind.{Kind}
use Rattle.requests.specs.declared.kind.Kind.TheVariants as kind
use Rattle.requests.specs.declared.request.Request.{Request}
use Rattle.requests.specs.declared.request.Request.TheVariants.{Enter, Withdraw, LookUp, Count}
use Rattle.rules.specs.declared.note.Note.TheVariants as note
use Rattle.rules.specs.Queues.{numbered}
use Rattle.rules.specs.States.{State, Place, most_requests}
use Rattle.rules.specs.States as rules
use Rattle.cells.specs.declared.cell.Cell.{Cell}
use Rattle.cells.specs.declared.desk.Desk.{Desk}
use Rattle.cells.specs.declared.side.Side.{Side}
use Rattle.cells.specs.declared.side.Side.TheVariants.{Left, Right}
use Rattle.cells.specs.declared.slot.Slot.{Slot}
use Rattle.cells.specs.declared.slot.Slot.TheVariants as slot
use Rattle.cells.specs.declared.waits.Waits.TheVariants as waits
use Rattle.cells.specs.Outcomes.{answer_of}
use Rattle.cells.specs.Rosters.{roster}

-- a cell as it is lent
abbrev pub blank_cell : {F T : Type 0} → F → T → Cell F T
blank_cell fields none = record {
  station = 0;
  kind = kind.LookUp;
  first = fields;
  second = fields;
  decision = None;
  outcome = None;
  counted = none;
  waits = waits.Nowhere;
  made = false;
  split = 0;
  left = slot.Empty;
  right = slot.Empty;
  tally = none;
}

-- the slot of a cell's place on a side
abbrev pub side_slot : {F T : Type 0} → Side → Cell F T → Slot
side_slot Left c = c.left
side_slot Right c = c.right

-- the number that names the split of a cell's place, once it is made
abbrev pub split_of : {F T : Type 0} → Cell F T → Option ℕ
split_of c = then_some c.made c.split

module _ {K F T : Type 0} (k : key.Ghosts K F) (t : tally.Ghosts T K F) where
  -- the request of a cell
  abbrev pub asked_by : Kind → F → F → Request K
  asked_by kind.Enter first second = Enter (k.made first)
  asked_by kind.Withdraw first second = Withdraw (k.made first)
  asked_by kind.LookUp first second = LookUp (k.made first)
  asked_by kind.Count first second = Count (k.made first) (k.made second)

  abbrev pub request_in : Cell F T → Request K
  request_in c = asked_by c.kind c.first c.second

  -- the key that request i entered; none where there is no such request
  abbrev pub key_named : List (Cell F T) → ℕ → Option K
  key_named cells i = option_map (λ c. k.made c.first) (numbered cells i)

  -- a slot with its key
  abbrev pub slot_shown : List (Cell F T) → Slot → rules.Slot K
  slot_shown cells slot.Empty = rules.empty
  slot_shown cells (slot.Key i) = elim (key_named cells i) [ None ↦ rules.empty | Some j ↦ rules.holds j ]
  slot_shown cells (slot.Place p) = rules.leads p

  -- the key of a split, once there is one
  abbrev pub split_named : List (Cell F T) → Option ℕ → Option K
  split_named cells None = None
  split_named cells (Some i) = key_named cells i

  -- the place of a cell, once it is made
  abbrev pub place_shown : List (Cell F T) → Cell F T → Option (Place K T)
  place_shown cells c =
      option_map (λ s. record { split = s; left = slot_shown cells c.left; right = slot_shown cells c.right; tally = c.tally }) (split_named cells (split_of c))

  -- the state shown: only the first cells, one for each request submitted, count
  abbrev pub state_shown : List (Cell F T) → ℕ → Slot → List Desk → State K T
  state_shown cells count gate desks = record {
    capacity = min most_requests (length cells);
    requests = map request_in (take count cells);
    asker = λ i. elim (numbered (take count cells) i) [ None ↦ 0 | Some c ↦ c.station ];
    decision = λ i. elim (numbered (take count cells) i) [ None ↦ None | Some c ↦ c.decision ];
    answer = λ i. elim (numbered (take count cells) i) [ None ↦ None | Some c ↦ option_map answer_of c.outcome ];
    counted = λ i. elim (numbered (take count cells) i) [ None ↦ t.none | Some c ↦ c.counted ];
    slot = slot_shown (take count cells) gate;
    place = λ i. elim (numbered (take count cells) i) [ None ↦ None | Some c ↦ place_shown (take count cells) c ];
    queue = λ p. roster p 1 (map (λ c. c.waits) (take count cells));
    desk = λ n. elim (numbered desks n) [ None ↦ record { note = note.None; uncollected = None } | Some d ↦ record { note = d.note; uncollected = d.uncollected } ];
  }
