-- What a register is at any moment: requests, places, queues and stations.
use Rattle.std.specs.Prelude.{ℕ, min, Bool, List, [], Option}
use Rattle.std.specs.declared.option.Option.TheVariants as option
use Rattle.requests.specs.declared.answer.Answer.{Answer}
use Rattle.requests.specs.declared.request.Request.{Request}
use Rattle.rules.specs.declared.mode.Mode.{Mode}
use Rattle.rules.specs.declared.note.Note.{Note}
use Rattle.rules.specs.declared.note.Note.TheVariants as note
use Rattle.rules.specs.Kinds.{Kinds}

-- a slot is empty, holds a key, or leads to a place
pub data Slot (K : Type 0) : Type 0 where
  empty : Slot K
  holds : K → Slot K
  leads : ℕ → Slot K

-- a place: keys below the split belong left, all others right
pub record Place (K T : Type 0) : Type 0 where
  pub split : K
  pub left : Slot K
  pub right : Slot K
  pub tally : T

-- a request in a queue; the mode is a count's, and Between for every other request
pub record Waiter : Type 0 where
  pub number : ℕ
  pub mode : Mode

-- a station's note, and its request that is not collected yet
pub record Desk : Type 0 where
  pub note : Note
  pub uncollected : Option ℕ

pub record State (K T : Type 0) : Type 0 where
  -- how many requests the register takes
  pub capacity : ℕ
  -- the requests submitted, by number from 1
  pub requests : List (Request K)
  -- the station of each request
  pub asker : ℕ → ℕ
  -- whether its key was present just before it; missing until a carry writes it, and counts have none
  pub decision : ℕ → Option Bool
  -- the answer of a request that is no count, once it is finished
  pub answer : ℕ → Option (Answer T)
  -- a count's tally so far
  pub counted : ℕ → T
  -- the slot of the gate, place 0
  pub slot : Slot K
  -- the places that are made, by the number of the request that made each
  pub place : ℕ → Option (Place K T)
  -- the queue of each place, the gate's included, the head first
  pub queue : ℕ → List Waiter
  -- the stations, by number from 1
  pub desk : ℕ → Desk

-- a register takes at most so many requests
abbrev pub most_requests : ℕ
most_requests = 1024

-- a register just opened over a row of so many cells
abbrev pub opening : {K T : Type 0} → Kinds K T → ℕ → State K T
opening w cells = record {
  capacity = min most_requests cells;
  requests = [];
  asker = λ _. 0;
  decision = λ _. option.None;
  answer = λ _. option.None;
  counted = λ _. w.none;
  slot = empty;
  place = λ _. option.None;
  queue = λ _. [];
  desk = λ _. record { note = note.None; uncollected = option.None };
}
