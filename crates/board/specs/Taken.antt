-- A request more: its cell, and the state with it.
use Rattle.std.specs.Prelude.{ℕ, suc, false, Some, None}
use Rattle.keys.specs.declared.key.Key as key
use Rattle.tallies.specs.declared.tally.Tally as tally
use Rattle.requests.specs.Requests.{kind_of}
use Rattle.requests.specs.declared.request.Request.{Request}
use Rattle.requests.specs.declared.request.Request.TheVariants.{Enter, Withdraw, LookUp, Count}
use Rattle.rules.specs.declared.mode.Mode.TheVariants.{Between}
use Rattle.rules.specs.Changes.{with_request, with_waiter, with_uncollected}
use Rattle.rules.specs.Queues.{given}
use Rattle.rules.specs.States.{State}
use Rattle.cells.specs.declared.cell.Cell.{Cell}
use Rattle.cells.specs.declared.slot.Slot.TheVariants as slot
use Rattle.cells.specs.declared.waits.Waits.TheVariants as waits

-- the first key of a request, and its last
abbrev pub first_key : {K : Type 0} → Request K → K
first_key (Enter k) = k
first_key (Withdraw k) = k
first_key (LookUp k) = k
first_key (Count lo hi) = lo

abbrev pub last_key : {K : Type 0} → Request K → K
last_key (Enter k) = k
last_key (Withdraw k) = k
last_key (LookUp k) = k
last_key (Count lo hi) = hi

-- the cell of a request just submitted: it waits at the gate, and no place is made
abbrev pub fresh_cell : {K F T : Type 0} → key.Ghosts K F → tally.Ghosts T K F → ℕ → Request K → Cell F T
fresh_cell k t n r = record {
  station = n;
  kind = kind_of r;
  first = k.parts (first_key r);
  second = k.parts (last_key r);
  decision = None;
  outcome = None;
  counted = t.none;
  waits = waits.Between 0;
  made = false;
  split = 0;
  left = slot.Empty;
  right = slot.Empty;
  tally = t.none;
}

-- station n's request has the next number, waits at the gate, and is held by its station
abbrev pub taken : {K T : Type 0} → State K T → ℕ → Request K → State K T
taken s n r = with_uncollected (with_waiter (with_request s (suc (given s)) n r) 0 (suc (given s)) Between) n (Some (suc (given s)))
