-- The state of the rules that a board shows, and changes of it that want a request's number.
use Rattle.std.specs.Prelude.{◌≡◌, ℕ, length, Some, None}
use Rattle.keys.specs.declared.key.Key as key
use Rattle.tallies.specs.declared.tally.Tally as tally
use Rattle.rules.specs.Queues.{numbered}
use Rattle.rules.specs.States.{State}
use Rattle.cells.specs.Views.{state_shown}
use Rattle.board.specs.declared.board.Board.{Board}

abbrev pub board_state : {K F T : Type 0} → (k : key.Ghosts K F) (t : tally.Ghosts T K F) → Board K T F k t → State K T
board_state k t b = state_shown k t b.cells.now b.count b.gate b.desks

-- how long the row of cells is
abbrev pub row_length : {K F T : Type 0} {k : key.Ghosts K F} {t : tally.Ghosts T K F} → Board K T F k t → ℕ
row_length b = length b.cells.now

-- the states that two boards show are related so, and the second's row of cells is as long as the first's
pub record Turns {K F T : Type 0} (k : key.Ghosts K F) (t : tally.Ghosts T K F) (b b' : Board K T F k t) (change : State K T → State K T → Type 0) : Type 0 where
  pub after : change (board_state k t b) (board_state k t b')
  pub row : row_length b' ≡ row_length b

-- a change of a request that was given its number; without such a request there is none
abbrev pub if_given : {K T : Type 0} → State K T → ℕ → State K T → State K T
if_given s t changed = elim (numbered s.requests t) [ None ↦ s | Some r ↦ changed ]
