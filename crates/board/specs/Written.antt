-- A board with its cells written anew.
use Rattle.std.specs.Prelude.{◌≡◌, ℕ, ◌-◌, List, Some, None, slice_set}
use Rattle.keys.specs.declared.key.Key as key
use Rattle.tallies.specs.declared.tally.Tally as tally
use Rattle.rules.specs.Queues.{numbered}
use Rattle.cells.specs.declared.cell.Cell.{Cell}
use Rattle.board.specs.declared.board.Board.{Board}
use Rattle.board.specs.Cells.{live}

module _ {K F T : Type 0} {k : key.Ghosts K F} {t : tally.Ghosts T K F} where
  -- these are the cells now, and all else is as it was
  pub record Rewritten (b b' : Board K T F k t) (row : List (Cell F T)) : Type 0 where
    pub cells : b'.cells.now ≡ row
    pub count : b'.count ≡ b.count
    pub gate : b'.gate ≡ b.gate
    pub desks : b'.desks ≡ b.desks

  -- the cell of a number that was given is written as one that a change makes of it
  abbrev pub Changed : Board K T F k t → Board K T F k t → ℕ → (Cell F T → Cell F T → Type 0) → Type 0
  Changed b b' n change = elim (numbered (live b) n) [ None ↦ Rewritten b b' b.cells.now | Some c ↦ (c' : Cell F T) × change c c' × Rewritten b b' (slice_set b.cells.now (n - 1) c') ]
