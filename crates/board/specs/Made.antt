-- The place that a request makes of its key and another.
use Rattle.std.specs.Prelude.{ℕ, Some, None}
use Rattle.keys.specs.declared.key.Key as key
use Rattle.tallies.specs.declared.tally.Tally as tally
use Rattle.rules.specs.Changes.{with_place}
use Rattle.rules.specs.Kinds.{kinds_of}
use Rattle.rules.specs.Moves.{made_place}
use Rattle.rules.specs.States.{State}
use Rattle.board.specs.declared.board.Board.{Board}
use Rattle.board.specs.Cells.{key_of}
use Rattle.board.specs.Of.{board_state}

-- place t is made where both numbers name keys
abbrev pub made_after : {K F T : Type 0} → (k : key.Ghosts K F) (t : tally.Ghosts T K F) → Board K T F k t → ℕ → ℕ → State K T
made_after k t b number other =
    elim (key_of k t b number) [
      | None ↦ board_state k t b
      | Some own ↦ elim (key_of k t b other) [
        | None ↦ board_state k t b
        | Some held ↦ with_place (board_state k t b) number (made_place (kinds_of k t) held own)
      ]
    ]
