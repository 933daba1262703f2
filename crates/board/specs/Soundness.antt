-- A row of cells that shows a sound state, said without the kinds.
use Rattle.std.specs.Prelude.{ℕ, true, List}
use Rattle.keys.specs.declared.key.Key as key
use Rattle.tallies.specs.declared.tally.Tally as tally
use Rattle.rules.specs.Sound.{Sound}
use Rattle.cells.specs.declared.cell.Cell.{Cell}
use Rattle.cells.specs.declared.desk.Desk.{Desk}
use Rattle.cells.specs.declared.slot.Slot.{Slot}
use Rattle.cells.specs.Views.{state_shown}

abbrev pub plain_key : (F : Type 0) → key.Ghosts F F
plain_key F = record { le = λ _ _. true; parts = λ f. f; made = λ f. f }

abbrev pub plain_tally : {F T : Type 0} → T → tally.Ghosts T F F
plain_tally none = record { none = none; joined = λ a b. a; opposed = λ a. a; weighed = λ k. none }

abbrev pub SoundShown : {F T : Type 0} → List (Cell F T) → ℕ → Slot → List Desk → Type 0
SoundShown {F = F} {T = T} cells count gate desks = (none : T) → Sound (state_shown (plain_key F) (plain_tally none) cells count gate desks)
