-- A board of which no cell counts shows the state of a register just opened. Assumes nothing.
use Rattle.std.proofs.Common.{◌≡◌, ℕ, zero, suc, List, [], ◌∷◌, length, take, Some, None, refl}
use mathlib.Core.Path.{fun_ext}
use Rattle.keys.specs.declared.key.Key as key
use Rattle.tallies.specs.declared.tally.Tally as tally
use Rattle.rules.specs.declared.note.Note.TheVariants as note
use Rattle.rules.specs.Kinds.{kinds_of}
use Rattle.rules.specs.Queues.{numbered}
use Rattle.rules.specs.States.{opening}
use Rattle.rules.specs.States as rules
use Rattle.cells.specs.declared.cell.Cell.{Cell}
use Rattle.cells.specs.declared.desk.Desk.{Desk}
use Rattle.cells.specs.declared.slot.Slot.TheVariants as slot
use Rattle.cells.specs.Views.{state_shown}
use Rattle.cells.proofs.Shown.{state_path}

pub take_none : {X : Type 0} (xs : List X) → take 0 xs ≡ []
take_none [] = refl
take_none (x ∷ xs) = refl

-- eight desks with nothing on them
abbrev pub bare : Desk
bare = record { note = note.None; uncollected = None }

abbrev pub eight : List Desk
eight = bare ∷ (bare ∷ (bare ∷ (bare ∷ (bare ∷ (bare ∷ (bare ∷ (bare ∷ [])))))))

-- so many of them
bares : ℕ → List Desk
bares zero = []
bares (suc n) = bare ∷ bares n

abbrev desk_of : List Desk → ℕ → rules.Desk
desk_of desks j = elim (numbered desks j) as (λ _. rules.Desk) [ None ↦ record { note = note.None; uncollected = None } | Some d ↦ record { note = d.note; uncollected = d.uncollected } ]

bare_desk : (n j : ℕ) → desk_of (bares n) j ≡ record { note = note.None; uncollected = None }
unfolding bares
bare_desk zero j = refl
bare_desk (suc n) zero = refl
bare_desk (suc n) (suc zero) = refl
bare_desk (suc n) (suc (suc j)) = bare_desk n (suc j)

eight_bare : (j : ℕ) → desk_of eight j ≡ record { note = note.None; uncollected = None }
unfolding bares
eight_bare j = bare_desk 8 j

module _ {K F T : Type 0} (k : key.Ghosts K F) (t : tally.Ghosts T K F) where
  pub opened_state : (cells : List (Cell F T)) → state_shown k t cells 0 slot.Empty eight ≡ opening (kinds_of k t) (length cells)
  opened_state [] = state_path _ _ refl refl refl refl refl refl refl refl refl (fun_ext eight_bare)
  opened_state (x ∷ xs) = state_path _ _ refl refl refl refl refl refl refl refl refl (fun_ext eight_bare)
