-- The desk of a station, read and written. Rests on Parts.
use Rattle.std.proofs.Common.{◌≡◌, ℕ, zero, suc, ◌-◌, ◌<◌, ◌≤◌, List, length, get_or, set, Some, None, refl, ap, ◌∙◌, arith}
use Rattle.keys.specs.declared.key.Key as key
use Rattle.tallies.specs.declared.tally.Tally as tally
use Rattle.rules.specs.declared.note.Note.TheVariants as note
use Rattle.rules.specs.Changes.{with_desk}
use Rattle.rules.specs.Queues.{numbered}
use Rattle.rules.specs.States as rules
use Rattle.cells.specs.declared.cell.Cell.{Cell}
use Rattle.cells.specs.declared.desk.Desk.{Desk}
use Rattle.cells.specs.declared.slot.Slot.{Slot}
use Rattle.cells.specs.Views.{state_shown}
use Rattle.cells.proofs.Shown.{state_path, part_set}
use Rattle.board.proofs.Parts.{numbered_get}

-- the desks as the rules have them
abbrev pub desk_row : List Desk → ℕ → rules.Desk
desk_row desks n = elim (numbered desks n) [ None ↦ record { note = note.None; uncollected = None } | Some d ↦ record { note = d.note; uncollected = d.uncollected } ]

pub desk-here : (desks : List Desk) (n : ℕ) (d : Desk) → 1 ≤ n → n - 1 < length desks → desk_row desks n ≡ record { note = (get_or desks (n - 1) d).note; uncollected = (get_or desks (n - 1) d).uncollected }
desk-here desks zero d h m = absurd (omega arith)
desk-here desks (suc i) d h m =
    let back : i ≡ suc i - 1 = omega arith in
    ap (λ o. elim o as (λ _. rules.Desk) [ None ↦ record { note = note.None; uncollected = None } | Some d ↦ record { note = d.note; uncollected = d.uncollected } ]) (numbered_get desks i d (omega arith) ∙ ap (λ j. Some (get_or desks j d)) back)

module _ {K F T : Type 0} (k : key.Ghosts K F) (t : tally.Ghosts T K F) where
  -- one desk written
  pub desk-put : (cells : List (Cell F T)) (count : ℕ) (gate : Slot) (desks : List Desk) (n : ℕ) (d : Desk) → 1 ≤ n → n - 1 < length desks
      → state_shown k t cells count gate (set desks (n - 1) d) ≡ with_desk (state_shown k t cells count gate desks) n (record { note = d.note; uncollected = d.uncollected })
  desk-put cells count gate desks zero d h m = absurd (omega arith)
  desk-put cells count gate desks (suc i) d h m =
      let back : suc i - 1 ≡ i = omega arith in
      ap (λ j. state_shown k t cells count gate (set desks j d)) back
      ∙ state_path _ _ refl refl refl refl refl refl refl refl refl (part_set (λ e. record { note = e.note; uncollected = e.uncollected }) (record { note = note.None; uncollected = None }) desks i d (omega arith))
