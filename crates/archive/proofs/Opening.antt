-- The rows of a file that has no fault. Rests on Files.
use Rattle.std.proofs.Common.{◌≡◌, ℕ, true, List, length, None, ap, ◌∙◌}
use Rattle.requests.specs.declared.row.Row.{Row}
use Rattle.stored.specs.Forms.{KeyForm, TallyForm}
use Rattle.stored.specs.Numerals.{all_bytes}
use Rattle.archive.specs.Checks.{rows_told, fault_of}
use Rattle.archive.specs.Theorems.{FileOf}
use Rattle.archive.proofs.Laws.{KeyLaws, TallyLaws}
use Rattle.archive.proofs.Files.{read_is_written, told_by}

-- its rows, and how many
pub record Rows {K T : Type 0} (keys : KeyForm K) (tallies : TallyForm T) (bytes : List ℕ) (count : ℕ) : Type 0 where
  pub rows : List (Row K T)
  pub file : FileOf keys tallies bytes rows
  pub counted : count ≡ length rows

pub rows_of : {K T : Type 0} (keys : KeyForm K) (tallies : TallyForm T) → KeyLaws keys → TallyLaws tallies → (bytes : List ℕ) (count : ℕ) → all_bytes bytes ≡ true → fault_of keys tallies bytes ≡ None → count ≡ rows_told bytes → Rows keys tallies bytes count
rows_of keys tallies key_laws tally_laws bytes count typed none told =
    let found = read_is_written keys tallies key_laws tally_laws bytes typed none in
    record { rows = found.0; file = found.1; counted = told ∙ ap rows_told found.1.same ∙ told_by keys tallies key_laws tally_laws found.0 }
