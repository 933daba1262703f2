-- Which rows an accepted file has, and how they are handed out by number.
use Rattle.std.specs.Prelude.{◌≡◌, ℕ, zero, suc, ◌+◌, ◌*◌, cond, List, length, take, drop, Some, None, Ok, Err, Option, Result, nat_lt}
use Rattle.std.specs.List.{slice_get}
use Rattle.keys.specs.declared.refusal.Refusal.{Refusal}
use Rattle.keys.specs.declared.refusal.Refusal.TheVariants.{NotGiven}
use Rattle.requests.specs.declared.row.Row.{Row}
use Rattle.stored.specs.Forms.{KeyForm, TallyForm}
use Rattle.archive.specs.declared.opened.Archive.{Archive}
use Rattle.archive.specs.declared.opened.Parts.{Parts}
use Rattle.archive.specs.Format.{request_row, answer_row}
use Rattle.archive.specs.Theorems.{FileOf}

-- these are the rows of the file
pub record Opened {K T : Type 0} (keys : KeyForm K) (tallies : TallyForm T) (archive : Archive K T) (rows : List (Row K T)) : Type 0 where
  pub file : FileOf keys tallies archive.bytes.now rows
  pub counted : archive.count ≡ length rows

-- rows are numbered from 1
abbrev pub row_numbered : {K T : Type 0} → List (Row K T) → ℕ → Option (Row K T)
row_numbered rows zero = None
row_numbered rows (suc i) = slice_get rows i

-- the row of a number, or that no row has it
abbrev pub row_given : {X : Type 0} → Option X → Result X Refusal
row_given None = Err NotGiven
row_given (Some row) = Ok row

-- what a row is in the file: its request row and its answer row
abbrev pub row_bytes : {K T : Type 0} → KeyForm K → TallyForm T → Row K T → List ℕ × List ℕ
row_bytes keys tallies row = (request_row keys row, answer_row tallies row)

-- the bytes of parts that are handed out
abbrev pub parts_bytes : Result Parts Refusal → Result (List ℕ × List ℕ) Refusal
parts_bytes (Ok parts) = Ok (parts.request.now, parts.answer.now)
parts_bytes (Err refusal) = Err refusal

-- the part of that length, of parts that are one after the other from a start on
abbrev pub part_of : ℕ → ℕ → ℕ → List ℕ → Option (List ℕ)
part_of start size index bytes =
    cond (nat_lt (length bytes) (start + index * size + size)) None (Some (take size (drop (start + index * size) bytes)))
