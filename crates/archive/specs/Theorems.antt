-- What an archive is for: what was written is read back, and what was read is written again, byte for byte.
use Rattle.std.specs.Prelude.{◌≡◌, ℕ, ◌≤◌, true, List, length, None}
use Rattle.requests.specs.declared.row.Row.{Row}
use Rattle.stored.specs.Forms.{KeyForm, TallyForm, widest}
use Rattle.stored.specs.Numerals.{all_bytes}
use Rattle.archive.specs.Format.{file, most_rows}
use Rattle.archive.specs.Checks.{fault_of}

-- bytes are the file of rows of kinds that are not too wide
pub record FileOf {K T : Type 0} (keys : KeyForm K) (tallies : TallyForm T) (bytes : List ℕ) (rows : List (Row K T)) : Type 0 where
  pub key_fits : keys.size ≤ widest
  pub tally_fits : tallies.size ≤ widest
  pub few : length rows ≤ most_rows
  pub same : bytes ≡ file keys tallies rows

-- the file of rows has no fault, and is the file of no other rows
abbrev pub WrittenIsRead : {K T : Type 0} → KeyForm K → TallyForm T → Type 0
WrittenIsRead {K} {T} keys tallies =
    (bytes : List ℕ) (rows : List (Row K T)) → FileOf keys tallies bytes rows → (fault_of keys tallies bytes ≡ None) × ((others : List (Row K T)) → FileOf keys tallies bytes others → others ≡ rows)

-- bytes without a fault are the file of some rows
abbrev pub ReadIsWritten : {K T : Type 0} → KeyForm K → TallyForm T → Type 0
ReadIsWritten {K} {T} keys tallies =
    (bytes : List ℕ) → all_bytes bytes ≡ true → fault_of keys tallies bytes ≡ None → (rows : List (Row K T)) × FileOf keys tallies bytes rows
