-- What is printed of the bytes of a file, opened as keys and tallies of given kinds.
use Rattle.std.specs.Prelude.{◌≡◌, ℕ, List, IfOk, Some, Result}
use Rattle.requests.specs.declared.row.Row.{Row}
use Rattle.stored.specs.Forms.{KeyForm, TallyForm, width_of}
use Rattle.archive.specs.declared.fault.Fault.{Fault}
use Rattle.archive.specs.Checks.{fault_of}
use Rattle.archive.specs.Theorems.{FileOf, WrittenIsRead, ReadIsWritten}
use Rattle.listing.specs.RowTexts.{listing_text}
use Rattle.listing.specs.FaultTexts.{fault_text}

-- the rows if there are some whose file the bytes are, else the fault; memory may be short
pub record Printing {X E K T : Type 0} (spelled : X → List ℕ) (keys : KeyForm K) (tallies : TallyForm T) (key : K → List ℕ) (tally : T → List ℕ) (bytes : List ℕ) (r : Result X E) : Type 0 where
  -- the rows, where the bytes are the file of these
  pub rows : (rs : List (Row K T)) → FileOf keys tallies bytes rs → IfOk r (λ s. spelled s ≡ listing_text key tally rs)
  -- else the fault
  pub fault : (f : Fault) → fault_of keys tallies bytes ≡ Some f → IfOk r (λ s. spelled s ≡ fault_text (width_of keys.size) (width_of tallies.size) bytes f)
  -- what was written is read back, and what is read is written again, byte for byte
  pub written : WrittenIsRead keys tallies
  pub read : ReadIsWritten keys tallies
