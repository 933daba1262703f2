-- What is written and what is left make the whole.
use Rattle.std.proofs.Common.{◌≡◌, ◌+◌, List, ◌++◌, drop, string_bytes}
use Rattle.requests.specs.declared.row.Row.{Row}
use Rattle.archive.specs.Opened.{Opened}
use Rattle.listing.specs.RowTexts.{row_lines}
use Rattle.listing.proofs.rows.list_rows.Given as goal

abbrev pub invariant-loop-i : goal.invariant-loop-i
invariant-loop-i g l =
    (rows : List (Row g.row.K.Denot g.row.T.Denot)) → Opened g.K.StoredKey.form g.T.StoredTally.form l.archive rows → string_bytes l.written ++ row_lines g.K.PrintedKey.text g.T.PrintedTally.text (l.i + 1) (drop l.i rows) ≡ row_lines g.K.PrintedKey.text g.T.PrintedTally.text 1 rows
