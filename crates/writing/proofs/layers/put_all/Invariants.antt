-- The rows so far.
use Rattle.std.proofs.Common.{◌≡◌, ◌*◌, List, length, take}
use Rattle.std.specs.List.{flat_map}
use Rattle.requests.specs.declared.row.Row.{Row}
use Rattle.writing.proofs.layers.put_all.Given as goal

abbrev pub invariant-loop-i : goal.invariant-loop-i
invariant-loop-i g l =
    (rows : List (Row g.row.K.Denot g.row.T.Denot)) → g.S.Rows.has l.source rows → l.layout.rows ≡ length rows → take (l.i * l.size) l.parts ≡ flat_map g.P.Part.bytes (take l.i rows)
