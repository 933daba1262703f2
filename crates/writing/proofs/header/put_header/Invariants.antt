-- The fields so far, and the bytes after them as they were.
use Rattle.std.proofs.Common.{◌≡◌, ◌*◌, ◌++◌, take, drop}
use Rattle.std.specs.List.{flat_map}
use Rattle.stored.specs.Numerals.{four}
use Rattle.writing.proofs.header.put_header.Given as goal

abbrev pub invariant-loop-i : goal.invariant-loop-i
invariant-loop-i g l = l.buffer ≡ flat_map four (take l.i l.field-items) ++ drop (4 * l.i) l.initial.buffer
