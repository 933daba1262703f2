-- What is left decides.
use Rattle.std.proofs.Common.{◌≡◌, ◌+◌, ◌*◌, drop}
use Rattle.archive.specs.Checks.{field_checks, passed}
use Rattle.archive.proofs.header.check_later.Given as goal

abbrev pub invariant-loop-i : goal.invariant-loop-i
invariant-loop-i l =
    passed (field_checks l.bytes 8 l.expected) ≡ passed (field_checks l.bytes (8 + 4 * l.i) (drop l.i l.expected))
