-- The lesser of the places where a request waits.
use Rattle.std.specs.Prelude.{ℕ, min, Some, None, Option}
use Rattle.cells.specs.declared.waits.Waits.{Waits}
use Rattle.cells.specs.declared.waits.Waits.TheVariants.{Nowhere, Between, From, Upto, Halves}

abbrev pub least_place : Waits → Option ℕ
least_place Nowhere = None
least_place (Between p) = Some p
least_place (From p) = Some p
least_place (Upto p) = Some p
least_place (Halves from upto) = Some (min from upto)
