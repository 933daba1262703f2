-- What checks answer, and which fault is first. Rests on Faults.
use Rattle.std.proofs.Common.{◌≡◌, List, [], ◌∷◌, Some, None, Ok, Err, refl, arith}
use Rattle.archive.specs.declared.fault.Fault.{Fault}
use Rattle.archive.specs.Checks.{Check, first_fault, passed}

-- checks that pass have no fault, and a fault that is told is the first
pub none_passed : (cs : List Check) → passed cs ≡ Ok tt → first_fault cs ≡ None
none_passed [] h = refl
none_passed (c ∷ cs) h = let ih = none_passed cs in grind (arith, ih)

pub first_failed : (cs : List Check) (f : Fault) → passed cs ≡ Err f → first_fault cs ≡ Some f
first_failed [] f h = cc
first_failed (c ∷ cs) f h = let ih = first_failed cs f in grind (arith, ih)
