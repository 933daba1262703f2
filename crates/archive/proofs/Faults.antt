-- The first fault of checks that come one after the other. Assumes nothing.
use Rattle.std.proofs.Common.{◌≡◌, Bool, true, false, List, [], ◌∷◌, ◌++◌, Some, None, Option, sym, refl, ◌∙◌}
use Rattle.std.specs.Option.{option_or}
use Rattle.archive.specs.declared.fault.Fault.{Fault}
use Rattle.archive.specs.Checks.{Check, first_fault}

-- a check that holds leaves it to the others
pub first_past : (c : Check) (cs : List Check) → c.holds ≡ true → first_fault (c ∷ cs) ≡ first_fault cs
first_past c cs h = rw h

-- no fault: the first check holds, and the others have none
pub none_first : (c : Check) (cs : List Check) → first_fault (c ∷ cs) ≡ None → c.holds ≡ true
none_first c cs h = go c.holds refl
  where
    go : (b : Bool) → c.holds ≡ b → c.holds ≡ true
    go true e = e
    go false e = let u : Some c.fault ≡ None = rw e at h in absurd cc

pub none_others : (c : Check) (cs : List Check) → first_fault (c ∷ cs) ≡ None → first_fault cs ≡ None
none_others c cs h = sym (first_past c cs (none_first c cs h)) ∙ h

-- the first fault of two runs of checks
pub first_append : (xs ys : List Check) → first_fault (xs ++ ys) ≡ option_or (first_fault xs) (first_fault ys)
first_append [] ys = refl
first_append (c ∷ cs) ys = go (first_append cs ys) c.holds refl
  where
    go : first_fault (cs ++ ys) ≡ option_or (first_fault cs) (first_fault ys) → (b : Bool) → c.holds ≡ b → first_fault (c ∷ (cs ++ ys)) ≡ option_or (first_fault (c ∷ cs)) (first_fault ys)
    go ih true e = rw e ih
    go ih false e = rw e

-- after checks without a fault the others decide
pub first_after : (xs ys : List Check) → first_fault xs ≡ None → first_fault (xs ++ ys) ≡ first_fault ys
first_after xs ys h = first_append xs ys ∙ rw h

-- a fault is the first, whatever follows
pub first_before : (xs ys : List Check) (f : Fault) → first_fault xs ≡ Some f → first_fault (xs ++ ys) ≡ Some f
first_before xs ys f h = first_append xs ys ∙ rw h

-- no fault in two runs of checks: none in either
pub none_front : (xs ys : List Check) → first_fault (xs ++ ys) ≡ None → first_fault xs ≡ None
none_front xs ys h = go (first_fault xs) refl
  where
    go : (o : Option Fault) → first_fault xs ≡ o → first_fault xs ≡ None
    go None e = e
    go (Some f) e = let u = first_before xs ys f e in absurd cc

pub none_back : (xs ys : List Check) → first_fault (xs ++ ys) ≡ None → first_fault ys ≡ None
none_back xs ys h = sym (first_after xs ys (none_front xs ys h)) ∙ h
