-- Cells written so that they name only requests that were submitted. Assumes nothing.
use Rattle.std.proofs.Common.{◌≡◌, ℕ, zero, suc, true, List, [], ◌∷◌, ◌++◌, set, Some, None, Option, sym, subst, arith}
use mathlib.Core.HLevel.{Unit-prop, ×_prop, ×₃_prop}
use native.Mathlib.Bridge.{le_prop}
use Rattle.rules.specs.Queues.{numbered}
use Rattle.cells.specs.declared.cell.Cell.{Cell}
use Rattle.cells.specs.declared.slot.Slot.{Slot}
use Rattle.cells.specs.declared.slot.Slot.TheVariants as slot
use Rattle.cells.specs.Names.{SlotNamed, SplitNamed, CellNamed, CellsNamed}
use Rattle.cells.specs.Views.{split_of}
use Rattle.board.specs.Cells.{names}
use Rattle.std.proofs.lemmas.Bool.{leb-true}

module _ {F T : Type 0} where
  pub cell_named : (n : ℕ) (xs : List (Cell F T)) (j : ℕ) (c : Cell F T) → CellsNamed n xs → numbered xs j ≡ Some c → CellNamed n c
  cell_named n [] j c h e = absurd (let z : ◌≡◌ {A = ℕ} 0 1 = cc in omega arith)
  cell_named n (x ∷ xs) zero c h e = absurd (let z : ◌≡◌ {A = ℕ} 0 1 = cc in omega arith)
  cell_named n (x ∷ xs) (suc zero) c h e = let is : x ≡ c = cc in subst (CellNamed n) is h.0
  cell_named n (x ∷ xs) (suc (suc j)) c h e = cell_named n xs (suc j) c h.1 e

  pub cells-named-set : (n : ℕ) (xs : List (Cell F T)) (i : ℕ) (c : Cell F T) → CellsNamed n xs → CellNamed n c → CellsNamed n (set xs i c)
  cells-named-set n [] i c h m = tt
  cells-named-set n (x ∷ xs) zero c h m = (m, h.1)
  cells-named-set n (x ∷ xs) (suc i) c h m = (h.0, cells-named-set n xs i c h.1 m)

  -- a cell whose slots and split are as they were names what it named
  pub kept_named : (n : ℕ) (xs : List (Cell F T)) (j : ℕ) (c c' : Cell F T) → CellsNamed n xs → numbered xs j ≡ Some c → c'.left ≡ c.left → c'.right ≡ c.right → split_of c' ≡ split_of c → CellNamed n c'
  kept_named n xs j c c' h e l r s =
      let was = cell_named n xs j c h e in
      (subst (SlotNamed n) (sym l) was.0, subst (SlotNamed n) (sym r) was.1, subst (SplitNamed n) (sym s) was.2)

-- a slot that passes the test
pub slot-named : (n : ℕ) (x : Slot) → names n x ≡ true → SlotNamed n x
slot-named n slot.Empty e = tt
slot-named n (slot.Key i) e = leb-true i n e
slot-named n (slot.Place p) e = tt

-- what is named can be so in one way only
pub slot-named_prop : (n : ℕ) (x : Slot) → IsProp (SlotNamed n x)
slot-named_prop n slot.Empty = Unit-prop
slot-named_prop n (slot.Key i) = le_prop
slot-named_prop n (slot.Place p) = Unit-prop

split-named_prop : (n : ℕ) (o : Option ℕ) → IsProp (SplitNamed n o)
split-named_prop n None = Unit-prop
split-named_prop n (Some i) = le_prop

module _ {F T : Type 0} where
  cell_named_prop : (n : ℕ) (c : Cell F T) → IsProp (CellNamed n c)
  cell_named_prop n c = ×₃_prop (slot-named_prop n c.left) (slot-named_prop n c.right) (split-named_prop n (split_of c))

  pub cells-named_prop : (n : ℕ) (xs : List (Cell F T)) → IsProp (CellsNamed n xs)
  cells-named_prop n [] = Unit-prop
  cells-named_prop n (x ∷ xs) = ×_prop (cell_named_prop n x) (cells-named_prop n xs)

-- with one request more, what is named is still named
pub slot-named_more : (n : ℕ) (x : Slot) → SlotNamed n x → SlotNamed (suc n) x
slot-named_more n slot.Empty h = tt
slot-named_more n (slot.Key i) h = omega arith
slot-named_more n (slot.Place p) h = tt

split-named_more : (n : ℕ) (o : Option ℕ) → SplitNamed n o → SplitNamed (suc n) o
split-named_more n None h = tt
split-named_more n (Some i) h = omega arith

module _ {F T : Type 0} where
  cell_named_more : (n : ℕ) (c : Cell F T) → CellNamed n c → CellNamed (suc n) c
  cell_named_more n c h = (slot-named_more n c.left h.0, slot-named_more n c.right h.1, split-named_more n (split_of c) h.2)

  pub cells-named_more : (n : ℕ) (xs : List (Cell F T)) (c : Cell F T) → CellsNamed n xs → CellNamed (suc n) c → CellsNamed (suc n) (xs ++ (c ∷ []))
  cells-named_more n [] c h m = (m, tt)
  cells-named_more n (x ∷ xs) c h m = (cell_named_more n x h.0, cells-named_more n xs c h.1 m)
