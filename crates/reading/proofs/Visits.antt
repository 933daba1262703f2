-- Numbers rise on a walk, so that a walk followed down as many places as there are cells is whole. Assumes nothing.
use Rattle.std.proofs.Common.{◌≡◌, ℕ, zero, suc, ◌+◌, ◌<◌, ◌≤◌, cond, ltb, leb, List, ◌∷◌, ◌++◌, length, Some, None, Option, refl, ap₂, arith}
use Rattle.std.proofs.lemmas.Bool.{cond_both, ltb-true, leb-true}
use Rattle.rules.specs.Queues.{numbered}
use Rattle.cells.specs.declared.cell.Cell.{Cell}
use Rattle.cells.specs.declared.side.Side.{Side}
use Rattle.cells.specs.declared.side.Side.TheVariants.{Left, Right}
use Rattle.cells.specs.declared.slot.Slot.{Slot}
use Rattle.cells.specs.declared.slot.Slot.TheVariants.{Empty, Key, Place}
use Rattle.cells.specs.Views.{side_slot, split_of}
use Rattle.reading.specs.Walks.{rising_from, is_split, slot_in, slot_below, visits}

-- a place that a slot leads to is above one number and at most another
abbrev pub Within : ℕ → ℕ → Slot → Type 0
Within above most Empty = Unit {0}
Within above most (Key i) = Unit {0}
Within above most (Place p) = (above < p) × (p ≤ most)

pub rising_within : (above most : ℕ) (x : Slot) → Within above most (rising_from above most x)
rising_within above most Empty = tt
rising_within above most (Key i) = tt
rising_within above most (Place p) =
    cond_both (ltb above p) (cond (leb p most) (Place p) Empty) Empty (Within above most)
    (λ h. cond_both (leb p most) (Place p) Empty (Within above most) (λ k. (ltb-true above p h, leb-true p most k)) (λ _. tt))
    (λ _. tt)

pub within_from : (above' above most : ℕ) (x : Slot) → above' ≤ above → Within above most x → Within above' most x
within_from above' above most Empty h w = tt
within_from above' above most (Key i) h w = tt
within_from above' above most (Place p) h w = (omega (arith, w.0), w.1)

module _ {F T : Type 0} (live : List (Cell F T)) where
  in_within : (p : ℕ) (side : Side) (c : Cell F T) → Within p (length live) (slot_in live p side c)
  in_within p side c = cond_both (is_split live (split_of c)) (rising_from p (length live) (side_slot side c)) Empty (Within p (length live)) (λ _. rising_within p (length live) (side_slot side c)) (λ _. tt)

  pub below-within : (p : ℕ) (side : Side) → Within p (length live) (slot_below live p side)
  below-within p side = go (numbered live p)
    where
      go : (o : Option (Cell F T)) → Within p (length live) (elim o [ None ↦ Empty | Some c ↦ slot_in live p side c ])
      go None = tt
      go (Some c) = in_within p side c

  -- two depths that both reach past the last number give the same walk
  pub visits-same : (d e above : ℕ) (x : Slot) → length live ≤ d + above → length live ≤ e + above → Within above (length live) x → visits live d x ≡ visits live e x
  visits-same d e above Empty h k w = refl
  visits-same d e above (Key i) h k w = refl
  visits-same zero e above (Place p) h k w = absurd (omega (arith, w.0, w.1))
  visits-same (suc d) zero above (Place p) h k w = absurd (omega (arith, w.0, w.1))
  visits-same (suc d) (suc e) above (Place p) h k w =
      let low = w.0 in
      ap₂ (λ a b. Place p ∷ (a ++ b))
      (visits-same d e p (slot_below live p Left) (omega arith) (omega arith) (below-within p Left))
      (visits-same d e p (slot_below live p Right) (omega arith) (omega arith) (below-within p Right))

  -- the walk from a place on: its left side, then its right side
  pub visits-place : (p : ℕ) → 0 < p → p ≤ length live
      → visits live (length live) (Place p) ≡ Place p ∷ (visits live (length live) (slot_below live p Left) ++ visits live (length live) (slot_below live p Right))
  visits-place p h k = go (length live) refl
    where
      go : (n : ℕ) → length live ≡ n
          → visits live n (Place p) ≡ Place p ∷ (visits live n (slot_below live p Left) ++ visits live n (slot_below live p Right))
      go zero e = absurd (omega arith)
      go (suc n) e =
          ap₂ (λ a b. Place p ∷ (a ++ b))
          (visits-same n (suc n) p (slot_below live p Left) (omega arith) (omega arith) (below-within p Left))
          (visits-same n (suc n) p (slot_below live p Right) (omega arith) (omega arith) (below-within p Right))
