-- The state after a move, spelled out: which rows are written, and how. Assumes nothing.
use Rattle.std.proofs.Common.{◌≡◌, ℕ, suc, Some, None, ap}
use Rattle.rules.specs.declared.mode.Mode.{Mode}
use Rattle.rules.specs.Kinds.{Kinds, before}
use Rattle.rules.specs.States.{State, Slot, Place, empty, leads}
use Rattle.rules.specs.Changes.{with_place}
use Rattle.rules.specs.Moves.{slot_on, with_slot_on, with_tally, side_of, slot_for, with_slot_for, with_joined, whole, stepped_all, count_steps, count_at}

module _ {K T : Type 0} (w : Kinds K T) (s : State K T) where
  pub slot_for-made : (p : ℕ) (k : K) (f : Place K T) → s.place (suc p) ≡ Some f → slot_for w s (suc p) k ≡ slot_on f (side_of w f k)
  slot_for-made p k f e = ap (λ o. elim o [ None ↦ empty | Some f ↦ slot_on f (side_of w f k) ]) e

  pub with_slot_for-made : (p : ℕ) (k : K) (x : Slot K) (f : Place K T) → s.place (suc p) ≡ Some f → with_slot_for w s (suc p) k x ≡ with_place s (suc p) (with_slot_on f (side_of w f k) x)
  with_slot_for-made p k x f e = ap (λ o. elim o [ None ↦ s | Some f ↦ with_place s (suc p) (with_slot_on f (side_of w f k) x) ]) e

  pub with_joined-made : (p : ℕ) (v : T) (f : Place K T) → s.place p ≡ Some f → with_joined w s p v ≡ with_place s p (with_tally f (w.joined f.tally v))
  with_joined-made p v f e = ap (λ o. elim o [ None ↦ s | Some f ↦ with_place s p (with_tally f (w.joined f.tally v)) ]) e

  pub whole-made : (p : ℕ) (f : Place K T) → s.place p ≡ Some f → whole w s (leads p) ≡ f.tally
  whole-made p f e = ap (λ o. elim o [ None ↦ w.none | Some f ↦ f.tally ]) e

  pub count_at-made : (t p : ℕ) (lo hi : K) (m : Mode) (f : Place K T) → s.place (suc p) ≡ Some f → count_at w s t (suc p) lo hi m ≡ stepped_all w s t lo hi f (count_steps m (w.le f.split lo) (before w hi f.split))
  count_at-made t p lo hi m f e =
      ap (λ o. elim o [ None ↦ s | Some f ↦ stepped_all w s t lo hi f (count_steps m (w.le f.split lo) (before w hi f.split)) ]) e
