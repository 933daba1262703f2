-- One step of a walk, down or back. Rests on Visits.
use Rattle.std.proofs.Common.{◌≡◌, ℕ, zero, suc, ◌+◌, ◌-◌, ◌<◌, ◌≤◌, ◌≢◌, List, [], ◌∷◌, ◌++◌, length, get_or, set, sym, refl, ap, ◌∙◌, subst, ap₂, ⊎_elim, append_assoc, add-one, arith, length-set, get_or-set_other, get_or-set_same}
use Rattle.std.proofs.lemmas.Bool.{cases_eq}
use Rattle.cells.specs.declared.cell.Cell.{Cell}
use Rattle.cells.specs.declared.side.Side.TheVariants.{Left, Right}
use Rattle.cells.specs.declared.slot.Slot.{Slot}
use Rattle.cells.specs.declared.slot.Slot.TheVariants.{Empty, Key, Place}
use Rattle.reading.specs.Walks.{rising_from, slot_below, visits, right_sides, to_come, Deep, Stands}
use Rattle.reading.proofs.Visits.{Within, rising_within, within_from, below-within, visits-place}

-- a slot that leads nowhere has nothing below it
visits_end : {F T : Type 0} (live : List (Cell F T)) (x : Slot) → ((p : ℕ) → x ≡ Place p → ⊥) → visits live (length live) x ≡ x ∷ []
visits_end live Empty e = refl
visits_end live (Key i) e = refl
visits_end live (Place p) e = absurd (e p refl)

module _ {F T : Type 0} (live : List (Cell F T)) where
  deep_of : (depth : ℕ) (x : Slot) → Within depth (length live) x → Deep live depth x
  deep_of depth Empty w = tt
  deep_of depth (Key i) w = tt
  deep_of depth (Place p) w = w

  -- a walk begins at the gate, with nothing in the work row
  pub begins : (work : List ℕ) (gate : Slot) → length live ≤ length work → Stands live work 0 (rising_from 0 (length live) gate)
  begins work gate h = record {
    room = h;
    fits = omega arith;
    low = λ j k. absurd (omega arith);
    here = deep_of 0 (rising_from 0 (length live) gate) (rising_within 0 (length live) gate);
  }

  -- what is written further up does not change what is still to come
  right_sides-set : (work : List ℕ) (depth at p : ℕ) → depth ≤ at → right_sides live (set work at p) depth ≡ right_sides live work depth
  right_sides-set work zero at p h = refl
  right_sides-set work (suc depth) at p h =
      let other : depth ≢ at = λ e. omega arith in
      ap₂ (λ w r. visits live (length live) (slot_below live w Right) ++ r) (get_or-set_other work at depth p 0 other) (right_sides-set work depth at p (omega arith))

  module _ (work : List ℕ) (depth : ℕ) (at : Slot) (s : Stands live work depth at) where
    -- down to the left side of a place, which is kept in the work row
    module _ (p : ℕ) (is : at ≡ Place p) where
      deep : (depth < p) × (p ≤ length live)
      deep = subst (Deep live depth) is s.here

      pub place-fits : depth < length work
      place-fits = let d = deep in let r = s.room in omega arith

      pub down-visits : to_come live work depth at ≡ at ∷ to_come live (set work depth p) (depth + 1) (slot_below live p Left)
      down-visits =
          let d = deep in
          ap (to_come live work depth) is
          ∙ ap (λ v. v ++ right_sides live work depth) (visits-place live p (omega arith) d.1)
          ∙ ap (λ v. Place p ∷ v) (append_assoc (visits live (length live) (slot_below live p Left)) (visits live (length live) (slot_below live p Right)) (right_sides live work depth))
          ∙ ap₂ (λ x v. x ∷ (visits live (length live) (slot_below live p Left) ++ v)) (sym is)
          (ap₂ (λ w r. visits live (length live) (slot_below live w Right) ++ r) (sym (get_or-set_same work depth p 0 place-fits)) (sym (right_sides-set work depth depth p (omega arith))))
          ∙ ap (λ n. at ∷ to_come live (set work depth p) n (slot_below live p Left)) (sym (add-one depth))

      pub down-stands : Stands live (set work depth p) (depth + 1) (slot_below live p Left)
      down-stands =
          let d = deep in
          let long : length (set work depth p) ≡ length work = length-set work depth p in
          record {
            room = let r = s.room in omega arith;
            fits = let r = place-fits in omega arith;
            low = λ j h. ⊎_elim
                (λ e. subst (λ v. j < v) (sym (ap (λ i. get_or (set work depth p) i 0) e ∙ get_or-set_same work depth p 0 place-fits)) (omega arith))
                (λ ne. subst (λ v. j < v) (sym (get_or-set_other work depth j p 0 ne)) (s.low j (let less : j < depth = omega (arith, ne) in less)))
                (cases_eq j depth);
            here = deep_of (depth + 1) (slot_below live p Left) (within_from (depth + 1) p (length live) (slot_below live p Left) (omega arith) (below-within live p Left));
          }

    module _ (end : (p : ℕ) → at ≡ Place p → ⊥) where
      pub last_visit : depth ≡ 0 → to_come live work depth at ≡ at ∷ []
      last_visit z = ap₂ (λ v r. v ++ r) (visits_end live at end) (ap (right_sides live work) z)

      -- back to the right side of the last place in the work row
      module _ (some : 0 < depth) where
        one_less : suc (depth - 1) ≡ depth
        one_less = omega arith

        pub back_visits : (w : ℕ) → w ≡ get_or work (depth - 1) 0 → to_come live work depth at ≡ at ∷ to_come live work (depth - 1) (slot_below live w Right)
        back_visits w e =
            ap₂ (λ v r. v ++ r) (visits_end live at end) (ap (right_sides live work) (sym one_less))
            ∙ ap (λ i. at ∷ (visits live (length live) (slot_below live i Right) ++ right_sides live work (depth - 1))) (sym e)

        pub back_stands : (w : ℕ) → w ≡ get_or work (depth - 1) 0 → Stands live work (depth - 1) (slot_below live w Right)
        back_stands w e =
            let deeper = s.low (depth - 1) (omega arith) in
            record {
              room = s.room;
              fits = let r = s.fits in omega arith;
              low = λ j h. s.low j (omega arith);
              here = deep_of (depth - 1) (slot_below live w Right) (within_from (depth - 1) w (length live) (slot_below live w Right) (omega arith) (below-within live w Right));
            }
