-- Keys of areas and their bytes. Rests on HighFirst and Puts.
use Rattle.std.specs.Prelude.{◌≡◌, ℕ, ◌%◌, Bool, true, false, ltb, List, [], ◌∷◌, ◌++◌, Some, None, Option, nat_lt, refl}
use Rattle.std.proofs.Common.{ap, ◌∙◌, arith}
use Rattle.keys.specs.declared.area.Area.{Area}
use Rattle.stored.specs.Numerals.{two, value}
use Rattle.stored.specs.Forms.{KeyForm}
use Rattle.stored.specs.AreaBytes.{area_read, area_written}
use Rattle.stored.specs.HighFirst.{two_read, two_written}

module _ {K : Type 0} (below : KeyForm K) where
  pub area_reread : (a : Area K) → below.read (below.written a.key) ≡ Some a.key → area_read below (area_written below a) ≡ Some a
  area_reread a h =
      let low : ltb (a.number % 256) 256 ≡ true = grind arith in
      rw (low, h, two_read a.number)

  pub area_rewritten : ((bytes : List ℕ) (k : K) → below.read bytes ≡ Some k → below.written k ≡ bytes) → (bytes : List ℕ) (a : Area K) → area_read below bytes ≡ Some a → area_written below a ≡ bytes
  area_rewritten law [] a h = absurd cc
  area_rewritten law (x ∷ []) a h = absurd cc
  area_rewritten law (x ∷ y ∷ rest) a h = go (nat_lt y 256) refl (below.read rest) refl
    where
      go : (t : Bool) → nat_lt y 256 ≡ t → (o : Option K) → below.read rest ≡ o → area_written below a ≡ x ∷ y ∷ rest
      go false t o p = let u : None ≡ Some a = rw t at h in absurd cc
      go true t None p = let u : None ≡ Some a = rw (t, p) at h in absurd cc
      go true t (Some k) p =
          let u : Some (record { number = value (x ∷ y ∷ []); key = k }) ≡ Some a = rw (t, p) at h in
          let number : a.number ≡ value (x ∷ y ∷ []) = cc in
          let key : a.key ≡ k = cc in
          let front : two a.number ≡ x ∷ y ∷ [] = ap two number ∙ two_written x y (grind arith) in
          let back : below.written a.key ≡ rest = ap below.written key ∙ law rest k p in
          ap (λ l. l ++ below.written a.key) front ∙ ap (λ l. x ∷ y ∷ l) back
