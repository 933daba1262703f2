-- The place of a walk: it hangs in the tree, and was made before the request that seeks its decision. Rests on Holds and Insides.
use Rattle.std.proofs.Common.{◌≡◌, ℕ, ◌<◌, Bool, true, cond, ◌||◌, eqb, List, sym, ⊎_elim, true≢false, arith}
use Rattle.std.proofs.lemmas.Bool.{eq-eqb, or_left, or_right}
use Rattle.requests.specs.declared.request.Request.{Request}
use Rattle.rules.specs.Kinds.{Kinds, before}
use Rattle.rules.specs.States.{State}
use Rattle.rules.proofs.Bools.{bool_case}
use Rattle.rules.proofs.Trees.{Tree, bare, leaf, node, inside}
use Rattle.rules.proofs.Goods.{below, left_of, right_of, Good}
use Rattle.rules.proofs.Later.{lined_below}
use Rattle.rules.proofs.Insides.{inside_cases, inside_over}
use Rattle.rules.proofs.Pends.{OnWay}
use Rattle.rules.proofs.Holds.{Everywhere, Walks, Holds}

module _ {K T : Type 0} (w : Kinds K T) (rs : List (Request K)) where
  -- a place on the way of a key hangs in the tree
  pub way_inside : (k : K) (p : ℕ) (x : Tree K T) → OnWay w rs k p x → inside p x ≡ true
  way_inside k p bare o = absurd o
  way_inside k p (leaf j) o = absurd o
  way_inside k p (node f s t q a b) o =
      ⊎_elim
      (λ e. or_left (eqb p f) (inside p a || inside p b) (eq-eqb p f e))
      (λ h. or_right (eqb p f) (inside p a || inside p b)
      (bool_case (before w k s) (λ c. cond c (OnWay w rs k p a) (OnWay w rs k p b) → (inside p a || inside p b) ≡ true)
      (λ u. or_left (inside p a) (inside p b) (way_inside k p a u))
      (λ u. or_right (inside p a) (inside p b) (way_inside k p b u))
      h.1))
      o

  -- all places of a tree were made before its time
  pub inside_before : (R : K → Bool) (now : ℕ) (x : Tree K T) (i : ℕ) → Good w rs R now x → inside i x ≡ true → i < now
  inside_before R now bare i g e = absurd (true≢false (sym e))
  inside_before R now (leaf k) i g e = absurd (true≢false (sym e))
  inside_before R now (node p s t q a b) i g e =
      let one = inside_before (left_of w R s) (below q now) a i g.2 in
      let two = inside_before (right_of w R s) (below q now) b i g.3 in
      let far = lined_below p q now g.0.lined in
      inside_cases w rs i p s t q a b e (λ h. omega (arith, far.0, far.1)) (λ h. omega (arith, one h, far.1)) (λ h. omega (arith, two h, far.1))

  -- so it is below the number of the request that walks
  pub walk-place : (s : State K T) (x : Tree K T) (time : ℕ) → Holds w rs s x time → (t p : ℕ) → Walks w rs t p time x → (0 < p) × (p < t)
  walk-place s x time h t p v =
      let i = way_inside v.key p x v.way in
      let u = inside_before (Everywhere w rs) time x p h.good i in
      let e = v.head in
      (inside_over w rs (Everywhere w rs) time x 0 p h.good h.over i, omega (arith, u, e))
