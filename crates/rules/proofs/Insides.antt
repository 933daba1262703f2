-- Whose places hang in a good tree: their numbers, their makers' keys, and that no place hangs twice. Rests on Goods.
use Rattle.std.proofs.Common.{◌≡◌, ℕ, ◌<◌, Bool, true, false, not, ◌||◌, eqb, List, Some, sym, ap, ◌∙◌, true≢false, arith}
use Rattle.requests.specs.declared.request.Request.{Request}
use Rattle.requests.specs.declared.request.Request.TheVariants.{Enter}
use Rattle.rules.specs.Kinds.{Kinds}
use Rattle.rules.specs.States.{Waiter}
use Rattle.rules.specs.Queues.{numbered}
use Rattle.rules.proofs.Bools.{or_cases}
use Rattle.rules.proofs.Trees.{Tree, bare, leaf, node, inside}
use Rattle.rules.proofs.Goods.{below, Over, left_of, right_of, Good}
use Rattle.rules.proofs.Later.{left_in, left_side, right_in, right_side}

module _ {K T : Type 0} (w : Kinds K T) (rs : List (Request K)) where
  -- a maker's key: the place was made by an enter of a key of the region
  abbrev pub Maker : (K → Bool) → ℕ → Type 0
  Maker R i = (k : K) × (numbered rs i ≡ Some (Enter k)) × (R k ≡ true)

  -- by the way that a place hangs in a tree
  pub inside_cases : {P : Type 0} (i p : ℕ) (s : K) (t : T) (q : List Waiter) (a b : Tree K T) → inside i (node p s t q a b) ≡ true
      → (i ≡ p → P) → (inside i a ≡ true → P) → (inside i b ≡ true → P) → P
  inside_cases i p s t q a b e f g h =
      or_cases (eqb i p) (inside i a || inside i b) e (λ x. f (grind arith)) (λ x. or_cases (inside i a) (inside i b) x g h)

  pub inside_maker : (R : K → Bool) (t : ℕ) (x : Tree K T) (i : ℕ) → Good w rs R t x → inside i x ≡ true → Maker R i
  inside_maker R t bare i g e = absurd (true≢false (sym e))
  inside_maker R t (leaf k) i g e = absurd (true≢false (sym e))
  inside_maker R t (node p s tally q a b) i g e =
      let one = inside_maker (left_of w R s) (below q t) a i g.2 in
      let two = inside_maker (right_of w R s) (below q t) b i g.3 in
      inside_cases i p s tally q a b e
      (λ h. (g.0.maker, ap (numbered rs) h ∙ g.0.made, g.0.maker_here))
      (λ h. let m = one h in (m.0, m.1, left_in w R s m.0 m.2))
      (λ h. let m = two h in (m.0, m.1, right_in w R s m.0 m.2))

  -- numbers rise on the way down
  pub inside_over : (R : K → Bool) (t : ℕ) (x : Tree K T) (lo i : ℕ) → Good w rs R t x → Over lo x → inside i x ≡ true → lo < i
  inside_over R t bare lo i g o e = absurd (true≢false (sym e))
  inside_over R t (leaf k) lo i g o e = absurd (true≢false (sym e))
  inside_over R t (node p s tally q a b) lo i g o e =
      let one = inside_over (left_of w R s) (below q t) a p i g.2 g.1.0 in
      let two = inside_over (right_of w R s) (below q t) b p i g.3 g.1.1 in
      inside_cases i p s tally q a b e (λ h. omega arith) (λ h. omega (arith, one h)) (λ h. omega (arith, two h))

  -- makers' keys tell the sides apart
  pub makers_apart : (R : K → Bool) (s : K) (i : ℕ) → Maker (left_of w R s) i → Maker (right_of w R s) i → ⊥
  makers_apart R s i m n =
      let both : Some (Enter m.0) ≡ Some (Enter n.0) = sym m.1 ∙ n.1 in
      let same_key : m.0 ≡ n.0 = cc in
      let one = left_side w R s m.0 m.2 in
      let two : w.le s m.0 ≡ true = ap (w.le s) same_key ∙ right_side w R s n.0 n.2 in
      let z : true ≡ false = sym one ∙ ap not two in
      true≢false z
