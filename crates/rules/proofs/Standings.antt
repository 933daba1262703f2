-- Who stands where: in the gate's queue, in the queues of the tree's places, and the lowest place of all. Rests on Holds and Descents.
use Rattle.std.proofs.Common.{◌≡◌, ℕ, zero, suc, ◌<◌, ◌≤◌, Bool, true, false, cond, ◌||◌, eqb, List, [], ◌∷◌, Some, None, Option, sym, refl, ap, ◌∙◌, subst, true≢false, arith}
use Rattle.std.proofs.lemmas.Bool.{eqb-true, or_left, or_right}
use Rattle.requests.specs.declared.request.Request.{Request}
use Rattle.rules.specs.Kinds.{Kinds}
use Rattle.rules.specs.States.{Place, Waiter}
use Rattle.rules.specs.Queues.{lowest, stands}
use Rattle.rules.proofs.Bools.{or_cases}
use Rattle.rules.proofs.Trees.{Tree, bare, leaf, node, inside, Drawn}
use Rattle.rules.proofs.Goods.{below, Lined, left_of, right_of, Good}
use Rattle.rules.proofs.Joins.{stands-between}
use Rattle.rules.proofs.Insides.{inside_cases}
use Rattle.rules.proofs.Pends.{waiting}
use Rattle.rules.proofs.Holds.{InTurn}
use Rattle.rules.proofs.Descents.{in_turn_end}

-- the lowest number that passes is below the bound and passes
pub lowest_passes : (test : ℕ → Bool) (b p : ℕ) → lowest test b ≡ Some p → (p < b) × (test p ≡ true)
lowest_passes test zero p e = absurd cc
lowest_passes test (suc b) p e = go (lowest_passes test b p) (lowest test b) refl e
  where
    last : (c : Bool) → test b ≡ c → cond c (Some b) None ≡ Some p → (p < suc b) × (test p ≡ true)
    last true f u = let same : b ≡ p = cc in (omega arith, ap test (sym same) ∙ f)
    last false f u = absurd cc

    go : (lowest test b ≡ Some p → (p < b) × (test p ≡ true)) → (o : Option ℕ) → lowest test b ≡ o
        → elim o as (λ _. Option ℕ) [ Some i ↦ Some i | None ↦ cond (test b) (Some b) None ] ≡ Some p → (p < suc b) × (test p ≡ true)
    go ih (Some i) f u = let v = ih (f ∙ u) in (omega (arith, v.0), v.1)
    go ih None f u = last (test b) refl u

-- the head of a row of numbers in turn is the first
pub turn_head : (lo : ℕ) (q : List Waiter) (hi : ℕ) (e : Waiter) (es : List Waiter) → InTurn lo q hi → q ≡ e ∷ es → e.number ≡ lo
turn_head lo q hi e es t eq = let u : InTurn lo (e ∷ es) hi = subst (λ v. InTurn lo v hi) eq t in u.0

-- who stands in a row of numbers in turn
pub turn-between : (i lo : ℕ) (q : List Waiter) (hi : ℕ) → InTurn lo q hi → stands i q ≡ true → (lo ≤ i) × (i < hi)
turn-between i lo [] hi t e = absurd (true≢false (sym e))
turn-between i lo (x ∷ q) hi t e =
    or_cases (eqb x.number i) (stands i q) e
    (λ f. let same = eqb-true x.number i f in let far = in_turn_end (suc lo) q hi t.1 in (omega (arith, t.0), omega (arith, t.0)))
    (λ f. let ih = turn-between i (suc lo) q hi t.1 f in (omega (arith, ih.0), ih.1))

-- the head of a queue of rising numbers is no higher than any that stands there
pub lined_head : (i lo : ℕ) (e : Waiter) (q : List Waiter) (hi : ℕ) → Lined lo (e ∷ q) hi → stands i (e ∷ q) ≡ true → (lo < e.number) × (e.number ≤ i)
lined_head i lo e q hi d f = (
  d.0,
  or_cases (eqb e.number i) (stands i q) f
      (λ u. let same = eqb-true e.number i u in omega arith)
      (λ u. let v = stands-between i e.number q hi d.1 u in omega (arith, v.0)),
)

module _ {K T : Type 0} (w : Kinds K T) (rs : List (Request K)) (place : ℕ → Option (Place K T)) (queue : ℕ → List Waiter) where
  -- the queue of a place of the tree
  pub drawn-waits : (x : Tree K T) (i p : ℕ) → Drawn place queue x → inside p x ≡ true → stands i (queue p) ≡ true → waiting i x ≡ true
  drawn-waits bare i p d e f = absurd (true≢false (sym e))
  drawn-waits (leaf k) i p d e f = absurd (true≢false (sym e))
  drawn-waits (node r s t q a b) i p d e f =
      inside_cases w rs p r s t q a b e
      (λ u. or_left (stands i q) (waiting i a || waiting i b) (ap (stands i) (sym d.1 ∙ ap queue (sym u)) ∙ f))
      (λ u. or_right (stands i q) (waiting i a || waiting i b) (or_left (waiting i a) (waiting i b) (drawn-waits a i p d.2 u f)))
      (λ u. or_right (stands i q) (waiting i a || waiting i b) (or_right (waiting i a) (waiting i b) (drawn-waits b i p d.3 u f)))

  -- it rises from above the place's number
  pub drawn_lined : (R : K → Bool) (now : ℕ) (x : Tree K T) (p : ℕ) → Good w rs R now x → Drawn place queue x → inside p x ≡ true → (hi : ℕ) × Lined p (queue p) hi
  drawn_lined R now bare p g d e = absurd (true≢false (sym e))
  drawn_lined R now (leaf k) p g d e = absurd (true≢false (sym e))
  drawn_lined R now (node r s t q a b) p g d e =
      inside_cases w rs p r s t q a b e
      (λ u. (now, subst (λ i. Lined i (queue i) now) (sym u) (subst (λ v. Lined r v now) (sym d.1) g.0.lined)))
      (λ u. drawn_lined (left_of w R s) (below q now) a p g.2 d.2 u)
      (λ u. drawn_lined (right_of w R s) (below q now) b p g.3 d.3 u)
