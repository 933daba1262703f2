-- A request that waits in the tree has made no place yet, and belongs where it waits. Rests on Insides.
use Rattle.std.proofs.Common.{◌≡◌, ℕ, ◌<◌, ◌≤◌, Bool, true, false, ◌||◌, eqb, List, [], ◌∷◌, Some, Option, sym, refl, ap, ◌∙◌, subst, true≢false, arith}
use Rattle.std.proofs.lemmas.Bool.{eqb-true, false_from_ne_true, ne_eqb, or_from, or_left, or_right}
use Rattle.requests.specs.declared.request.Request.{Request}
use Rattle.requests.specs.declared.request.Request.TheVariants.{Enter}
use Rattle.rules.specs.Kinds.{Kinds}
use Rattle.rules.specs.States.{Place, Waiter}
use Rattle.rules.specs.Queues.{numbered, stands}
use Rattle.rules.proofs.Bools.{or_cases}
use Rattle.rules.proofs.Trees.{Tree, bare, leaf, node, inside, Drawn}
use Rattle.rules.proofs.Goods.{below, Lined, Over, left_of, right_of, WaiterFits, QueueFits, Good}
use Rattle.rules.proofs.Later.{left_in, right_in, lined_below}
use Rattle.rules.proofs.Joins.{stands-between}
use Rattle.rules.proofs.Pends.{waiting}
use Rattle.rules.proofs.Insides.{inside_cases, inside_maker, makers_apart}

-- who stands in a row of numbers is not before its head
head_first : (i lo : ℕ) (q : List Waiter) (t : ℕ) → Lined lo q t → stands i q ≡ true → below q t ≤ i
head_first i lo [] t d h = absurd (true≢false (sym h))
head_first i lo (e ∷ q) t d h =
    or_cases (eqb e.number i) (stands i q) h
    (λ here. let same : e.number ≡ i = eqb-true e.number i here in omega arith)
    (λ there. let b = stands-between i e.number q t d.1 there in omega (arith, b.0))

module _ {K T : Type 0} where
  -- by the way that a request waits in a tree
  pub waiting_cases : {P : Type 0} (i p : ℕ) (s : K) (t : T) (q : List Waiter) (a b : Tree K T) → waiting i (node p s t q a b) ≡ true
      → (stands i q ≡ true → P) → (waiting i a ≡ true → P) → (waiting i b ≡ true → P) → P
  waiting_cases i p s t q a b e f g h =
      or_cases (stands i q) (waiting i a || waiting i b) e f (λ x. or_cases (waiting i a) (waiting i b) x g h)

  -- who stands in the queue of a place of the tree waits in the tree
  pub waiting-at : (place : ℕ → Option (Place K T)) (queue : ℕ → List Waiter) (x : Tree K T) (p i : ℕ) → Drawn place queue x → inside p x ≡ true → stands i (queue p) ≡ true → waiting i x ≡ true
  waiting-at pl qu bare p i d e h = absurd (true≢false (sym e))
  waiting-at pl qu (leaf k) p i d e h = absurd (true≢false (sym e))
  waiting-at pl qu (node f s t q a b) p i d e h =
      let one = waiting-at pl qu a p i d.2 in
      let two = waiting-at pl qu b p i d.3 in
      or_cases (eqb p f) (inside p a || inside p b) e
      (λ x. or_left (stands i q) (waiting i a || waiting i b) (ap (stands i) (sym d.1) ∙ ap (λ j. stands i (qu j)) (sym (eqb-true p f x)) ∙ h))
      (λ x. or_right (stands i q) (waiting i a || waiting i b) (or_cases (inside p a) (inside p b) x (λ y. or_left (waiting i a) (waiting i b) (one y h)) (λ y. or_right (waiting i a) (waiting i b) (two y h))))

module _ {K T : Type 0} (w : Kinds K T) (rs : List (Request K)) where
  -- places are older than the time of their tree
  pub inside_before : (R : K → Bool) (now : ℕ) (x : Tree K T) (i : ℕ) → Good w rs R now x → inside i x ≡ true → i < now
  inside_before R now bare i g e = absurd (true≢false (sym e))
  inside_before R now (leaf k) i g e = absurd (true≢false (sym e))
  inside_before R now (node p s t q a b) i g e =
      let far = lined_below p q now g.0.lined in
      let one = inside_before (left_of w R s) (below q now) a i g.2 in
      let two = inside_before (right_of w R s) (below q now) b i g.3 in
      inside_cases w rs i p s t q a b e
      (λ h. omega (arith, far.0, far.1)) (λ h. omega (arith, one h, far.1)) (λ h. omega (arith, two h, far.1))

  -- and who waits came after the place
  pub waiting_over : (R : K → Bool) (now : ℕ) (x : Tree K T) (lo i : ℕ) → Good w rs R now x → Over lo x → waiting i x ≡ true → lo < i
  waiting_over R now bare lo i g o e = absurd (true≢false (sym e))
  waiting_over R now (leaf k) lo i g o e = absurd (true≢false (sym e))
  waiting_over R now (node p s t q a b) lo i g o e =
      let one = waiting_over (left_of w R s) (below q now) a p i g.2 g.1.0 in
      let two = waiting_over (right_of w R s) (below q now) b p i g.3 g.1.1 in
      waiting_cases i p s t q a b e
      (λ h. let b = stands-between i p q now g.0.lined h in omega (arith, b.0)) (λ h. omega (arith, one h)) (λ h. omega (arith, two h))

  fits-key : (R : K → Bool) (q : List Waiter) (i : ℕ) (k : K) → numbered rs i ≡ Some (Enter k) → QueueFits w rs R q → stands i q ≡ true → R k ≡ true
  fits-key R [] i k num f h = absurd (true≢false (sym h))
  fits-key R (e ∷ q) i k num f h =
      let rest = fits-key R q i k num f.1 in
      or_cases (eqb e.number i) (stands i q) h
      (λ here. let fit : WaiterFits w rs R e.number e.mode (Some (Enter k)) = subst (WaiterFits w rs R e.number e.mode) (ap (numbered rs) (eqb-true e.number i here) ∙ num) f.0 in fit.0)
      rest

  -- an enter that waits has its key in the region
  pub waiting-key : (R : K → Bool) (now : ℕ) (x : Tree K T) (i : ℕ) (k : K) → numbered rs i ≡ Some (Enter k) → Good w rs R now x → waiting i x ≡ true → R k ≡ true
  waiting-key R now bare i k num g e = absurd (true≢false (sym e))
  waiting-key R now (leaf j) i k num g e = absurd (true≢false (sym e))
  waiting-key R now (node p s t q a b) i k num g e =
      let one = waiting-key (left_of w R s) (below q now) a i k num g.2 in
      let two = waiting-key (right_of w R s) (below q now) b i k num g.3 in
      waiting_cases i p s t q a b e
      (λ h. fits-key R q i k num g.0.fits h) (λ h. left_in w R s k (one h)) (λ h. right_in w R s k (two h))

  -- and it has made no place
  pub waiting-unmade : (R : K → Bool) (now : ℕ) (x : Tree K T) (i : ℕ) (k : K) → numbered rs i ≡ Some (Enter k) → Good w rs R now x → waiting i x ≡ true → inside i x ≡ false
  waiting-unmade R now bare i k num g e = refl
  waiting-unmade R now (leaf j) i k num g e = refl
  waiting-unmade R now (node p s t q a b) i k num g e =
      let one = waiting-unmade (left_of w R s) (below q now) a i k num g.2 in
      let two = waiting-unmade (right_of w R s) (below q now) b i k num g.3 in
      waiting_cases i p s t q a b e
      (λ h. let far = stands-between i p q now g.0.lined h in
      let first = head_first i p q now g.0.lined h in
      neither (ne_eqb i p (λ z. omega (arith, far.0)))
      (false_from_ne_true (inside i a) (λ z. let y = inside_before (left_of w R s) (below q now) a i g.2 z in omega arith))
      (false_from_ne_true (inside i b) (λ z. let y = inside_before (right_of w R s) (below q now) b i g.3 z in omega arith)))
      (λ h. neither (ne_eqb i p (λ z. let y = waiting_over (left_of w R s) (below q now) a p i g.2 g.1.0 h in omega arith))
      (one h)
      (false_from_ne_true (inside i b) (λ z. makers_apart w rs R s i (k, num, waiting-key (left_of w R s) (below q now) a i k num g.2 h) (inside_maker w rs (right_of w R s) (below q now) b i g.3 z))))
      (λ h. neither (ne_eqb i p (λ z. let y = waiting_over (right_of w R s) (below q now) b p i g.3 g.1.1 h in omega arith))
      (false_from_ne_true (inside i a) (λ z. makers_apart w rs R s i (inside_maker w rs (left_of w R s) (below q now) a i g.2 z) (k, num, waiting-key (right_of w R s) (below q now) b i k num g.3 h)))
      (two h))
    where
      neither : eqb i p ≡ false → inside i a ≡ false → inside i b ≡ false → inside i (node p s t q a b) ≡ false
      neither u v z = or_from (eqb i p) (inside i a || inside i b) u (or_from (inside i a) (inside i b) v z)
