-- The way of a key down the tree: a request waits only on the ways of the keys that it goes by, on each at one place. Rests on Standings and Visits.
use Rattle.std.proofs.Common.{◌≡◌, ℕ, Bool, true, false, cond, not, ◌||◌, eqb, List, [], ◌∷◌, Some, None, Option, sym, refl, ap, ◌∙◌, subst, true≢false}
use Rattle.std.proofs.lemmas.Bool.{eq-eqb, eqb-true, or_left, or_right}
use Rattle.requests.specs.declared.request.Request.{Request}
use Rattle.requests.specs.declared.request.Request.TheVariants.{Enter, Withdraw, LookUp, Count}
use Rattle.rules.specs.declared.mode.Mode.{Mode}
use Rattle.rules.specs.declared.mode.Mode.TheVariants.{Between, From, Upto}
use Rattle.rules.specs.Kinds.{Kinds, before}
use Rattle.rules.specs.States.{Place, Waiter}
use Rattle.rules.specs.Queues.{numbered, stands}
use Rattle.rules.proofs.Bools.{or_cases}
use Rattle.rules.proofs.Trees.{Tree, bare, leaf, node, inside, Drawn}
use Rattle.rules.proofs.Goods.{below, left_of, right_of, WaiterFits, QueueFits, Good}
use Rattle.rules.proofs.Later.{left_in, left_side, right_in, right_side}
use Rattle.rules.proofs.Insides.{inside_cases}
use Rattle.rules.proofs.Pends.{waiting}
use Rattle.rules.proofs.Visits.{not-above}
use Rattle.rules.proofs.Standings.{drawn-waits}

-- the key by which a request goes down: a count's two ends, and of any other its key
abbrev pub goes_by : {K : Type 0} → Bool → Request K → K
goes_by c (Enter k) = k
goes_by c (Withdraw k) = k
goes_by c (LookUp k) = k
goes_by c (Count lo hi) = cond c hi lo

module _ {K T : Type 0} (w : Kinds K T) (rs : List (Request K)) where
  -- whether a place lies on the way of a key
  abbrev pub on_way : K → ℕ → Tree K T → Bool
  on_way k p bare = false
  on_way k p (leaf j) = false
  on_way k p (node f s t q a b) = eqb p f || cond (before w k s) (on_way k p a) (on_way k p b)

  -- who waits in a region goes by a key of the region
  waiter-here : (R : K → Bool) (t : ℕ) (m : Mode) (r : Request K) → WaiterFits w rs R t m (Some r) → (c : Bool) × (R (goes_by c r) ≡ true)
  waiter-here R t m (Enter k) f = (false, f.0)
  waiter-here R t m (Withdraw k) f = (false, f.0)
  waiter-here R t m (LookUp k) f = absurd f
  waiter-here R t Between (Count lo hi) f = (false, f.0)
  waiter-here R t From (Count lo hi) f = (false, f.0)
  waiter-here R t Upto (Count lo hi) f = (true, f.0)

  waits-here : (R : K → Bool) (q : List Waiter) (i : ℕ) (r : Request K) → numbered rs i ≡ Some r → QueueFits w rs R q → stands i q ≡ true → (c : Bool) × (R (goes_by c r) ≡ true)
  waits-here R [] i r num f h = absurd (true≢false (sym h))
  waits-here R (e ∷ q) i r num f h =
      let rest = waits-here R q i r num f.1 in
      or_cases (eqb e.number i) (stands i q) h
      (λ here. waiter-here R e.number e.mode r (subst (WaiterFits w rs R e.number e.mode) (ap (numbered rs) (eqb-true e.number i here) ∙ num) f.0))
      rest

  -- one who waits in a queue is a request that was submitted
  asked_here : (R : K → Bool) (q : List Waiter) (i : ℕ) → QueueFits w rs R q → stands i q ≡ true → (r : Request K) × (numbered rs i ≡ Some r)
  asked_here R [] i f h = absurd (true≢false (sym h))
  asked_here R (e ∷ q) i f h =
      let rest = asked_here R q i f.1 in
      or_cases (eqb e.number i) (stands i q) h
      (λ here. known (numbered rs i) refl (subst (λ j. WaiterFits w rs R e.number e.mode (numbered rs j)) (eqb-true e.number i here) f.0))
      rest
    where
      known : (o : Option (Request K)) → numbered rs i ≡ o → WaiterFits w rs R e.number e.mode o → (r : Request K) × (numbered rs i ≡ Some r)
      known None num fit = absurd fit
      known (Some r) num fit = (r, num)

  -- what lies on a way hangs in the tree
  on_way_inside : (k : K) (p : ℕ) (x : Tree K T) → on_way k p x ≡ true → inside p x ≡ true
  on_way_inside k p bare e = e
  on_way_inside k p (leaf j) e = e
  on_way_inside k p (node f s t q a b) e =
      let one = on_way_inside k p a in
      let two = on_way_inside k p b in
      or_cases (eqb p f) (cond (before w k s) (on_way k p a) (on_way k p b)) e
      (λ u. or_left (eqb p f) (inside p a || inside p b) u)
      (λ u. or_right (eqb p f) (inside p a || inside p b) (by one two (before w k s) u))
    where
      by : (on_way k p a ≡ true → inside p a ≡ true) → (on_way k p b ≡ true → inside p b ≡ true) → (c : Bool) → cond c (on_way k p a) (on_way k p b) ≡ true → (inside p a || inside p b) ≡ true
      by one two true u = or_left (inside p a) (inside p b) (one u)
      by one two false u = or_right (inside p a) (inside p b) (two u)

  module _ (place : ℕ → Option (Place K T)) (queue : ℕ → List Waiter) where
    -- a request waits only on the way of a key that it goes by
    pub waits_on_way : (R : K → Bool) (now : ℕ) (x : Tree K T) (i p : ℕ) (r : Request K) → numbered rs i ≡ Some r → Good w rs R now x → Drawn place queue x → inside p x ≡ true → stands i (queue p) ≡ true
        → (c : Bool) × (R (goes_by c r) ≡ true) × (on_way (goes_by c r) p x ≡ true)
    waits_on_way R now bare i p r num g d e h = absurd (true≢false (sym e))
    waits_on_way R now (leaf k) i p r num g d e h = absurd (true≢false (sym e))
    waits_on_way R now (node f s t q a b) i p r num g d e h =
        let one = waits_on_way (left_of w R s) (below q now) a i p r num g.2 d.2 in
        let two = waits_on_way (right_of w R s) (below q now) b i p r num g.3 d.3 in
        inside_cases w rs p f s t q a b e
        (λ u. let v = waits-here R q i r num g.0.fits (ap (stands i) (sym d.1) ∙ ap (λ j. stands i (queue j)) (sym u) ∙ h) in
        (v.0, v.1, or_left (eqb p f) _ (eq-eqb p f u)))
        (λ u. let v = one u h in (
          v.0,
          left_in w R s (goes_by v.0 r) v.1,
          or_right (eqb p f) _ (ap (λ c. cond c (on_way (goes_by v.0 r) p a) (on_way (goes_by v.0 r) p b)) (left_side w R s (goes_by v.0 r) v.1) ∙ v.2),
        ))
        (λ u. let v = two u h in (
          v.0,
          right_in w R s (goes_by v.0 r) v.1,
          or_right (eqb p f) _ (ap (λ c. cond (not c) (on_way (goes_by v.0 r) p a) (on_way (goes_by v.0 r) p b)) (right_side w R s (goes_by v.0 r) v.1) ∙ v.2),
        ))

    -- and on the way of one key at one place only
    pub way_once : (R : K → Bool) (now : ℕ) (x : Tree K T) (i : ℕ) (k : K) (p q : ℕ) → Good w rs R now x → Drawn place queue x
        → on_way k p x ≡ true → on_way k q x ≡ true → stands i (queue p) ≡ true → stands i (queue q) ≡ true → p ≡ q
    way_once R now bare i k p q g d e f hp hq = absurd (true≢false (sym e))
    way_once R now (leaf j) i k p q g d e f hp hq = absurd (true≢false (sym e))
    way_once R now (node m s t l a b) i k p q g d e f hp hq =
        let one = way_once (left_of w R s) (below l now) a i k p q g.2 d.2 in
        let two = way_once (right_of w R s) (below l now) b i k p q g.3 d.3 in
        or_cases (eqb p m) (cond (before w k s) (on_way k p a) (on_way k p b)) e
        (λ u. or_cases (eqb q m) (cond (before w k s) (on_way k q a) (on_way k q b)) f
        (λ v. eqb-true p m u ∙ sym (eqb-true q m v))
        (λ v. absurd (not-both p u hp (lower q hq (before w k s) v))))
        (λ u. or_cases (eqb q m) (cond (before w k s) (on_way k q a) (on_way k q b)) f
        (λ v. absurd (not-both q v hq (lower p hp (before w k s) u)))
        (λ v. same one two (before w k s) u v))
      where
        -- who waits below does not wait here
        lower : (j : ℕ) → stands i (queue j) ≡ true → (c : Bool) → cond c (on_way k j a) (on_way k j b) ≡ true → (waiting i a || waiting i b) ≡ true
        lower j h true u = or_left (waiting i a) (waiting i b) (drawn-waits w rs place queue a i j d.2 (on_way_inside k j a u) h)
        lower j h false u = or_right (waiting i a) (waiting i b) (drawn-waits w rs place queue b i j d.3 (on_way_inside k j b u) h)

        not-both : (j : ℕ) → eqb j m ≡ true → stands i (queue j) ≡ true → (waiting i a || waiting i b) ≡ true → ⊥
        not-both j u h v =
            true≢false (sym h ∙ ap (λ n. stands i (queue n)) (eqb-true j m u) ∙ ap (stands i) d.1 ∙ not-above w rs R now m s t l a b i g v)

        same : (on_way k p a ≡ true → on_way k q a ≡ true → stands i (queue p) ≡ true → stands i (queue q) ≡ true → p ≡ q)
            → (on_way k p b ≡ true → on_way k q b ≡ true → stands i (queue p) ≡ true → stands i (queue q) ≡ true → p ≡ q)
            → (c : Bool) → cond c (on_way k p a) (on_way k p b) ≡ true → cond c (on_way k q a) (on_way k q b) ≡ true → p ≡ q
        same one two true u v = one u v hp hq
        same one two false u v = two u v hp hq

    -- who waits in a tree is a request that was submitted
    pub asked : (R : K → Bool) (now : ℕ) (x : Tree K T) (i p : ℕ) → Good w rs R now x → Drawn place queue x → inside p x ≡ true → stands i (queue p) ≡ true → (r : Request K) × (numbered rs i ≡ Some r)
    asked R now bare i p g d e h = absurd (true≢false (sym e))
    asked R now (leaf k) i p g d e h = absurd (true≢false (sym e))
    asked R now (node f s t q a b) i p g d e h =
        let one = asked (left_of w R s) (below q now) a i p g.2 d.2 in
        let two = asked (right_of w R s) (below q now) b i p g.3 d.3 in
        inside_cases w rs p f s t q a b e
        (λ u. asked_here R q i g.0.fits (ap (stands i) (sym d.1) ∙ ap (λ j. stands i (queue j)) (sym u) ∙ h))
        (λ u. one u h) (λ u. two u h)
