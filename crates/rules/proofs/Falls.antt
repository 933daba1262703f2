-- A move leaves every other request no more places to come to, and the one that moves fewer. Rests on Visits and Alter.
use Rattle.std.proofs.Common.{◌≡◌, ℕ, suc, ◌+◌, ◌<◌, ◌≤◌, Bool, true, false, cond, ◌||◌, eqb, ltb, leb, List, [], ◌∷◌, ◌++◌, Option, sym, refl, ap, ◌∙◌, subst, ⊎_elim, true≢false, arith}
use Rattle.std.proofs.lemmas.Bool.{eqb-true, eq-eqb, ne_eqb, le-leb, lt-leb, cases_lt, false_from_ne_true, or_left, or_right}
use Rattle.requests.specs.declared.request.Request.{Request}
use Rattle.requests.specs.declared.request.Request.TheVariants.{Enter, Withdraw, LookUp, Count}
use Rattle.rules.specs.declared.mode.Mode.{Mode}
use Rattle.rules.specs.declared.mode.Mode.TheVariants.{Between, From, Upto}
use Rattle.rules.specs.Kinds.{Kinds, before}
use Rattle.rules.specs.States.{Place, Waiter}
use Rattle.rules.specs.Queues.{stands}
use Rattle.rules.specs.Moves.{count_steps}
use Rattle.rules.proofs.Bools.{or_false}
use Rattle.rules.proofs.Trees.{Tree, bare, leaf, node, inside, Drawn}
use Rattle.rules.proofs.Goods.{below, Over, left_of, right_of, Good}
use Rattle.rules.proofs.Later.{lined_below}
use Rattle.rules.proofs.Joins.{stands_append}
use Rattle.rules.proofs.Children.{waiter, enter_child, withdraw_child, count_child}
use Rattle.rules.proofs.Insides.{inside_cases, inside_maker, makers_apart}
use Rattle.rules.proofs.Pends.{waiting}
use Rattle.rules.proofs.Pairs.{shown_pair, moved_pair, moved_node}
use Rattle.rules.proofs.Alter.{alter, alter_outside}
use Rattle.rules.proofs.Visits.{one_if, nodes_below, reach, unmade, visits, reach_below, reach_some, not_standing, not-above, waiting-before, enters, reach_short}

-- who joins a queue is not another
stands_other : (i : ℕ) (q : List Waiter) (e : Waiter) → (i ≡ e.number → ⊥) → stands i (q ++ (e ∷ [])) ≡ stands i q
stands_other i q e ne =
    stands_append i q e ∙ ap (λ v. stands i q || v) (ne_eqb e.number i (λ h. ne (sym h))) ∙ or_false (stands i q)

module _ {K T : Type 0} where
  -- but for request m, what there is to reach rises by no more than there are new places
  abbrev pub Stays : ℕ → Tree K T → Tree K T → Type 0
  Stays m x y = (i : ℕ) → (i ≡ m → ⊥) → reach i y + nodes_below i x ≤ reach i x + nodes_below i y

  pub stays_same : (m : ℕ) (x : Tree K T) → Stays m x x
  stays_same m x i ne = omega arith

  stays_joined : (m f : ℕ) (s : K) (t u : T) (q : List Waiter) (mode : Mode) (a b : Tree K T)
      → Stays m (node f s t q a b) (node f s u (q ++ (waiter m mode ∷ [])) a b)
  stays_joined m f s t u q mode a b i ne = rw (stands_other i q (waiter m mode) ne) (omega arith)

  module _ (w : Kinds K T) where
    pub stays_enter : (m : ℕ) (k : K) (x : Tree K T) → Stays m x (enter_child w m k x)
    stays_enter m k bare = λ i ne. omega arith
    stays_enter m k (leaf j) = λ i ne. omega arith
    stays_enter m k (node f s t q a b) = stays_joined m f s t t q Between a b

    pub stays_withdraw : (m : ℕ) (k : K) (x : Tree K T) → Stays m x (withdraw_child w m k x)
    stays_withdraw m k bare = λ i ne. omega arith
    stays_withdraw m k (leaf j) = λ i ne. omega arith
    stays_withdraw m k (node f s t q a b) = stays_joined m f s t t q Between a b

    pub stays_count : (m : ℕ) (mode : Mode) (x : Tree K T) → Stays m x (count_child w m mode x)
    stays_count m mode bare = λ i ne. omega arith
    stays_count m mode (leaf j) = λ i ne. omega arith
    stays_count m mode (node f s t q a b) = stays_joined m f s t t q mode a b

    -- the two trees below the place where request m moves
    abbrev PairStays : ℕ → Tree K T → Tree K T → Tree K T × Tree K T → Type 0
    PairStays m a b cd = Stays m a cd.0 × Stays m b cd.1

    stays_shown : (m : ℕ) (mode : Mode) (c d : Bool) (a b : Tree K T) → PairStays m a b (shown_pair w m (count_steps mode c d) (a, b))
    stays_shown m Between true d a b = (stays_same m a, stays_count m Between b)
    stays_shown m Between false true a b = (stays_count m Between a, stays_same m b)
    stays_shown m Between false false a b = (stays_count m From a, stays_count m Upto b)
    stays_shown m From true d a b = (stays_same m a, stays_count m From b)
    stays_shown m From false d a b = (stays_count m From a, stays_same m b)
    stays_shown m Upto c true a b = (stays_count m Upto a, stays_same m b)
    stays_shown m Upto c false a b = (stays_same m a, stays_count m Upto b)

    stays_pair : (r : Request K) (m : ℕ) (mode : Mode) (s : K) (a b : Tree K T) → PairStays m a b (moved_pair w r m mode s a b)
    stays_pair (Enter k) m mode s a b = go (before w k s)
      where
        go : (c : Bool) → PairStays m a b (cond c (enter_child w m k a, b) (a, enter_child w m k b))
        go true = (stays_enter m k a, stays_same m b)
        go false = (stays_same m a, stays_enter m k b)
    stays_pair (Withdraw k) m mode s a b = go (before w k s)
      where
        go : (c : Bool) → PairStays m a b (cond c (withdraw_child w m k a, b) (a, withdraw_child w m k b))
        go true = (stays_withdraw m k a, stays_same m b)
        go false = (stays_same m a, stays_withdraw m k b)
    stays_pair (LookUp k) m mode s a b = (stays_same m a, stays_same m b)
    stays_pair (Count lo hi) m mode s a b = stays_shown m mode (w.le s lo) (before w hi s) a b

  -- what the move of request m makes of a tree x, y
  pub record Falls (m : ℕ) (x y : Tree K T) : Type 0 where
    pub waits : waiting m x ≡ true
    pub others : Stays m x y
    -- the mover has the place less where it waited
    pub mover : suc (reach m y + nodes_below m x) ≤ reach m x + nodes_below m y

  stays_node : (m p : ℕ) (s : K) (t : T) (q q' : List Waiter) (a b c d : Tree K T) → ((i : ℕ) → (i ≡ m → ⊥) → stands i q' ≡ stands i q)
      → Stays m a c → Stays m b d → Stays m (node p s t q a b) (node p s t q' c d)
  stays_node m p s t q q' a b c d same one two i ne = rw (same i ne) (go (one i ne) (two i ne) (stands i q))
    where
      go : reach i c + nodes_below i a ≤ reach i a + nodes_below i c → reach i d + nodes_below i b ≤ reach i b + nodes_below i d → (v : Bool)
          → cond v (one_if (ltb p i) + (nodes_below i c + nodes_below i d)) (reach i c + reach i d) + (one_if (ltb p i) + (nodes_below i a + nodes_below i b))
          ≤ cond v (one_if (ltb p i) + (nodes_below i a + nodes_below i b)) (reach i a + reach i b) + (one_if (ltb p i) + (nodes_below i c + nodes_below i d))
      go f h true = omega arith
      go f h false = omega arith

module _ {K T : Type 0} (w : Kinds K T) (rs : List (Request K)) where
  -- at the place itself: its head has left
  node_falls : (R : K → Bool) (now : ℕ) (p : ℕ) (s : K) (t : T) (e : Waiter) (q : List Waiter) (a b c d : Tree K T)
      → Good w rs R now (node p s t (e ∷ q) a b) → Stays e.number a c → Stays e.number b d
      → Falls e.number (node p s t (e ∷ q) a b) (node p s t q c d)
  node_falls R now p s t e q a b c d g one two = record {
    waits = or_left (stands e.number (e ∷ q)) (waiting e.number a || waiting e.number b) here;
    others = stays_node e.number p s t (e ∷ q) q a b c d (λ i ne. rw (ne_eqb e.number i (λ h. ne (sym h)))) one two;
    mover = rw (here, gone, low) (omega (arith, reach_below e.number c, reach_below e.number d));
  }
    where
      here : stands e.number (e ∷ q) ≡ true
      here = or_left (eqb e.number e.number) (stands e.number q) (grind arith)

      gone : stands e.number q ≡ false
      gone = let far = lined_below e.number q now g.0.lined.1 in not_standing e.number e.number q now g.0.lined.1 far.0

      low : ltb p e.number ≡ true
      low = grind (arith, g.0.lined.0)

  -- one place up, on either side
  falls_left : (m : ℕ) (R : K → Bool) (now : ℕ) (i : ℕ) (s : K) (t : T) (q : List Waiter) (a b c : Tree K T)
      → Good w rs R now (node i s t q a b) → Falls m a c → Falls m (node i s t q a b) (node i s t q c b)
  falls_left m R now i s t q a b c g f = record {
    waits = or_right (stands m q) (waiting m a || waiting m b) under;
    others = stays_node m i s t q q a b c b (λ j ne. refl) f.others (stays_same m b);
    mover = rw (not-above w rs R now i s t q a b m g under) (omega (arith, f.mover));
  }
    where
      under : (waiting m a || waiting m b) ≡ true
      under = or_left (waiting m a) (waiting m b) f.waits

  falls_right : (m : ℕ) (R : K → Bool) (now : ℕ) (i : ℕ) (s : K) (t : T) (q : List Waiter) (a b c : Tree K T)
      → Good w rs R now (node i s t q a b) → Falls m b c → Falls m (node i s t q a b) (node i s t q a c)
  falls_right m R now i s t q a b c g f = record {
    waits = or_right (stands m q) (waiting m a || waiting m b) under;
    others = stays_node m i s t q q a b a c (λ j ne. refl) (stays_same m a) f.others;
    mover = rw (not-above w rs R now i s t q a b m g under) (omega (arith, f.mover));
  }
    where
      under : (waiting m a || waiting m b) ≡ true
      under = or_right (waiting m a) (waiting m b) f.waits

  module _ (place : ℕ → Option (Place K T)) (queue : ℕ → List Waiter) (p : ℕ) (r : Request K) (e : Waiter) (es : List Waiter) (head : queue p ≡ e ∷ es) where
    -- the head of the queue of p, a place of the tree, moves
    pub falls_moved : (R : K → Bool) (now : ℕ) (x : Tree K T) → Good w rs R now x → Drawn place queue x → inside p x ≡ true
        → Falls e.number x (alter p (moved_node w r) x)
    falls_moved R now bare g d h = absurd (true≢false (sym h))
    falls_moved R now (leaf k) g d h = absurd (true≢false (sym h))
    falls_moved R now (node i s t q a b) g d h =
        go (falls_moved (left_of w R s) (below q now) a g.2 d.2) (falls_moved (right_of w R s) (below q now) b g.3 d.3) (eqb i p) refl
      where
        go : (inside p a ≡ true → Falls e.number a (alter p (moved_node w r) a)) → (inside p b ≡ true → Falls e.number b (alter p (moved_node w r) b))
            → (c : Bool) → eqb i p ≡ c → Falls e.number (node i s t q a b) (alter p (moved_node w r) (node i s t q a b))
        go one two true f =
            let same : q ≡ e ∷ es = sym d.1 ∙ ap queue (eqb-true i p f) ∙ head in
            let pair = stays_pair w r e.number e.mode s a b in
            let there = subst (λ u. Good w rs R now (node i s t u a b) → Falls e.number (node i s t u a b) (moved_node w r (node i s t u a b))) (sym same)
            (λ g. node_falls R now i s t e es a b _ _ g pair.0 pair.1) in
            rw f (there g)
        go one two false f =
            inside_cases w rs p i s t q a b h
            (λ u. absurd (true≢false (sym (eq-eqb i p (sym u)) ∙ f)))
            (λ u. let lone : inside p b ≡ false = false_from_ne_true (inside p b) (λ v. makers_apart w rs R s p (inside_maker w rs (left_of w R s) (below q now) a p g.2 u) (inside_maker w rs (right_of w R s) (below q now) b p g.3 v)) in
            rw (f, alter_outside p (moved_node w r) b lone) (falls_left e.number R now i s t q a b (alter p (moved_node w r) a) g (one u)))
            (λ u. let lone : inside p a ≡ false = false_from_ne_true (inside p a) (λ v. makers_apart w rs R s p (inside_maker w rs (left_of w R s) (below q now) a p g.2 v) (inside_maker w rs (right_of w R s) (below q now) b p g.3 u)) in
            rw (f, alter_outside p (moved_node w r) a lone) (falls_right e.number R now i s t q a b (alter p (moved_node w r) b) g (two u)))

  -- the sums of what is to reach and what is not made, in a good tree and what became of it
  module _ (R : K → Bool) (now then : ℕ) (m : ℕ) (x y : Tree K T) (gx : Good w rs R now x) (ox : Over 0 x) (gy : Good w rs R then y) (oy : Over 0 y) where
    pub stays_sum : Stays m x y → (i : ℕ) → (i ≡ m → ⊥) → reach i y + unmade i y ≤ reach i x + unmade i x
    stays_sum h i ne = let c = h i ne in let u = enters w rs R now x i gx ox in let v = enters w rs R then y i gy oy in omega arith

    pub falls_sum : Falls m x y → suc (reach m y + unmade m y) ≤ reach m x + unmade m x
    falls_sum h = let c = h.mover in let u = enters w rs R now x m gx ox in let v = enters w rs R then y m gy oy in omega arith

    module _ (same : (i : ℕ) → (i ≡ m → ⊥) → waiting i y ≡ waiting i x) (stays : Stays m x y) where
      -- m moves at a place of the tree: no other request may move more often
      pub visits_others : (time i : ℕ) → (i ≡ m → ⊥) → visits time i y ≤ visits time i x
      visits_others time i ne = rw (same i ne) (go (stays_sum stays i ne) (leb time i) (waiting i x))
        where
          go : reach i y + unmade i y ≤ reach i x + unmade i x → (c d : Bool)
              → cond c i (cond d (reach i y + unmade i y) 0) ≤ cond c i (cond d (reach i x + unmade i x) 0)
          go h true d = omega arith
          go h false true = h
          go h false false = omega arith

      -- m leaves the gate: the same
      pub gate_others : (i : ℕ) → (i ≡ m → ⊥) → visits (suc m) i y ≤ visits m i x
      gate_others i ne =
          let h = visits_others m i ne in
          ⊎_elim
          (λ lt. let one : leb (suc m) i ≡ false = lt-leb (suc m) i (omega arith) in let two : leb m i ≡ false = lt-leb m i lt in let e : visits (suc m) i y ≡ visits m i y = rw (one, two) in omega arith)
          (λ ge. let more : m < i = above ge in let one : leb (suc m) i ≡ true = le-leb (suc m) i (omega arith) in let two : leb m i ≡ true = le-leb m i ge in rw (one, two) (omega arith))
          (cases_lt i m)
        where
          above : m ≤ i → m < i
          above ge = ⊎_elim (λ lt. lt) (λ le. absurd (ne (omega arith))) (cases_lt m i)

    -- and m itself may move once less
    pub visits_mover : Falls m x y → suc (visits now m y) ≤ visits now m x
    visits_mover f =
        let past : leb now m ≡ false = lt-leb now m (waiting-before w rs R now x m gx f.waits) in
        let some = reach_some w rs R now x m gx f.waits in
        rw (past, f.waits) (go (falls_sum f) some (waiting m y))
      where
        go : suc (reach m y + unmade m y) ≤ reach m x + unmade m x → 1 ≤ reach m x → (d : Bool)
            → suc (cond d (reach m y + unmade m y) 0) ≤ reach m x + unmade m x
        go h some true = h
        go h some false = omega arith

    -- a request that has left the gate may move less often than its number says
    pub gate_mover : 1 ≤ m → suc (visits (suc m) m y) ≤ visits m m x
    gate_mover pos =
        let past : leb (suc m) m ≡ false = lt-leb (suc m) m (omega arith) in
        let here : leb m m ≡ true = le-leb m m (omega arith) in
        let short = reach_short w rs R then y m gy oy in
        rw (past, here) (go (omega arith) (waiting m y))
      where
        go : suc (reach m y + unmade m y) ≤ m → (d : Bool) → suc (cond d (reach m y + unmade m y) 0) ≤ m
        go h true = h
        go h false = omega arith
