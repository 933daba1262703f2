-- What a request makes of the tree on its side when it moves down: enter, withdraw, count. Rests on Joins.
use Rattle.std.proofs.Common.{◌≡◌, ℕ, suc, pred, ◌<◌, Bool, true, false, cond, not, ◌&&◌, ◌||◌, List, [], ◌∷◌, ◌++◌, Some, None, sym, refl, ap, ◌∙◌, subst, ⊎_elim, true≢false, arith}
use Rattle.std.proofs.lemmas.Bool.{cases_lt}
use Rattle.requests.specs.declared.request.Request.{Request}
use Rattle.requests.specs.declared.request.Request.TheVariants.{Enter, Withdraw, Count}
use Rattle.rules.specs.declared.mode.Mode.{Mode}
use Rattle.rules.specs.declared.mode.Mode.TheVariants.{Between}
use Rattle.rules.specs.Kinds.{Kinds, Lawful, same, before, greater, lesser}
use Rattle.rules.specs.Plain.{set_before}
use Rattle.rules.specs.States.{Waiter}
use Rattle.rules.specs.Queues.{numbered}
use Rattle.rules.proofs.Bools.{bool_case, both_true, or_false, not_and}
use Rattle.rules.proofs.Order.{same_eq}
use Rattle.rules.proofs.Weights as weights
use Rattle.rules.proofs.Times.{ascends_at, told}
use Rattle.rules.proofs.Befores.{was, weight_before, Unmoved, Still, unmoved_silent, was_next, was_still, weight_still, weight_entered, weight_withdrawn}
use Rattle.rules.proofs.Trees.{Tree, bare, leaf, node}
use Rattle.rules.proofs.Goods.{ModeFits, WaiterFits, Good}
use Rattle.rules.proofs.Later.{left_in, left_side, right_in, right_side, good_later}
use Rattle.rules.proofs.Joins.{node_joins}

told_by_enter : {K T : Type 0} (w : Kinds K T) (b old : Bool) → told w (cond b (Some true) None) old ≡ (b || old)
told_by_enter w true old = refl
told_by_enter w false old = refl

told_by_withdraw : {K T : Type 0} (w : Kinds K T) (b old : Bool) → told w (cond b (Some false) None) old ≡ (not b && old)
told_by_withdraw w true old = refl
told_by_withdraw w false old = refl

abbrev pub waiter : ℕ → Mode → Waiter
waiter t m = record { number = t; mode = m }

module _ {K T : Type 0} (w : Kinds K T) where
  -- an enter of k, numbered t, meets the tree
  abbrev pub enter_child : ℕ → K → Tree K T → Tree K T
  enter_child t k bare = leaf k
  enter_child t k (leaf j) =
      node t (greater w j k) (w.joined (w.weighed j) (w.weighed k)) [] (leaf (lesser w j k)) (leaf (greater w j k))
  enter_child t k (node f s tally q a b) = node f s (w.joined tally (w.weighed k)) (q ++ (waiter t Between ∷ [])) a b

  -- a withdraw of k
  abbrev pub withdraw_child : ℕ → K → Tree K T → Tree K T
  withdraw_child t k bare = bare
  withdraw_child t k (leaf j) = bare
  withdraw_child t k (node f s tally q a b) =
      node f s (w.joined tally (w.opposed (w.weighed k))) (q ++ (waiter t Between ∷ [])) a b

  -- a count that is shown the tree in a mode
  abbrev pub count_child : ℕ → Mode → Tree K T → Tree K T
  count_child t m bare = bare
  count_child t m (leaf j) = leaf j
  count_child t m (node f s tally q a b) = node f s tally (q ++ (waiter t m ∷ [])) a b

module _ {K T : Type 0} (w : Kinds K T) (l : Lawful w) where
  -- two keys that differ, split at the greater one
  lesser_first : (j k : K) → same w k j ≡ false → before w (lesser w j k) (greater w j k) ≡ true
  lesser_first j k n = let t = l.total j k in grind arith

  left_is_lesser : (j k x : K) → before w x (greater w j k) ≡ true → (same w x k || same w x j) ≡ same w x (lesser w j k)
  left_is_lesser j k x h = grind arith

  right_is_greater : (j k x : K) → same w k j ≡ false → w.le (greater w j k) x ≡ true → (same w x k || same w x j) ≡ same w x (greater w j k)
  right_is_greater j k x n h =
      let one = l.transitive k x j in
      let two = l.transitive j x k in
      let t = l.total j k in
      grind arith

module _ {K T : Type 0} (w : Kinds K T) (l : Lawful w) (rs : List (Request K)) (R : K → Bool) (t u : ℕ) (h : t < u) (quiet : Still w rs R (suc t) u) where
  -- with a request that changes nothing here, it is still from the request on
  pub still_from : ((k : K) → R k ≡ true → Unmoved w rs t k) → Still w rs R t u
  still_from none i lo hi k here =
      ⊎_elim
      (λ lt. let same_number : t ≡ i = omega arith in subst (λ j. Unmoved w rs j k) same_number (none k here))
      (λ ge. quiet i ge hi k here)
      (cases_lt i (suc t))

  -- the part of the tree that a request does not concern
  pub child_stays : (x : Tree K T) → ((k : K) → R k ≡ true → Unmoved w rs t k) → Good w rs R t x → Good w rs R u x
  child_stays x none g = good_later w l rs R t u x (omega arith) (still_from none) g

  module _ (k : K) (e : numbered rs t ≡ Some (Enter k)) (here : R k ≡ true) (absent : was w rs t k ≡ false) where
    was_entered : (x : K) → R x ≡ true → was w rs u x ≡ (same w x k || was w rs t x)
    was_entered x r =
        let next = was_next w l rs t (Enter k) x e in
        was_still w l rs R (suc t) u (omega arith) quiet x r ∙ next ∙ told_by_enter w (same w x k) (was w rs t x)

    tally_entered : weight_before w R rs u ≡ w.joined (weight_before w R rs t) (w.weighed k)
    tally_entered =
        weight_still w l rs R (suc t) u (omega arith) quiet ∙ weight_entered w l rs R t k e absent here

    pub child_entered : (x : Tree K T) → Good w rs R t x → Good w rs R u (enter_child w t k x)
    child_entered bare g = (here, λ x r. was_entered x r ∙ ap (λ v. same w x k || v) (g x r) ∙ or_false (same w x k))
    child_entered (leaf j) g = (
      record {
        maker = k;
        made = e;
        maker_here = here;
        split_here = greater-here;
        weighs = ap (λ v. w.joined v (w.weighed k)) (sym alone) ∙ sym tally_entered;
        lined = h;
        fits = tt;
        still = λ i lo hi. absurd (omega arith);
      },
      (tt, tt),
      (
        both_true lesser-here (lesser_first w l j k differ),
        λ x r. was_both x (left_in w R (greater w j k) x r) ∙ left_is_lesser w l j k x (left_side w R (greater w j k) x r),
      ),
      (
        both_true greater-here (l.reflexive (greater w j k)),
        λ x r. was_both x (right_in w R (greater w j k) x r) ∙ right_is_greater w l j k x differ (right_side w R (greater w j k) x r),
      ),
    )
      where
        differ : same w k j ≡ false
        differ = sym (g.1 k here) ∙ absent

        alone : weight_before w R rs t ≡ w.weighed j
        alone = weights.weight_one w l R j (set_before w rs t) (ascends_at w l rs (pred t)) g.0 (λ x r. g.1 x r)

        was_both : (x : K) → R x ≡ true → was w rs u x ≡ (same w x k || same w x j)
        was_both x r = was_entered x r ∙ ap (λ v. same w x k || v) (g.1 x r)

        greater-here : R (greater w j k) ≡ true
        greater-here = bool_case (w.le j k) (λ v. R (cond v k j) ≡ true) here g.0

        lesser-here : R (lesser w j k) ≡ true
        lesser-here = bool_case (w.le j k) (λ v. R (cond v j k) ≡ true) g.0 here
    child_entered (node f s tally q a b) g =
        node_joins w rs R u f s tally (w.joined tally (w.weighed k)) q (waiter t Between) a b h
        (ap (λ v. w.joined v (w.weighed k)) g.0.weighs ∙ sym tally_entered)
        (subst (WaiterFits w rs R t Between) (sym e) (here, absent)) quiet g

  module _ (k : K) (e : numbered rs t ≡ Some (Withdraw k)) (here : R k ≡ true) (there : was w rs t k ≡ true) where
    was_withdrawn : (x : K) → R x ≡ true → was w rs u x ≡ (not (same w x k) && was w rs t x)
    was_withdrawn x r =
        let next = was_next w l rs t (Withdraw k) x e in
        was_still w l rs R (suc t) u (omega arith) quiet x r ∙ next ∙ told_by_withdraw w (same w x k) (was w rs t x)

    tally_withdrawn : weight_before w R rs u ≡ w.joined (weight_before w R rs t) (w.opposed (w.weighed k))
    tally_withdrawn =
        weight_still w l rs R (suc t) u (omega arith) quiet ∙ weight_withdrawn w l rs R t k e there here

    pub child_withdrawn : (x : Tree K T) → Good w rs R t x → Good w rs R u (withdraw_child w t k x)
    child_withdrawn bare g = absurd (true≢false (sym there ∙ g k here))
    child_withdrawn (leaf j) g = λ x r.
        let kj : k ≡ j = same_eq w l k j (sym (g.1 k here) ∙ there) in
        was_withdrawn x r ∙ ap (λ v. not (same w x k) && v) (g.1 x r ∙ ap (same w x) (sym kj)) ∙ not_and (same w x k)
    child_withdrawn (node f s tally q a b) g =
        node_joins w rs R u f s tally (w.joined tally (w.opposed (w.weighed k))) q (waiter t Between) a b h
        (ap (λ v. w.joined v (w.opposed (w.weighed k))) g.0.weighs ∙ sym tally_withdrawn)
        (subst (WaiterFits w rs R t Between) (sym e) (here, there)) quiet g

  module _ (lo hi : K) (e : numbered rs t ≡ Some (Count lo hi)) where
    silent : (k : K) → R k ≡ true → Unmoved w rs t k
    silent k r = unmoved_silent w l rs t (Count lo hi) k e refl

    pub child_counted : (m : Mode) (x : Tree K T) → ModeFits w R lo hi m → Good w rs R t x → Good w rs R u (count_child w t m x)
    child_counted m bare fit g = child_stays bare silent g
    child_counted m (leaf j) fit g = child_stays (leaf j) silent g
    child_counted m (node f s tally q a b) fit g =
        node_joins w rs R u f s tally tally q (waiter t m) a b h
        (g.0.weighs ∙ sym (weight_still w l rs R t u (omega arith) (still_from silent)))
        (subst (WaiterFits w rs R t m) (sym e) fit) quiet g
