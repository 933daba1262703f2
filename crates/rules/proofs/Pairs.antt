-- The two trees below a place after its head has moved. Rests on Children.
use Rattle.std.proofs.Common.{◌≡◌, ℕ, suc, ◌<◌, ◌≤◌, Bool, true, false, cond, not, List, [], ◌∷◌, length, Some, None, refl, ap, subst, arith}
use Rattle.requests.specs.declared.request.Request.{Request}
use Rattle.requests.specs.declared.request.Request.TheVariants.{Enter, Withdraw, LookUp, Count}
use Rattle.rules.specs.declared.mode.Mode.{Mode}
use Rattle.rules.specs.declared.mode.Mode.TheVariants.{Between, From, Upto}
use Rattle.rules.specs.Kinds.{Kinds, Lawful, same, before}
use Rattle.rules.specs.States.{Waiter}
use Rattle.rules.specs.Queues.{numbered}
use Rattle.rules.specs.Moves.{on_left, on_right, Step, show, add, count_steps}
use Rattle.rules.specs.Carries.{says}
use Rattle.rules.proofs.Bools.{both_true}
use Rattle.rules.proofs.Befores.{was, Still, still_within, unmoved_silent}
use Rattle.rules.proofs.Trees.{Tree, bare, leaf, node}
use Rattle.rules.proofs.Goods.{below, Over, left_of, right_of, ModeFits, WaiterFits, Good}
use Rattle.rules.proofs.Later.{left_in, left_side, right_in, right_side, lined_below}
use Rattle.rules.proofs.Joins.{node_moves, still_behind}
use Rattle.rules.proofs.Children.{enter_child, withdraw_child, count_child, child_stays, child_entered, child_withdrawn, child_counted}

module _ {K T : Type 0} (w : Kinds K T) where
  -- a count's steps at a place: only showing a slot changes the tree there
  abbrev pub shown_pair : ℕ → List Step → Tree K T × Tree K T → Tree K T × Tree K T
  shown_pair t [] ab = ab
  shown_pair t (show on_left m ∷ xs) ab = shown_pair t xs (count_child w t m ab.0, ab.1)
  shown_pair t (show on_right m ∷ xs) ab = shown_pair t xs (ab.0, count_child w t m ab.1)
  shown_pair t (add side ∷ xs) ab = shown_pair t xs ab

  -- the two trees below a place with split s, after request r, numbered t and in mode m, has moved there
  abbrev pub moved_pair : Request K → ℕ → Mode → K → Tree K T → Tree K T → Tree K T × Tree K T
  moved_pair (Enter k) t m s a b = cond (before w k s) (enter_child w t k a, b) (a, enter_child w t k b)
  moved_pair (Withdraw k) t m s a b = cond (before w k s) (withdraw_child w t k a, b) (a, withdraw_child w t k b)
  moved_pair (LookUp k) t m s a b = (a, b)
  moved_pair (Count lo hi) t m s a b = shown_pair t (count_steps m (w.le s lo) (before w hi s)) (a, b)

  -- the place whose head has moved
  abbrev pub moved_node : Request K → Tree K T → Tree K T
  moved_node r bare = bare
  moved_node r (leaf k) = leaf k
  moved_node r (node p s t [] a b) = node p s t [] a b
  moved_node r (node p s t (e ∷ q) a b) =
      node p s t q (moved_pair r e.number e.mode s a b).0 (moved_pair r e.number e.mode s a b).1

-- children keep or get a number above p
pub over_enter : {K T : Type 0} (w : Kinds K T) (p t : ℕ) (k : K) (x : Tree K T) → p < t → Over p x → Over p (enter_child w t k x)
over_enter w p t k bare h o = tt
over_enter w p t k (leaf j) h o = h
over_enter w p t k (node f s u q a b) h o = o

pub over_withdraw : {K T : Type 0} (w : Kinds K T) (p t : ℕ) (k : K) (x : Tree K T) → Over p x → Over p (withdraw_child w t k x)
over_withdraw w p t k bare o = tt
over_withdraw w p t k (leaf j) o = tt
over_withdraw w p t k (node f s u q a b) o = o

pub over_count : {K T : Type 0} (w : Kinds K T) (p t : ℕ) (m : Mode) (x : Tree K T) → Over p x → Over p (count_child w t m x)
over_count w p t m bare o = tt
over_count w p t m (leaf j) o = tt
over_count w p t m (node f s u q a b) o = o

-- a key that is not before the split is at least the split
not-before : {K T : Type 0} (w : Kinds K T) (s k : K) → before w k s ≡ false → w.le s k ≡ true
not-before w s k e = grind arith

module _ {K T : Type 0} (w : Kinds K T) (l : Lawful w) where
  -- a key of one side says nothing on the other
  other_right : (R : K → Bool) (s k x : K) → before w k s ≡ true → right_of w R s x ≡ true → same w x k ≡ false
  other_right R s k x h e = let u = right_side w R s x e in let tr = l.transitive s x k in grind arith

  other_left : (R : K → Bool) (s k x : K) → before w k s ≡ false → left_of w R s x ≡ true → same w x k ≡ false
  other_left R s k x h e = let u = left_side w R s x e in let tr = l.transitive s k x in grind arith

  -- what a count may rely on, on either side
  from_left : (R : K → Bool) (s hi k : K) → before w hi s ≡ false → left_of w R s k ≡ true → w.le k hi ≡ true
  from_left R s hi k h e =
      let u = left_side w R s k e in let t = l.total s k in let tr = l.transitive k s hi in grind arith

  upto_right : (R : K → Bool) (s lo k : K) → w.le s lo ≡ false → right_of w R s k ≡ true → w.le lo k ≡ true
  upto_right R s lo k h e = let u = right_side w R s k e in let t = l.total s lo in let tr = l.transitive lo s k in grind arith

  module _ (rs : List (Request K)) (R : K → Bool) (t : ℕ) (p : ℕ) (s : K) (tally : T) (e : Waiter) (q : List Waiter) (a b : Tree K T)
      (g : Good w rs R t (node p s tally (e ∷ q) a b)) (n : t ≤ suc (length rs)) where
    far : (e.number < below q t) × (below q t ≤ t)
    far = lined_below e.number q t g.0.lined.1

    quiet : Still w rs R (suc e.number) (below q t)
    quiet = still_behind w rs R t p s tally e q g.0

    quiet_left : Still w rs (left_of w R s) (suc e.number) (below q t)
    quiet_left = still_within w l rs R (left_of w R s) (suc e.number) (below q t) (left_in w R s) quiet

    quiet_right : Still w rs (right_of w R s) (suc e.number) (below q t)
    quiet_right = still_within w l rs R (right_of w R s) (suc e.number) (below q t) (right_in w R s) quiet

    -- what is wanted of the two trees
    abbrev pub PairGood : Tree K T × Tree K T → Type 0
    PairGood cd = Over p cd.0 × Over p cd.1 × Good w rs (left_of w R s) (below q t) cd.0 × Good w rs (right_of w R s) (below q t) cd.1

    stays_left : (r : Request K) → numbered rs e.number ≡ Some r → ((k : K) → left_of w R s k ≡ true → says w k r ≡ None) → Good w rs (left_of w R s) (below q t) a
    stays_left r num none = child_stays w l rs (left_of w R s) e.number (below q t) far.0 quiet_left a (λ k h. unmoved_silent w l rs e.number r k num (none k h)) g.2

    stays_right : (r : Request K) → numbered rs e.number ≡ Some r → ((k : K) → right_of w R s k ≡ true → says w k r ≡ None) → Good w rs (right_of w R s) (below q t) b
    stays_right r num none = child_stays w l rs (right_of w R s) e.number (below q t) far.0 quiet_right b (λ k h. unmoved_silent w l rs e.number r k num (none k h)) g.3

    pair_entered : (k : K) → numbered rs e.number ≡ Some (Enter k) → R k ≡ true → was w rs e.number k ≡ false
        → (c : Bool) → before w k s ≡ c → PairGood (cond c (enter_child w e.number k a, b) (a, enter_child w e.number k b))
    pair_entered k num here absent true f = (
      over_enter w p e.number k a g.0.lined.0 g.1.0,
      g.1.1,
      child_entered w l rs (left_of w R s) e.number (below q t) far.0 quiet_left k num (both_true here f) absent a g.2,
      stays_right (Enter k) num (λ x r. rw (other_right R s k x f r)),
    )
    pair_entered k num here absent false f = (
      g.1.0,
      over_enter w p e.number k b g.0.lined.0 g.1.1,
      stays_left (Enter k) num (λ x r. rw (other_left R s k x f r)),
      child_entered w l rs (right_of w R s) e.number (below q t) far.0 quiet_right k num (both_true here (grind arith)) absent b g.3,
    )

    pair_withdrawn : (k : K) → numbered rs e.number ≡ Some (Withdraw k) → R k ≡ true → was w rs e.number k ≡ true
        → (c : Bool) → before w k s ≡ c → PairGood (cond c (withdraw_child w e.number k a, b) (a, withdraw_child w e.number k b))
    pair_withdrawn k num here there true f = (
      over_withdraw w p e.number k a g.1.0,
      g.1.1,
      child_withdrawn w l rs (left_of w R s) e.number (below q t) far.0 quiet_left k num (both_true here f) there a g.2,
      stays_right (Withdraw k) num (λ x r. rw (other_right R s k x f r)),
    )
    pair_withdrawn k num here there false f = (
      g.1.0,
      over_withdraw w p e.number k b g.1.1,
      stays_left (Withdraw k) num (λ x r. rw (other_left R s k x f r)),
      child_withdrawn w l rs (right_of w R s) e.number (below q t) far.0 quiet_right k num (both_true here (grind arith)) there b g.3,
    )

    module _ (lo hi : K) (num : numbered rs e.number ≡ Some (Count lo hi)) where
      still_left : Good w rs (left_of w R s) (below q t) a
      still_left = stays_left (Count lo hi) num (λ k r. refl)

      still_right : Good w rs (right_of w R s) (below q t) b
      still_right = stays_right (Count lo hi) num (λ k r. refl)

      show-left : (m : Mode) → ModeFits w (left_of w R s) lo hi m → Good w rs (left_of w R s) (below q t) (count_child w e.number m a)
      show-left m fit = child_counted w l rs (left_of w R s) e.number (below q t) far.0 quiet_left lo hi num m a fit g.2

      show-right : (m : Mode) → ModeFits w (right_of w R s) lo hi m → Good w rs (right_of w R s) (below q t) (count_child w e.number m b)
      show-right m fit = child_counted w l rs (right_of w R s) e.number (below q t) far.0 quiet_right lo hi num m b fit g.3

      up_left : (m : Mode) → Over p (count_child w e.number m a)
      up_left m = over_count w p e.number m a g.1.0

      up_right : (m : Mode) → Over p (count_child w e.number m b)
      up_right m = over_count w p e.number m b g.1.1

      pair_counted : (m : Mode) → ModeFits w R lo hi m → (c d : Bool) → w.le s lo ≡ c → before w hi s ≡ d → PairGood (shown_pair w e.number (count_steps m c d) (a, b))
      pair_counted Between fit true d f h =
          (g.1.0, up_right Between, still_left, show-right Between (both_true fit.0 f, λ z. both_true (fit.1 z) (l.transitive s lo hi f z)))
      pair_counted Between fit false true f h =
          (up_left Between, g.1.1, show-left Between (both_true fit.0 (ap not f), λ z. both_true (fit.1 z) h), still_right)
      pair_counted Between fit false false f h = (
        up_left From,
        up_right Upto,
        show-left From (both_true fit.0 (ap not f), λ k r. from_left R s hi k h r),
        show-right Upto (both_true (fit.1 (l.transitive lo s hi (l.total s lo f) (not-before w s hi h))) (not-before w s hi h), λ k r. upto_right R s lo k f r),
      )
      pair_counted From fit true d f h =
          (g.1.0, up_right From, still_left, show-right From (both_true fit.0 f, λ k r. fit.1 k (right_in w R s k r)))
      pair_counted From fit false d f h =
          (up_left From, g.1.1, show-left From (both_true fit.0 (ap not f), λ k r. fit.1 k (left_in w R s k r)), still_right)
      pair_counted Upto fit c true f h =
          (up_left Upto, g.1.1, show-left Upto (both_true fit.0 h, λ k r. fit.1 k (left_in w R s k r)), still_right)
      pair_counted Upto fit c false f h =
          (g.1.0, up_right Upto, still_left, show-right Upto (both_true fit.0 (not-before w s hi h), λ k r. fit.1 k (right_in w R s k r)))

    pair_moved : (r : Request K) → numbered rs e.number ≡ Some r → WaiterFits w rs R e.number e.mode (Some r) → PairGood (moved_pair w r e.number e.mode s a b)
    pair_moved (Enter k) num fit = pair_entered k num fit.0 fit.1 (before w k s) refl
    pair_moved (Withdraw k) num fit = pair_withdrawn k num fit.0 fit.1 (before w k s) refl
    pair_moved (LookUp k) num fit = absurd fit
    pair_moved (Count lo hi) num fit = pair_counted lo hi num e.mode fit (w.le s lo) (before w hi s) refl refl

    -- the place whose head has moved is good as before
    pub moved_good : (r : Request K) → numbered rs e.number ≡ Some r → Good w rs R t (moved_node w r (node p s tally (e ∷ q) a b))
    moved_good r num =
        let fit : WaiterFits w rs R e.number e.mode (Some r) = subst (WaiterFits w rs R e.number e.mode) num g.0.fits.0 in
        let both = pair_moved r num fit in
        node_moves w rs R t p s tally e q a b _ _ g both.0 both.1 both.2 both.3
