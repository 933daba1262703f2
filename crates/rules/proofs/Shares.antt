-- A count adds at a place exactly what it then no longer has to add. Rests on Sames.
use Rattle.std.proofs.Common.{◌≡◌, ℕ, pred, Bool, true, false, cond, not, ◌&&◌, ◌||◌, eqb, List, [], ◌∷◌, ◌++◌, sym, refl, ap, ◌∙◌, true≢false, arith}
use Rattle.std.proofs.lemmas.Bool.{false_from_ne_true}
use Rattle.requests.specs.declared.request.Request.{Request}
use Rattle.requests.specs.declared.request.Request.TheVariants.{Count}
use Rattle.rules.specs.declared.mode.Mode.{Mode}
use Rattle.rules.specs.declared.mode.Mode.TheVariants.{Between, From, Upto}
use Rattle.rules.specs.Kinds.{Kinds, Lawful, before}
use Rattle.rules.specs.Plain.{set_before, weight_of}
use Rattle.rules.specs.States.{Waiter}
use Rattle.rules.specs.Moves.{on_left, on_right, Step, show, add, count_steps, wanted}
use Rattle.rules.proofs.Bools.{both_true}
use Rattle.rules.proofs.Order.{same_eq, le-before_trans}
use Rattle.rules.proofs.Weights as weights
use Rattle.rules.proofs.Times.{ascends_at}
use Rattle.rules.proofs.Befores.{weight_before}
use Rattle.rules.proofs.Trees.{Tree, bare, leaf, node}
use Rattle.rules.proofs.Goods.{left_of, right_of, ModeFits, Good}
use Rattle.rules.proofs.Children.{waiter, count_child}
use Rattle.rules.proofs.Pairs.{shown_pair, moved_node}
use Rattle.rules.proofs.Pends.{share, queue_share, pending}
use Rattle.rules.proofs.Sames.{queue_share_append}

module _ {K T : Type 0} (w : Kinds K T) where
  -- what a count adds at once when it is shown a tree in a mode
  abbrev pub added : K → K → Mode → Tree K T → T
  added lo hi m bare = w.none
  added lo hi m (leaf j) = cond (wanted w lo hi m j) (w.weighed j) w.none
  added lo hi m (node p s tally q a b) = w.none

  -- the whole of a tree
  abbrev pub whole_of : Tree K T → T
  whole_of bare = w.none
  whole_of (leaf j) = w.weighed j
  whole_of (node p s tally q a b) = tally

  -- what a count adds at once by its steps at a place with the trees a and b
  abbrev pub steps_added : K → K → List Step → Tree K T → Tree K T → T
  steps_added lo hi [] a b = w.none
  steps_added lo hi (show on_left m ∷ xs) a b = w.joined (added lo hi m a) (steps_added lo hi xs a b)
  steps_added lo hi (show on_right m ∷ xs) a b = w.joined (added lo hi m b) (steps_added lo hi xs a b)
  steps_added lo hi (add on_left ∷ xs) a b = w.joined (whole_of a) (steps_added lo hi xs a b)
  steps_added lo hi (add on_right ∷ xs) a b = w.joined (whole_of b) (steps_added lo hi xs a b)

-- small facts of truth values, for one key
and_first : (a b : Bool) → (a && b) ≡ true → a ≡ true
and_first true b e = refl
and_first false b e = e

and_second : (a b : Bool) → (a && b) ≡ true → b ≡ true
and_second true b e = e
and_second false b e = absurd (true≢false (sym e))

-- a region cut by a test that a fact of the region already implies
cut_same : (r v c : Bool) → (v ≡ true → c ≡ true) → (r && v) ≡ ((r && c) && v)
cut_same true true c f = rw (f refl)
cut_same true false true f = refl
cut_same true false false f = refl
cut_same false v c f = refl

-- a region parted by a test, each part with its own want
cut_both : (r v c x y : Bool) → (c ≡ true → v ≡ y) → (c ≡ false → v ≡ x) → (r && v) ≡ (((r && not c) && x) || ((r && c) && y))
cut_both true v true x y f g = f refl
cut_both true v false true y f g = g refl
cut_both true v false false y f g = g refl
cut_both false v c x y f g = refl

-- the parts exclude each other
cut_apart : (r c x y : Bool) → ((r && not c) && x) ≡ true → ((r && c) && y) ≡ false
cut_apart true true x y e = absurd (true≢false (sym e))
cut_apart true false x y e = refl
cut_apart false c x y e = refl

and_true : (b : Bool) → (b && true) ≡ b
and_true true = refl
and_true false = refl

-- keys right of a split above lo, and keys left of a split that hi reaches
module _ {K T : Type 0} (w : Kinds K T) (l : Lawful w) where
  above_low : (s lo k : K) → w.le s lo ≡ false → w.le s k ≡ true → w.le lo k ≡ true
  above_low s lo k f e = l.transitive lo s k (l.total s lo f) e

  under_high : (s hi k : K) → before w hi s ≡ false → w.le s k ≡ false → w.le k hi ≡ true
  under_high s hi k h e = l.transitive k s hi (l.total s k e) (grind arith)

-- joins of what is added and what is left to add
module _ {K T : Type 0} (w : Kinds K T) (l : Lawful w) where
  -- one step on the left, or on the right
  step_left : (x v p p' q : T) → w.joined x p' ≡ w.joined v p → w.joined (w.joined x w.none) (w.joined p' q) ≡ w.joined v (w.joined p q)
  step_left x v p p' q e =
      let one = weights.neutral-right w l x in
      let two = l.associative x p' q in
      let three = l.associative v p q in
      cc

  step_right : (x v p q q' : T) → w.joined x q' ≡ w.joined v q → w.joined (w.joined x w.none) (w.joined p q') ≡ w.joined v (w.joined p q)
  step_right x v p q q' e =
      ap (w.joined (w.joined x w.none)) (l.commutative p q') ∙ step_left x v q q' p e ∙ ap (w.joined v) (l.commutative q p)

  -- two steps, one on each side
  step_both : (x y u v p p' q q' : T) → w.joined x p' ≡ w.joined u p → w.joined y q' ≡ w.joined v q
      → w.joined (w.joined x (w.joined y w.none)) (w.joined p' q') ≡ w.joined (w.joined u v) (w.joined p q)
  step_both x y u v p p' q q' e f =
      let one = weights.neutral-right w l y in
      let two = weights.exchange w l x y p' q' in
      let three = weights.exchange w l u v p q in
      cc

  step_swap : (x y u v p p' q q' : T) → w.joined x p' ≡ w.joined u p → w.joined y q' ≡ w.joined v q
      → w.joined (w.joined y (w.joined x w.none)) (w.joined p' q') ≡ w.joined (w.joined u v) (w.joined p q)
  step_swap x y u v p p' q q' e f =
      let one = weights.neutral-right w l x in
      let two = weights.neutral-right w l y in
      let three = l.commutative y x in
      let four = step_both x y u v p p' q q' e f in
      cc

  -- a common part in front
  in_front : (x v q a b : T) → w.joined x a ≡ w.joined v b → w.joined x (w.joined q a) ≡ w.joined (w.joined v q) b
  in_front x v q a b e =
      let one = l.associative x q a in
      let two = l.commutative x q in
      let three = l.associative q x a in
      let four = l.associative q v b in
      let five = l.commutative v q in
      cc

module _ {K T : Type 0} (w : Kinds K T) (l : Lawful w) (rs : List (Request K)) where
  -- the whole of a good tree is the weight of its region
  pub whole_is : (R : K → Bool) (t : ℕ) (x : Tree K T) → Good w rs R t x → whole_of w x ≡ weight_before w R rs t
  whole_is R t bare g = sym (weights.weight_nothing w l R (set_before w rs t) (λ k h. false_from_ne_true (R k) (λ r. true≢false (sym h ∙ g k r))))
  whole_is R t (leaf j) g = sym (weights.weight_one w l R j (set_before w rs t) (ascends_at w l rs (pred t)) g.0 (λ k r. g.1 k r))
  whole_is R t (node p s tally q a b) g = g.0.weighs

  -- what a count wants of a region in a mode, just before request t
  abbrev wanted_weight : (K → Bool) → ℕ → K → K → Mode → T
  wanted_weight R t lo hi m = weight_of w (λ k. R k && wanted w lo hi m k) (set_before w rs t)

  -- a lone key is added if it is wanted
  lone_share : (R : K → Bool) (t : ℕ) (lo hi : K) (m : Mode) (j : K) → Good w rs R t (leaf j) → (b : Bool) → wanted w lo hi m j ≡ b → cond b (w.weighed j) w.none ≡ wanted_weight R t lo hi m
  lone_share R t lo hi m j g true e =
      sym (weights.weight_one w l (λ k. R k && wanted w lo hi m k) j (set_before w rs t) (ascends_at w l rs (pred t)) (both_true g.0 e)
      (λ k r. g.1 k (and_first (R k) (wanted w lo hi m k) r)))
  lone_share R t lo hi m j g false e =
      sym (weights.weight_nothing w l (λ k. R k && wanted w lo hi m k) (set_before w rs t) (λ k h. false_from_ne_true (R k && wanted w lo hi m k) (λ r.
      let here = same_eq w l k j (sym (g.1 k (and_first (R k) (wanted w lo hi m k) r)) ∙ h) in
      true≢false (sym (and_second (R k) (wanted w lo hi m k) r) ∙ ap (wanted w lo hi m) here ∙ e))))

  -- the count's own share where it stands
  share_here : (R : K → Bool) (lo hi : K) (e : Waiter) → share w rs e.number lo hi R e ≡ wanted_weight R e.number lo hi e.mode
  share_here R lo hi e = let same_number : eqb e.number e.number ≡ true = grind arith in rw same_number

  -- showing a tree to a count: what it adds and has left to add there is what it wants of the region, and what it had left before
  pub shown_share : (R : K → Bool) (t : ℕ) (lo hi : K) (m : Mode) (x : Tree K T) → Good w rs R t x → w.joined (added w lo hi m x) (pending w rs t lo hi R (count_child w t m x)) ≡ w.joined (weight_of w (λ k. R k && wanted w lo hi m k) (set_before w rs t)) (pending w rs t lo hi R x)
  shown_share R t lo hi m bare g =
      ap (λ v. w.joined v w.none) (sym (weights.weight_nothing w l (λ k. R k && wanted w lo hi m k) (set_before w rs t)
      (λ k h. false_from_ne_true (R k && wanted w lo hi m k) (λ r. true≢false (sym h ∙ g k (and_first (R k) (wanted w lo hi m k) r))))))
  shown_share R t lo hi m (leaf j) g = ap (λ v. w.joined v w.none) (lone_share R t lo hi m j g (wanted w lo hi m j) refl)
  shown_share R t lo hi m (node p s tally q a b) g =
      l.neutral (w.joined (queue_share w rs t lo hi R (q ++ (waiter t m ∷ []))) rest)
      ∙ ap (λ v. w.joined v rest)
      (queue_share_append w l rs t lo hi R q (waiter t m) ∙ ap (w.joined (queue_share w rs t lo hi R q)) (share_here R lo hi (waiter t m)) ∙ l.commutative (queue_share w rs t lo hi R q) (wanted_weight R t lo hi m))
      ∙ l.associative (wanted_weight R t lo hi m) (queue_share w rs t lo hi R q) rest
    where
      rest : T
      rest = w.joined (pending w rs t lo hi (left_of w R s) a) (pending w rs t lo hi (right_of w R s) b)

  -- a region cut at a split, just before request t
  module _ (R : K → Bool) (s : K) (t : ℕ) (lo hi : K) where
    -- what is wanted lies right of the split, or left of it
    only_right : (m : Mode) → ((k : K) → wanted w lo hi m k ≡ true → w.le s k ≡ true) → wanted_weight R t lo hi m ≡ wanted_weight (right_of w R s) t lo hi m
    only_right m f =
        weights.weight_same_test w l (λ k. R k && wanted w lo hi m k) (λ k. right_of w R s k && wanted w lo hi m k) (set_before w rs t) (λ k h. cut_same (R k) (wanted w lo hi m k) (w.le s k) (f k))

    only_left : (m : Mode) → ((k : K) → wanted w lo hi m k ≡ true → before w k s ≡ true) → wanted_weight R t lo hi m ≡ wanted_weight (left_of w R s) t lo hi m
    only_left m f =
        weights.weight_same_test w l (λ k. R k && wanted w lo hi m k) (λ k. left_of w R s k && wanted w lo hi m k) (set_before w rs t) (λ k h. cut_same (R k) (wanted w lo hi m k) (before w k s) (f k))

    -- on each side of it something else decides what is wanted
    parted : (m : Mode) (x y : K → Bool) → ((k : K) → w.le s k ≡ true → wanted w lo hi m k ≡ y k) → ((k : K) → w.le s k ≡ false → wanted w lo hi m k ≡ x k)
        → wanted_weight R t lo hi m ≡ w.joined (weight_of w (λ k. left_of w R s k && x k) (set_before w rs t)) (weight_of w (λ k. right_of w R s k && y k) (set_before w rs t))
    parted m x y f g =
        weights.weight_same_test w l (λ k. R k && wanted w lo hi m k) (λ k. (left_of w R s k && x k) || (right_of w R s k && y k)) (set_before w rs t)
        (λ k h. cut_both (R k) (wanted w lo hi m k) (w.le s k) (x k) (y k) (f k) (g k))
        ∙ weights.weight_union w l (λ k. left_of w R s k && x k) (λ k. right_of w R s k && y k) (set_before w rs t) (λ k e. cut_apart (R k) (w.le s k) (x k) (y k) e)

    -- the whole of a side is wanted
    all_wanted : (Q : K → Bool) → weight_of w (λ k. Q k && true) (set_before w rs t) ≡ weight_before w Q rs t
    all_wanted Q = weights.weight_same_test w l (λ k. Q k && true) Q (set_before w rs t) (λ k h. and_true (Q k))

    module _ (a b : Tree K T) (ga : Good w rs (left_of w R s) t a) (gb : Good w rs (right_of w R s) t b) where
      -- what is left to add on either side before the count moves
      abbrev left_rest : T
      left_rest = pending w rs t lo hi (left_of w R s) a

      abbrev right_rest : T
      right_rest = pending w rs t lo hi (right_of w R s) b

      -- and what is left where a side is shown to it
      abbrev left_shown : Mode → T
      left_shown m = pending w rs t lo hi (left_of w R s) (count_child w t m a)

      abbrev right_shown : Mode → T
      right_shown m = pending w rs t lo hi (right_of w R s) (count_child w t m b)

      -- the count goes on to the right, or to the left, in its own mode
      goes_right : (m : Mode) → ((k : K) → wanted w lo hi m k ≡ true → w.le s k ≡ true)
          → w.joined (w.joined (added w lo hi m b) w.none) (w.joined left_rest (right_shown m)) ≡ w.joined (wanted_weight R t lo hi m) (w.joined left_rest right_rest)
      goes_right m f =
          step_right w l (added w lo hi m b) (wanted_weight (right_of w R s) t lo hi m) left_rest right_rest (right_shown m) (shown_share (right_of w R s) t lo hi m b gb)
          ∙ ap (λ v. w.joined v (w.joined left_rest right_rest)) (sym (only_right m f))

      goes_left : (m : Mode) → ((k : K) → wanted w lo hi m k ≡ true → before w k s ≡ true)
          → w.joined (w.joined (added w lo hi m a) w.none) (w.joined (left_shown m) right_rest) ≡ w.joined (wanted_weight R t lo hi m) (w.joined left_rest right_rest)
      goes_left m f =
          step_left w l (added w lo hi m a) (wanted_weight (left_of w R s) t lo hi m) left_rest (left_shown m) right_rest (shown_share (left_of w R s) t lo hi m a ga)
          ∙ ap (λ v. w.joined v (w.joined left_rest right_rest)) (sym (only_left m f))

      -- it goes both ways
      goes_both : w.le s lo ≡ false → before w hi s ≡ false
          → w.joined (w.joined (added w lo hi From a) (w.joined (added w lo hi Upto b) w.none)) (w.joined (left_shown From) (right_shown Upto)) ≡ w.joined (wanted_weight R t lo hi Between) (w.joined left_rest right_rest)
      goes_both f h =
          step_both w l (added w lo hi From a) (added w lo hi Upto b) (wanted_weight (left_of w R s) t lo hi From) (wanted_weight (right_of w R s) t lo hi Upto) left_rest (left_shown From) right_rest (right_shown Upto)
          (shown_share (left_of w R s) t lo hi From a ga) (shown_share (right_of w R s) t lo hi Upto b gb)
          ∙ ap (λ v. w.joined v (w.joined left_rest right_rest)) (sym (parted Between (w.le lo) (λ k. w.le k hi)
          (λ k e. ap (λ v. v && w.le k hi) (above_low w l s lo k f e))
          (λ k e. ap (λ v. w.le lo k && v) (under_high w l s hi k h e) ∙ and_true (w.le lo k))))

      -- it adds the whole of one side and goes on to the other
      takes_right : w.le s lo ≡ false
          → w.joined (w.joined (whole_of w b) (w.joined (added w lo hi From a) w.none)) (w.joined (left_shown From) right_rest) ≡ w.joined (wanted_weight R t lo hi From) (w.joined left_rest right_rest)
      takes_right f =
          step_swap w l (added w lo hi From a) (whole_of w b) (wanted_weight (left_of w R s) t lo hi From) (weight_of w (λ k. right_of w R s k && true) (set_before w rs t)) left_rest (left_shown From) right_rest right_rest
          (shown_share (left_of w R s) t lo hi From a ga) (ap (λ v. w.joined v right_rest) (whole_is (right_of w R s) t b gb ∙ sym (all_wanted (right_of w R s))))
          ∙ ap (λ v. w.joined v (w.joined left_rest right_rest)) (sym (parted From (w.le lo) (λ k. true) (λ k e. above_low w l s lo k f e) (λ k e. refl)))

      takes_left : before w hi s ≡ false
          → w.joined (w.joined (whole_of w a) (w.joined (added w lo hi Upto b) w.none)) (w.joined left_rest (right_shown Upto)) ≡ w.joined (wanted_weight R t lo hi Upto) (w.joined left_rest right_rest)
      takes_left h =
          step_both w l (whole_of w a) (added w lo hi Upto b) (weight_of w (λ k. left_of w R s k && true) (set_before w rs t)) (wanted_weight (right_of w R s) t lo hi Upto) left_rest left_rest right_rest (right_shown Upto)
          (ap (λ v. w.joined v left_rest) (whole_is (left_of w R s) t a ga ∙ sym (all_wanted (left_of w R s)))) (shown_share (right_of w R s) t lo hi Upto b gb)
          ∙ ap (λ v. w.joined v (w.joined left_rest right_rest)) (sym (parted Upto (λ k. true) (λ k. w.le k hi) (λ k e. refl) (λ k e. under_high w l s hi k h e)))

      -- each row of the table of modes
      row : (m : Mode) (c d : Bool) → w.le s lo ≡ c → before w hi s ≡ d
          → w.joined (steps_added w lo hi (count_steps m c d) a b) (w.joined (pending w rs t lo hi (left_of w R s) (shown_pair w t (count_steps m c d) (a, b)).0) (pending w rs t lo hi (right_of w R s) (shown_pair w t (count_steps m c d) (a, b)).1))
          ≡ w.joined (wanted_weight R t lo hi m) (w.joined (pending w rs t lo hi (left_of w R s) a) (pending w rs t lo hi (right_of w R s) b))
      row Between true d f h = goes_right Between (λ k v. l.transitive s lo k f (and_first (w.le lo k) (w.le k hi) v))
      row Between false true f h = goes_left Between (λ k v. le-before_trans w l k hi s (and_second (w.le lo k) (w.le k hi) v) h)
      row Between false false f h = goes_both f h
      row From true d f h = goes_right From (λ k v. l.transitive s lo k f v)
      row From false d f h = takes_right f
      row Upto c true f h = goes_left Upto (λ k v. le-before_trans w l k hi s v h)
      row Upto c false f h = takes_left h

  -- a count that heads the queue of a place takes its steps there
  pub counted_node : (R : K → Bool) (now : ℕ) (p : ℕ) (s : K) (tally : T) (e : Waiter) (q : List Waiter) (a b : Tree K T) (lo hi : K) → Good w rs R now (node p s tally (e ∷ q) a b) → ModeFits w R lo hi e.mode → w.joined (steps_added w lo hi (count_steps e.mode (w.le s lo) (before w hi s)) a b) (pending w rs e.number lo hi R (moved_node w (Count lo hi) (node p s tally (e ∷ q) a b))) ≡ pending w rs e.number lo hi R (node p s tally (e ∷ q) a b)
  counted_node R now p s tally e q a b lo hi g fit =
      in_front w l
      (steps_added w lo hi (count_steps e.mode (w.le s lo) (before w hi s)) a b)
      (wanted_weight R e.number lo hi e.mode)
      (queue_share w rs e.number lo hi R q)
      (w.joined (pending w rs e.number lo hi (left_of w R s) below.0) (pending w rs e.number lo hi (right_of w R s) below.1))
      (w.joined (pending w rs e.number lo hi (left_of w R s) a) (pending w rs e.number lo hi (right_of w R s) b))
      (row R s e.number lo hi a b g.2 g.3 e.mode (w.le s lo) (before w hi s) refl refl)
      ∙ ap (λ v. w.joined (w.joined v (queue_share w rs e.number lo hi R q)) (w.joined (pending w rs e.number lo hi (left_of w R s) a) (pending w rs e.number lo hi (right_of w R s) b)))
      (sym (share_here R lo hi e))
    where
      below : Tree K T × Tree K T
      below = shown_pair w e.number (count_steps e.mode (w.le s lo) (before w hi s)) (a, b)
