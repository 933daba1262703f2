-- What a move leaves to every other request: places, waiting, what a count still adds, ways. Rests on Pairs and Pends.
use Rattle.std.proofs.Common.{◌≡◌, ℕ, Bool, true, false, cond, ◌||◌, eqb, List, [], ◌∷◌, ◌++◌, Some, None, Option, sym, refl, ap, ◌∙◌, ap₂, inl, inr, ⊎_elim}
use Rattle.std.proofs.lemmas.Bool.{ne_eqb, or_from, or_parts}
use Rattle.requests.specs.declared.request.Request.{Request}
use Rattle.requests.specs.declared.request.Request.TheVariants.{Enter, Withdraw, LookUp, Count}
use Rattle.rules.specs.declared.mode.Mode.{Mode}
use Rattle.rules.specs.declared.mode.Mode.TheVariants.{Between, From, Upto}
use Rattle.rules.specs.Kinds.{Kinds, Lawful, before}
use Rattle.rules.specs.States.{Waiter}
use Rattle.rules.specs.Queues.{numbered, stands}
use Rattle.rules.specs.Moves.{count_steps}
use Rattle.rules.specs.Carries.{says, later, last_word}
use Rattle.rules.proofs.Bools.{bool_case, bool_map, or_false}
use Rattle.rules.proofs.Weights.{neutral-right}
use Rattle.rules.proofs.Trees.{Tree, bare, leaf, node, inside}
use Rattle.rules.proofs.Goods.{left_of, right_of}
use Rattle.rules.proofs.Joins.{stands_append}
use Rattle.rules.proofs.Children.{waiter, enter_child, withdraw_child, count_child}
use Rattle.rules.proofs.Pairs.{shown_pair, moved_pair, moved_node}
use Rattle.rules.proofs.Pends.{waiting, share, queue_share, pending, OnWay}

-- who is not the one that joins the end of a queue stands there as before
stands_beside : (i : ℕ) (q : List Waiter) (e : Waiter) → (i ≡ e.number → ⊥) → stands i (q ++ (e ∷ [])) ≡ stands i q
stands_beside i q e other =
    stands_append i q e ∙ ap (λ v. stands i q || v) (ne_eqb e.number i (λ h. other (sym h))) ∙ or_false (stands i q)

module _ {K T : Type 0} (w : Kinds K T) where
  -- a relation between trees that request t leaves, whatever it is and whichever tree it meets
  record LeftBy (t : ℕ) (P : Tree K T → Tree K T → Type 0) : Type 0 where
    same : (x : Tree K T) → P x x
    entered : (k : K) (x : Tree K T) → P x (enter_child w t k x)
    withdrawn : (k : K) (x : Tree K T) → P x (withdraw_child w t k x)
    counted : (m : Mode) (x : Tree K T) → P x (count_child w t m x)

  -- then it holds of both trees below a place whose head has moved
  module _ (t : ℕ) (P : Tree K T → Tree K T → Type 0) (h : LeftBy t P) where
    left-counted : (m : Mode) (c d : Bool) (a b : Tree K T) → P a (shown_pair w t (count_steps m c d) (a, b)).0
    left-counted Between true d a b = h.same a
    left-counted Between false true a b = h.counted Between a
    left-counted Between false false a b = h.counted From a
    left-counted From true d a b = h.same a
    left-counted From false d a b = h.counted From a
    left-counted Upto c true a b = h.counted Upto a
    left-counted Upto c false a b = h.same a

    right-counted : (m : Mode) (c d : Bool) (a b : Tree K T) → P b (shown_pair w t (count_steps m c d) (a, b)).1
    right-counted Between true d a b = h.counted Between b
    right-counted Between false true a b = h.same b
    right-counted Between false false a b = h.counted Upto b
    right-counted From true d a b = h.counted From b
    right-counted From false d a b = h.same b
    right-counted Upto c true a b = h.same b
    right-counted Upto c false a b = h.counted Upto b

    left-moved : (r : Request K) (m : Mode) (s : K) (a b : Tree K T) → P a (moved_pair w r t m s a b).0
    left-moved (Enter k) m s a b = bool_case (before w k s) (λ c. P a (cond {A = Tree K T × Tree K T} c (enter_child w t k a, b) (a, enter_child w t k b)).0) (h.entered k a) (h.same a)
    left-moved (Withdraw k) m s a b = bool_case (before w k s) (λ c. P a (cond {A = Tree K T × Tree K T} c (withdraw_child w t k a, b) (a, withdraw_child w t k b)).0) (h.withdrawn k a) (h.same a)
    left-moved (LookUp k) m s a b = h.same a
    left-moved (Count lo hi) m s a b = left-counted m (w.le s lo) (before w hi s) a b

    right-moved : (r : Request K) (m : Mode) (s : K) (a b : Tree K T) → P b (moved_pair w r t m s a b).1
    right-moved (Enter k) m s a b = bool_case (before w k s) (λ c. P b (cond {A = Tree K T × Tree K T} c (enter_child w t k a, b) (a, enter_child w t k b)).1) (h.same b) (h.entered k b)
    right-moved (Withdraw k) m s a b = bool_case (before w k s) (λ c. P b (cond {A = Tree K T × Tree K T} c (withdraw_child w t k a, b) (a, withdraw_child w t k b)).1) (h.same b) (h.withdrawn k b)
    right-moved (LookUp k) m s a b = h.same b
    right-moved (Count lo hi) m s a b = right-counted m (w.le s lo) (before w hi s) a b

  -- no place is lost
  pub grown_enter : (t : ℕ) (k : K) (x : Tree K T) (i : ℕ) → inside i (enter_child w t k x) ≡ false → inside i x ≡ false
  grown_enter t k bare i e = refl
  grown_enter t k (leaf j) i e = refl
  grown_enter t k (node f s tally q a b) i e = e

  pub grown_withdraw : (t : ℕ) (k : K) (x : Tree K T) (i : ℕ) → inside i (withdraw_child w t k x) ≡ false → inside i x ≡ false
  grown_withdraw t k bare i e = refl
  grown_withdraw t k (leaf j) i e = refl
  grown_withdraw t k (node f s tally q a b) i e = e

  pub grown_count : (t : ℕ) (m : Mode) (x : Tree K T) (i : ℕ) → inside i (count_child w t m x) ≡ false → inside i x ≡ false
  grown_count t m bare i e = refl
  grown_count t m (leaf j) i e = refl
  grown_count t m (node f s tally q a b) i e = e

  grown_left : (t i : ℕ) → LeftBy t (λ x y. inside i y ≡ false → inside i x ≡ false)
  grown_left t i = record {
    same = λ x e. e;
    entered = λ k x. grown_enter t k x i;
    withdrawn = λ k x. grown_withdraw t k x i;
    counted = λ m x. grown_count t m x i;
  }

  pub grown_node : (r : Request K) (p : ℕ) (s : K) (tally : T) (q : List Waiter) (a b : Tree K T) (i : ℕ) → inside i (moved_node w r (node p s tally q a b)) ≡ false → inside i (node p s tally q a b) ≡ false
  grown_node r p s tally [] a b i e = e
  grown_node r p s tally (x ∷ q) a b i e =
      let c = (moved_pair w r x.number x.mode s a b).0 in
      let d = (moved_pair w r x.number x.mode s a b).1 in
      let below = (or_parts (eqb i p) (inside i c || inside i d) e).1 in
      let one = left-moved x.number (λ y z. inside i z ≡ false → inside i y ≡ false) (grown_left x.number i) r x.mode s a b (or_parts (inside i c) (inside i d) below).0 in
      let two = right-moved x.number (λ y z. inside i z ≡ false → inside i y ≡ false) (grown_left x.number i) r x.mode s a b (or_parts (inside i c) (inside i d) below).1 in
      or_from (eqb i p) (inside i a || inside i b) (or_parts (eqb i p) (inside i c || inside i d) e).0 (or_from (inside i a) (inside i b) one two)

  -- every other request waits as before
  pub waits_enter : (t : ℕ) (k : K) (x : Tree K T) (i : ℕ) → (i ≡ t → ⊥) → waiting i (enter_child w t k x) ≡ waiting i x
  waits_enter t k bare i other = refl
  waits_enter t k (leaf j) i other = refl
  waits_enter t k (node f s tally q a b) i other = ap (λ v. v || (waiting i a || waiting i b)) (stands_beside i q (waiter t Between) other)

  pub waits_withdraw : (t : ℕ) (k : K) (x : Tree K T) (i : ℕ) → (i ≡ t → ⊥) → waiting i (withdraw_child w t k x) ≡ waiting i x
  waits_withdraw t k bare i other = refl
  waits_withdraw t k (leaf j) i other = refl
  waits_withdraw t k (node f s tally q a b) i other = ap (λ v. v || (waiting i a || waiting i b)) (stands_beside i q (waiter t Between) other)

  pub waits-count : (t : ℕ) (m : Mode) (x : Tree K T) (i : ℕ) → (i ≡ t → ⊥) → waiting i (count_child w t m x) ≡ waiting i x
  waits-count t m bare i other = refl
  waits-count t m (leaf j) i other = refl
  waits-count t m (node f s tally q a b) i other = ap (λ v. v || (waiting i a || waiting i b)) (stands_beside i q (waiter t m) other)

  waits-left : (t i : ℕ) → (i ≡ t → ⊥) → LeftBy t (λ x y. waiting i y ≡ waiting i x)
  waits-left t i other = record {
    same = λ x. refl;
    entered = λ k x. waits_enter t k x i other;
    withdrawn = λ k x. waits_withdraw t k x i other;
    counted = λ m x. waits-count t m x i other;
  }

  pub waits_node : (r : Request K) (p : ℕ) (s : K) (tally : T) (e : Waiter) (q : List Waiter) (a b : Tree K T) (i : ℕ) → (i ≡ e.number → ⊥) → waiting i (moved_node w r (node p s tally (e ∷ q) a b)) ≡ waiting i (node p s tally (e ∷ q) a b)
  waits_node r p s tally e q a b i other =
      let one = left-moved e.number (λ y z. waiting i z ≡ waiting i y) (waits-left e.number i other) r e.mode s a b in
      let two = right-moved e.number (λ y z. waiting i z ≡ waiting i y) (waits-left e.number i other) r e.mode s a b in
      let gone = ne_eqb e.number i (λ h. other (sym h)) in
      ap₂ (λ u v. stands i q || (u || v)) one two ∙ ap (λ v. (v || stands i q) || (waiting i a || waiting i b)) (sym gone)

module _ {K T : Type 0} (w : Kinds K T) (l : Lawful w) (rs : List (Request K)) where
  -- what another request adds is nothing to this count
  share_other : (i : ℕ) (lo hi : K) (R : K → Bool) (e : Waiter) → (i ≡ e.number → ⊥) → share w rs i lo hi R e ≡ w.none
  share_other i lo hi R e other = let gone = ne_eqb e.number i (λ h. other (sym h)) in rw gone

  pub queue_share_append : (i : ℕ) (lo hi : K) (R : K → Bool) (q : List Waiter) (e : Waiter) → queue_share w rs i lo hi R (q ++ (e ∷ [])) ≡ w.joined (queue_share w rs i lo hi R q) (share w rs i lo hi R e)
  queue_share_append i lo hi R [] e = l.commutative (share w rs i lo hi R e) w.none
  queue_share_append i lo hi R (x ∷ q) e =
      ap (w.joined (share w rs i lo hi R x)) (queue_share_append i lo hi R q e)
      ∙ sym (l.associative (share w rs i lo hi R x) (queue_share w rs i lo hi R q) (share w rs i lo hi R e))

  -- one more at the end, with another number
  share_beside : (i : ℕ) (lo hi : K) (R : K → Bool) (q : List Waiter) (e : Waiter) → (i ≡ e.number → ⊥) → queue_share w rs i lo hi R (q ++ (e ∷ [])) ≡ queue_share w rs i lo hi R q
  share_beside i lo hi R q e other =
      queue_share_append i lo hi R q e ∙ ap (w.joined (queue_share w rs i lo hi R q)) (share_other i lo hi R e other) ∙ neutral-right w l (queue_share w rs i lo hi R q)

  pending_beside : (i : ℕ) (lo hi : K) (R : K → Bool) (f : ℕ) (s : K) (old tally : T) (q : List Waiter) (e : Waiter) (a b : Tree K T) → (i ≡ e.number → ⊥)
      → pending w rs i lo hi R (node f s tally (q ++ (e ∷ [])) a b) ≡ pending w rs i lo hi R (node f s old q a b)
  pending_beside i lo hi R f s old tally q e a b other =
      ap (λ v. w.joined v (w.joined (pending w rs i lo hi (left_of w R s) a) (pending w rs i lo hi (right_of w R s) b))) (share_beside i lo hi R q e other)

  -- what a count still has to add stays, when another request moves
  pub pending_enter : (t : ℕ) (k : K) (x : Tree K T) (i : ℕ) (lo hi : K) (R : K → Bool) → (i ≡ t → ⊥) → pending w rs i lo hi R (enter_child w t k x) ≡ pending w rs i lo hi R x
  pending_enter t k bare i lo hi R other = refl
  pending_enter t k (leaf j) i lo hi R other = l.neutral (w.joined w.none w.none) ∙ l.neutral w.none
  pending_enter t k (node f s tally q a b) i lo hi R other = pending_beside i lo hi R f s tally (w.joined tally (w.weighed k)) q (waiter t Between) a b other

  pub pending_withdraw : (t : ℕ) (k : K) (x : Tree K T) (i : ℕ) (lo hi : K) (R : K → Bool) → (i ≡ t → ⊥) → pending w rs i lo hi R (withdraw_child w t k x) ≡ pending w rs i lo hi R x
  pending_withdraw t k bare i lo hi R other = refl
  pending_withdraw t k (leaf j) i lo hi R other = refl
  pending_withdraw t k (node f s tally q a b) i lo hi R other = pending_beside i lo hi R f s tally (w.joined tally (w.opposed (w.weighed k))) q (waiter t Between) a b other

  pub pending_count : (t : ℕ) (m : Mode) (x : Tree K T) (i : ℕ) (lo hi : K) (R : K → Bool) → (i ≡ t → ⊥) → pending w rs i lo hi R (count_child w t m x) ≡ pending w rs i lo hi R x
  pending_count t m bare i lo hi R other = refl
  pending_count t m (leaf j) i lo hi R other = refl
  pending_count t m (node f s tally q a b) i lo hi R other = pending_beside i lo hi R f s tally tally q (waiter t m) a b other

  pending_left : (t i : ℕ) (lo hi : K) (R : K → Bool) → (i ≡ t → ⊥) → LeftBy w t (λ x y. pending w rs i lo hi R y ≡ pending w rs i lo hi R x)
  pending_left t i lo hi R other = record {
    same = λ x. refl;
    entered = λ k x. pending_enter t k x i lo hi R other;
    withdrawn = λ k x. pending_withdraw t k x i lo hi R other;
    counted = λ m x. pending_count t m x i lo hi R other;
  }

  pub pending_node : (r : Request K) (p : ℕ) (s : K) (tally : T) (e : Waiter) (q : List Waiter) (a b : Tree K T) (i : ℕ) (lo hi : K) (R : K → Bool) → (i ≡ e.number → ⊥) → pending w rs i lo hi R (moved_node w r (node p s tally (e ∷ q) a b)) ≡ pending w rs i lo hi R (node p s tally (e ∷ q) a b)
  pending_node r p s tally e q a b i lo hi R other =
      let one = left-moved w e.number (λ y z. pending w rs i lo hi (left_of w R s) z ≡ pending w rs i lo hi (left_of w R s) y) (pending_left e.number i lo hi (left_of w R s) other) r e.mode s a b in
      let two = right-moved w e.number (λ y z. pending w rs i lo hi (right_of w R s) z ≡ pending w rs i lo hi (right_of w R s) y) (pending_left e.number i lo hi (right_of w R s) other) r e.mode s a b in
      let here : queue_share w rs i lo hi R q ≡ queue_share w rs i lo hi R (e ∷ q) =
      sym (ap (λ v. w.joined v (queue_share w rs i lo hi R q)) (share_other i lo hi R e other) ∙ l.neutral (queue_share w rs i lo hi R q)) in
      ap₂ (λ u v. w.joined (queue_share w rs i lo hi R q) (w.joined u v)) one two
      ∙ ap (λ v. w.joined v (w.joined (pending w rs i lo hi (left_of w R s) a) (pending w rs i lo hi (right_of w R s) b))) here

module _ {K T : Type 0} (w : Kinds K T) (rs : List (Request K)) where
  -- what the request of that number says of a key
  abbrev pub word_of : K → ℕ → Option Bool
  word_of k t = elim (numbered rs t) [ None ↦ None | Some r ↦ says w k r ]

  pub word_is : (k : K) (t : ℕ) (r : Request K) → numbered rs t ≡ Some r → word_of k t ≡ says w k r
  word_is k t r num = ap (λ o. elim o [ None ↦ None | Some x ↦ says w k x ]) num

  -- where nothing was said, both were silent
  later-none : (a b : Option Bool) → later a b ≡ None → (a ≡ None) × (b ≡ None)
  later-none None b e = (refl, e)
  later-none (Some d) b e = absurd cc

  -- a queue that says nothing of a key says nothing with a silent request at its end
  pub last_word_silent : (k : K) (q : List Waiter) (e : Waiter) → last_word w rs k q ≡ None → word_of k e.number ≡ None → last_word w rs k (q ++ (e ∷ [])) ≡ None
  last_word_silent k [] e h n = n
  last_word_silent k (x ∷ q) e h n =
      let both = later-none (last_word w rs k q) (word_of k x.number) h in
      ap₂ later (last_word_silent k q e both.0 n) both.1

  way_beside : (k : K) (i : ℕ) (f : ℕ) (s : K) (old tally : T) (q : List Waiter) (e : Waiter) (a b : Tree K T) → word_of k e.number ≡ None
      → OnWay w rs k i (node f s old q a b) → OnWay w rs k i (node f s tally (q ++ (e ∷ [])) a b)
  way_beside k i f s old tally q e a b n o = ⊎_elim inl (λ h. inr (last_word_silent k q e h.0 n, h.1)) o

  -- ways of a key stay clear when a request that says nothing of it moves
  pub ways_enter : (t : ℕ) (j : K) (x : Tree K T) (k : K) (i : ℕ) → word_of k t ≡ None → OnWay w rs k i x → OnWay w rs k i (enter_child w t j x)
  ways_enter t j bare k i n o = absurd o
  ways_enter t j (leaf x) k i n o = absurd o
  ways_enter t j (node f s tally q a b) k i n o = way_beside k i f s tally (w.joined tally (w.weighed j)) q (waiter t Between) a b n o

  pub ways_withdraw : (t : ℕ) (j : K) (x : Tree K T) (k : K) (i : ℕ) → word_of k t ≡ None → OnWay w rs k i x → OnWay w rs k i (withdraw_child w t j x)
  ways_withdraw t j bare k i n o = absurd o
  ways_withdraw t j (leaf x) k i n o = absurd o
  ways_withdraw t j (node f s tally q a b) k i n o = way_beside k i f s tally (w.joined tally (w.opposed (w.weighed j))) q (waiter t Between) a b n o

  pub ways_count : (t : ℕ) (m : Mode) (x : Tree K T) (k : K) (i : ℕ) → word_of k t ≡ None → OnWay w rs k i x → OnWay w rs k i (count_child w t m x)
  ways_count t m bare k i n o = absurd o
  ways_count t m (leaf x) k i n o = absurd o
  ways_count t m (node f s tally q a b) k i n o = way_beside k i f s tally tally q (waiter t m) a b n o

  ways_left : (t : ℕ) (k : K) (i : ℕ) → word_of k t ≡ None → LeftBy w t (λ x y. OnWay w rs k i x → OnWay w rs k i y)
  ways_left t k i n = record {
    same = λ x o. o;
    entered = λ j x. ways_enter t j x k i n;
    withdrawn = λ j x. ways_withdraw t j x k i n;
    counted = λ m x. ways_count t m x k i n;
  }

  pub ways_node : (r : Request K) (p : ℕ) (s : K) (tally : T) (e : Waiter) (q : List Waiter) (a b : Tree K T) (k : K) (i : ℕ) → numbered rs e.number ≡ Some r → OnWay w rs k i (node p s tally (e ∷ q) a b) → OnWay w rs k i (moved_node w r (node p s tally (e ∷ q) a b))
  ways_node r p s tally e q a b k i num o =
      ⊎_elim inl
      (λ h.
      let both = later-none (last_word w rs k q) (word_of k e.number) h.0 in
      inr (
        both.0,
        bool_map (before w k s)
            (left-moved w e.number (λ x y. OnWay w rs k i x → OnWay w rs k i y) (ways_left e.number k i both.1) r e.mode s a b)
            (right-moved w e.number (λ x y. OnWay w rs k i x → OnWay w rs k i y) (ways_left e.number k i both.1) r e.mode s a b)
            h.1,
      ))
      o
