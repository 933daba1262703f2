-- A move at a place that is made: what it leaves of the place and all below it. Rests on Meets, Stepped, Sames and Shares.
use Rattle.std.proofs.Common.{◌≡◌, ℕ, suc, ◌≤◌, Bool, true, false, cond, ◌||◌, eqb, ◌⊎◌, List, [], ◌∷◌, length, Some, Option, sym, refl, ap, ◌∙◌, subst, inl, inr, ⊎_elim, true≢false, arith}
use Rattle.std.proofs.lemmas.Bool.{cases_eq, false_from_ne_true, ne_eqb, or_from, or_left, or_right}
use Rattle.requests.specs.declared.answer.Answer.TheVariants as answer
use Rattle.requests.specs.declared.request.Request.{Request}
use Rattle.requests.specs.declared.request.Request.TheVariants.{Enter, Withdraw, LookUp, Count}
use Rattle.rules.specs.Kinds.{Kinds, Lawful, before}
use Rattle.rules.specs.Plain.{answered, set_before}
use Rattle.rules.specs.States.{State, Slot, Place, Waiter, empty}
use Rattle.rules.specs.Queues.{numbered, behind}
use Rattle.rules.specs.Changes.{with_queue, with_place, with_answer}
use Rattle.rules.specs.Moves.{Step, Side, on_left, on_right, slot_on, with_slot_on, side_of, is_present, slot_for, enter_at, withdraw_at, count_steps, stepped_all, moved}
use Rattle.rules.proofs.Bools.{both_true}
use Rattle.rules.proofs.Befores.{was}
use Rattle.rules.proofs.Trees.{Tree, bare, leaf, node, slot_of, inside, drawn_place, Drawn}
use Rattle.rules.proofs.Goods.{Over, left_of, right_of, ModeFits, Good}
use Rattle.rules.proofs.Insides.{inside_maker, inside_over, makers_apart}
use Rattle.rules.proofs.Children.{enter_child, withdraw_child}
use Rattle.rules.proofs.Pairs.{shown_pair, moved_node, moved_good}
use Rattle.rules.proofs.Pends.{waiting, pending}
use Rattle.rules.proofs.Alter.{Changed}
use Rattle.rules.proofs.Puts.{put-here, put_other, drawn-put-queue}
use Rattle.rules.proofs.Hangs.{topped, topped_inside, picked, other, hung, DrawnAnew, anew, anew_side}
use Rattle.rules.proofs.Touches.{top_left, top_right}
use Rattle.rules.proofs.Meets.{Writes, Meets, entered, withdrawn, entered_is, withdrawn_is, enter_meets, withdraw_meets}
use Rattle.rules.proofs.Shares.{steps_added, counted_node}
use Rattle.rules.proofs.Shows.{TopOnce, TopAway, Counts, slot_pair_left, slot_pair_right, topped_pair_left, topped_pair_right}
use Rattle.rules.proofs.Stepped.{steps_leave}
use Rattle.rules.proofs.Sames.{grown_node, waits_node, pending_node, ways_node}
use Rattle.rules.proofs.Effects.{slot_for-made, with_slot_for-made, count_at-made}

module _ {K T : Type 0} (w : Kinds K T) where
  -- a request that is no count bears the plain set's answer
  abbrev pub Finishes : State K T → ℕ → Request K → Type 0
  Finishes s t (Enter k) = s.answer t ≡ Some (answered w (Enter k) (set_before w s.requests t))
  Finishes s t (Withdraw k) = s.answer t ≡ Some (answered w (Withdraw k) (set_before w s.requests t))
  Finishes s t (LookUp k) = s.answer t ≡ Some (answered w (LookUp k) (set_before w s.requests t))
  Finishes s t (Count lo hi) = Unit {0}

-- the slot on a side is that of the tree there
slot_picked : {K T : Type 0} (σ : Side) (s : K) (v : T) (a b : Tree K T) → slot_on (drawn_place s v a b) σ ≡ slot_of (picked σ a b)
slot_picked on_left s v a b = refl
slot_picked on_right s v a b = refl

waiting_hung : {K T : Type 0} (σ : Side) (p : ℕ) (s : K) (v : T) (q : List Waiter) (a b c : Tree K T) (i : ℕ) → waiting i c ≡ true → waiting i (hung σ p s v q a b c) ≡ true
waiting_hung on_left p s v q a b c i e = or_right _ _ (or_left (waiting i c) (waiting i b) e)
waiting_hung on_right p s v q a b c i e = or_right _ _ (or_right (waiting i a) (waiting i c) e)

drawn_other : {K T : Type 0} (σ : Side) (pl : ℕ → Option (Place K T)) (qu : ℕ → List Waiter) (a b : Tree K T) → Drawn pl qu a → Drawn pl qu b → Drawn pl qu (other σ a b)
drawn_other on_left pl qu a b da db = db
drawn_other on_right pl qu a b da db = da

drawn_picked : {K T : Type 0} (σ : Side) (pl : ℕ → Option (Place K T)) (qu : ℕ → List Waiter) (a b : Tree K T) → Drawn pl qu a → Drawn pl qu b → Drawn pl qu (picked σ a b)
drawn_picked on_left pl qu a b da db = da
drawn_picked on_right pl qu a b da db = db

module _ {K T : Type 0} (w : Kinds K T) (l : Lawful w) (s : State K T) (p₀ : ℕ) (e : Waiter) (q : List Waiter) (line : s.queue (suc p₀) ≡ e ∷ q) where
  -- the head has left the queue
  abbrev pub left_queue : State K T
  left_queue = with_queue s (suc p₀) (behind (s.queue (suc p₀)))

  queue_here : left_queue.queue (suc p₀) ≡ q
  queue_here = put-here s.queue (suc p₀) (behind (s.queue (suc p₀))) ∙ ap behind line

  queue_there : (i : ℕ) → eqb i (suc p₀) ≡ false → left_queue.queue i ≡ s.queue i
  queue_there i h = put_other s.queue (suc p₀) (behind (s.queue (suc p₀))) i h

  -- a move that ends in state s', in the words of Alter
  abbrev pub Leaves : State K T → Request K → (K → Bool) → ℕ → Tree K T → Tree K T → Type 0
  Leaves s' r R now x y =
      Changed w l s.requests s.place s'.place s.queue s'.queue s.counted s'.counted (Finishes w s' e.number r) e.number (suc p₀) R now x y

  module _ (r : Request K) (num : numbered s.requests e.number ≡ Some r) (R : K → Bool) (now : ℕ) (sp : K) (tally : T) (a b : Tree K T)
      (n : now ≤ suc (length s.requests)) (g : Good w s.requests R now (node (suc p₀) sp tally (e ∷ q) a b)) (d : Drawn s.place s.queue (node (suc p₀) sp tally (e ∷ q) a b)) where
    abbrev before_move : Tree K T
    before_move = node (suc p₀) sp tally (e ∷ q) a b

    abbrev after_move : Tree K T
    after_move = moved_node w r before_move

    good_after : Good w s.requests R now after_move
    good_after = moved_good w l s.requests R now (suc p₀) sp tally e q a b g n r num

    -- from what is drawn anew to what Alter wants; `sums` is what is left to say of counts
    leaves : (s' : State K T) → DrawnAnew w s.requests s.place s'.place s.queue s'.queue (suc p₀) R after_move
        → (waiting e.number after_move ≡ true) ⊎ Finishes w s' e.number r
        → ((i : ℕ) (lo hi : K) → numbered s.requests i ≡ Some (Count lo hi) → w.joined (s'.counted i) (pending w s.requests i lo hi R after_move) ≡ w.joined (s.counted i) (pending w s.requests i lo hi R before_move))
        → Leaves s' r R now before_move after_move
    leaves s' new mover sums = record {
      good = good_after;
      drawn = new.drawn;
      slot = refl;
      over = λ lo o. o;
      low = new.low;
      far = new.far;
      out = λ i h. (grown_node w r (suc p₀) sp tally (e ∷ q) a b i h, new.out i h);
      waits = λ i no. waits_node w r (suc p₀) sp tally e q a b i no;
      mover = mover;
      pends = sums;
      ways = λ k i o. ways_node w s.requests r (suc p₀) sp tally e q a b k i num o;
    }

    -- an enter or a withdraw on a side
    module _ (σ : Side) (c : Tree K T) (s' : State K T) (hangs : after_move ≡ hung σ (suc p₀) sp tally q a b c)
        (m : Meets left_queue s' (suc p₀) (λ y. with_place left_queue (suc p₀) (with_slot_on (drawn_place sp tally a b) σ y)) e.number c)
        (changes : s'.answer e.number ≡ Some answer.Changed → Finishes w s' e.number r)
        (no_count : (lo hi : K) → r ≡ Count lo hi → ⊥) where
      scalar_anew : DrawnAnew w s.requests s.place s'.place s.queue s'.queue (suc p₀) R (hung σ (suc p₀) sp tally q a b c)
      scalar_anew =
          anew_side w s.requests s.place s'.place s.queue s'.queue σ (suc p₀) R now sp tally q a b c
          (subst (Good w s.requests R now) hangs good_after)
          (m.place_here ∙ put-here s.place (suc p₀) _)
          (m.queue_here ∙ queue_here)
          m.own
          (drawn_other σ s.place s.queue a b d.2 d.3)
          (λ i u v. let k = m.kept i u v in (k.0, k.1 ∙ queue_there i u))

      scalar_leaves : Leaves s' r R now before_move after_move
      scalar_leaves =
          leaves s' (subst (λ y. DrawnAnew w s.requests s.place s'.place s.queue s'.queue (suc p₀) R y) (sym hangs) scalar_anew)
          (⊎_elim (λ h. inl (ap (waiting e.number) hangs ∙ waiting_hung σ (suc p₀) sp tally q a b c e.number h)) (λ h. inr (changes h)) m.mover)
          (λ i lo hi count.
          let other-one : i ≡ e.number → ⊥ = λ same. no_count lo hi (let both : Some r ≡ Some (Count lo hi) = sym num ∙ ap (numbered s.requests) (sym same) ∙ count in cc) in
          let sums = pending_node w l s.requests r (suc p₀) sp tally e q a b i lo hi R other-one in
          ap (λ f. w.joined (f i) (pending w s.requests i lo hi R after_move)) m.counted ∙ ap (w.joined (s.counted i)) sums)

    -- the place hangs in neither child, so both are drawn as before
    child_drawn : (σ : Side) → Drawn left_queue.place left_queue.queue (picked σ a b)
    child_drawn on_left = drawn-put-queue s.place s.queue a (suc p₀) (behind (s.queue (suc p₀))) (top_left w s.requests R now (suc p₀) sp tally (e ∷ q) a b g) d.2
    child_drawn on_right = drawn-put-queue s.place s.queue b (suc p₀) (behind (s.queue (suc p₀))) (top_right w s.requests R now (suc p₀) sp tally (e ∷ q) a b g) d.3

    abbrev side_region : Side → K → Bool
    side_region on_left = left_of w R sp
    side_region on_right = right_of w R sp

    child_good : (σ : Side) → Good w s.requests (side_region σ) e.number (picked σ a b)
    child_good on_left = g.2
    child_good on_right = g.3

    child_over : (σ : Side) → Over (suc p₀) (picked σ a b)
    child_over on_left = g.1.0
    child_over on_right = g.1.1

    child_top : (σ : Side) → topped (picked σ a b) (suc p₀) ≡ false
    child_top σ =
        false_from_ne_true (topped (picked σ a b) (suc p₀)) (λ h.
        let o = inside_over w s.requests (side_region σ) e.number (picked σ a b) (suc p₀) (suc p₀) (child_good σ) (child_over σ) (topped_inside (picked σ a b) (suc p₀) h) in omega arith)

    head_away : eqb (suc p₀) e.number ≡ false
    head_away = ne_eqb (suc p₀) e.number (λ h. omega (arith, g.0.lined.0))

    child_writes : (σ : Side) → Writes left_queue (suc p₀) (λ y. with_place left_queue (suc p₀) (with_slot_on (drawn_place sp tally a b) σ y)) (slot_of (picked σ a b))
    child_writes σ = record {
      rest = λ y. record { capacity = refl; requests = refl; asker = refl; decision = refl; desk = refl };
      place = λ y i h. put_other s.place (suc p₀) _ i h;
      queue = λ y. refl;
      answer = λ y. refl;
      counted = λ y. refl;
      same_place = put-here s.place (suc p₀) _ ∙ ap Some (again σ) ∙ sym d.0;
      same_slot = refl;
    }
      where
        again : (σ : Side) → with_slot_on (drawn_place sp tally a b) σ (slot_of (picked σ a b)) ≡ drawn_place sp tally a b
        again on_left = refl
        again on_right = refl

    hung_by : (f : Tree K T → Tree K T) (c : Bool) → node (suc p₀) sp tally q (cond {A = Tree K T × Tree K T} c (f a, b) (a, f b)).0 (cond {A = Tree K T × Tree K T} c (f a, b) (a, f b)).1 ≡ hung (cond c on_left on_right) (suc p₀) sp tally q a b (f (picked (cond c on_left on_right) a b))
    hung_by f true = refl
    hung_by f false = refl

-- the three kinds of request that wait at a place
module _ {K T : Type 0} (w : Kinds K T) (l : Lawful w) (s : State K T) (p₀ : ℕ) (e : Waiter) (q : List Waiter) (line : s.queue (suc p₀) ≡ e ∷ q)
    (R : K → Bool) (now : ℕ) (sp : K) (tally : T) (a b : Tree K T)
    (n : now ≤ suc (length s.requests)) (g : Good w s.requests R now (node (suc p₀) sp tally (e ∷ q) a b)) (d : Drawn s.place s.queue (node (suc p₀) sp tally (e ∷ q) a b)) where
  abbrev pub MovesAt : State K T → Request K → Type 0
  MovesAt s' r = Leaves w l s p₀ e q line s' r R now (node (suc p₀) sp tally (e ∷ q) a b) (moved_node w r (node (suc p₀) sp tally (e ∷ q) a b))

  module _ (k : K) (num : numbered s.requests e.number ≡ Some (Enter k)) (absent : was w s.requests e.number k ≡ false)
      (undone : is_present (s.decision e.number) ≡ false) (none : s.queue e.number ≡ []) where
    pub enter_leaves : MovesAt (moved w s (suc p₀) e (Enter k)) (Enter k)
    enter_leaves =
        subst (λ st. MovesAt st (Enter k)) (sym same_state)
        (scalar_leaves w l s p₀ e q line (Enter k) num R now sp tally a b n g d σ (enter_child w e.number k x) s' (hung_by w l s p₀ e q line (Enter k) num R now sp tally a b n g d (enter_child w e.number k) (before w k sp)) meets changes (λ lo hi no. absurd cc))
      where
        σ : Side
        σ = side_of w (drawn_place sp tally a b) k

        x : Tree K T
        x = picked σ a b

        s₁ : State K T
        s₁ = left_queue w l s p₀ e q line

        write : Slot K → State K T
        write y = with_place s₁ (suc p₀) (with_slot_on (drawn_place sp tally a b) σ y)

        s' : State K T
        s' = entered w s.requests s₁ (suc p₀) write e.number k x

        fresh : s₁.queue e.number ≡ []
        fresh = queue_there w l s p₀ e q line e.number (ne_eqb e.number (suc p₀) (λ h. omega (arith, g.0.lined.0))) ∙ none

        drawn : Drawn s₁.place s₁.queue x
        drawn = child_drawn w l s p₀ e q line (Enter k) num R now sp tally a b n g d σ

        meets : Meets s₁ s' (suc p₀) write e.number (enter_child w e.number k x)
        meets = enter_meets w s.requests s₁ (suc p₀) write e.number k (side_region w l s p₀ e q line (Enter k) num R now sp tally a b n g d σ) e.number x (child_writes w l s p₀ e q line (Enter k) num R now sp tally a b n g d σ) (child_good w l s p₀ e q line (Enter k) num R now sp tally a b n g d σ) drawn (child_top w l s p₀ e q line (Enter k) num R now sp tally a b n g d σ) (head_away w l s p₀ e q line (Enter k) num R now sp tally a b n g d) fresh

        changes : s'.answer e.number ≡ Some answer.Changed → Finishes w s' e.number (Enter k)
        changes h = h ∙ sym (ap (λ v. Some (cond v answer.Unchanged answer.Changed)) (ap (λ rs. was w rs e.number k) meets.rest.requests ∙ absent))

        same_state : moved w s (suc p₀) e (Enter k) ≡ s'
        same_state =
            ap (λ v. cond v (with_answer s₁ e.number answer.Unchanged) (enter_at w s₁ e.number (suc p₀) k (slot_for w s₁ (suc p₀) k))) undone
            ∙ ap (enter_at w s₁ e.number (suc p₀) k) (slot_for-made w s₁ p₀ k (drawn_place sp tally a b) d.0 ∙ slot_picked σ sp tally a b)
            ∙ entered_is w s.requests s₁ (suc p₀) write e.number k (λ y. with_slot_for-made w s₁ p₀ k y (drawn_place sp tally a b) d.0) x drawn

  module _ (k : K) (num : numbered s.requests e.number ≡ Some (Withdraw k)) (here : R k ≡ true) (there : was w s.requests e.number k ≡ true)
      (undone : is_present (s.decision e.number) ≡ true) where
    pub withdraw_leaves : MovesAt (moved w s (suc p₀) e (Withdraw k)) (Withdraw k)
    withdraw_leaves =
        subst (λ st. MovesAt st (Withdraw k)) (sym same_state)
        (scalar_leaves w l s p₀ e q line (Withdraw k) num R now sp tally a b n g d σ (withdraw_child w e.number k x) s' (hung_by w l s p₀ e q line (Withdraw k) num R now sp tally a b n g d (withdraw_child w e.number k) (before w k sp)) meets changes (λ lo hi no. absurd cc))
      where
        σ : Side
        σ = side_of w (drawn_place sp tally a b) k

        x : Tree K T
        x = picked σ a b

        s₁ : State K T
        s₁ = left_queue w l s p₀ e q line

        write : Slot K → State K T
        write y = with_place s₁ (suc p₀) (with_slot_on (drawn_place sp tally a b) σ y)

        s' : State K T
        s' = withdrawn w s.requests s₁ (suc p₀) write e.number k x

        drawn : Drawn s₁.place s₁.queue x
        drawn = child_drawn w l s p₀ e q line (Withdraw k) num R now sp tally a b n g d σ

        bare_lacks : (S : K → Bool) (y : Tree K T) → Good w s.requests S e.number y → S k ≡ true → slot_of y ≡ empty → ⊥
        bare_lacks S bare gy h z = true≢false (sym there ∙ gy k h)
        bare_lacks S (leaf j) gy h z = let c : ◌≡◌ {A = ℕ} 0 1 = cc in omega arith
        bare_lacks S (node f sf v qf c d) gy h z = let c : ◌≡◌ {A = ℕ} 0 1 = cc in omega arith

        not-before : before w k sp ≡ false → w.le sp k ≡ true
        not-before f = grind arith

        -- the key is there, so the slot on its side is not empty
        some : (c : Bool) → before w k sp ≡ c → slot_of (picked (cond c on_left on_right) a b) ≡ empty → ⊥
        some true f h = bare_lacks (left_of w R sp) a g.2 (both_true here f) h
        some false f h = bare_lacks (right_of w R sp) b g.3 (both_true here (not-before f)) h

        meets : Meets s₁ s' (suc p₀) write e.number (withdraw_child w e.number k x)
        meets = withdraw_meets w s.requests s₁ (suc p₀) write e.number k (side_region w l s p₀ e q line (Withdraw k) num R now sp tally a b n g d σ) e.number x (child_writes w l s p₀ e q line (Withdraw k) num R now sp tally a b n g d σ) (child_good w l s p₀ e q line (Withdraw k) num R now sp tally a b n g d σ) drawn (child_top w l s p₀ e q line (Withdraw k) num R now sp tally a b n g d σ) (some (before w k sp) refl)

        changes : s'.answer e.number ≡ Some answer.Changed → Finishes w s' e.number (Withdraw k)
        changes h = h ∙ sym (ap (λ v. Some (cond v answer.Changed answer.Unchanged)) (ap (λ rs. was w rs e.number k) meets.rest.requests ∙ there))

        same_state : moved w s (suc p₀) e (Withdraw k) ≡ s'
        same_state =
            ap (λ v. cond v (withdraw_at w s₁ e.number (suc p₀) k (slot_for w s₁ (suc p₀) k)) (with_answer s₁ e.number answer.Unchanged)) undone
            ∙ ap (withdraw_at w s₁ e.number (suc p₀) k) (slot_for-made w s₁ p₀ k (drawn_place sp tally a b) d.0 ∙ slot_picked σ sp tally a b)
            ∙ withdrawn_is w s.requests s₁ (suc p₀) write e.number k (λ y. with_slot_for-made w s₁ p₀ k y (drawn_place sp tally a b) d.0) x drawn

  module _ (lo hi : K) (num : numbered s.requests e.number ≡ Some (Count lo hi)) (fit : ModeFits w R lo hi e.mode) where
    pub count-leaves : MovesAt (moved w s (suc p₀) e (Count lo hi)) (Count lo hi)
    count-leaves = subst (λ st. MovesAt st (Count lo hi)) (sym same_state) (leaves w l s p₀ e q line (Count lo hi) num R now sp tally a b n g d s' new (inr tt) sums)
      where
        s₁ : State K T
        s₁ = left_queue w l s p₀ e q line

        steps : List Step
        steps = count_steps e.mode (w.le sp lo) (before w hi sp)

        s' : State K T
        s' = stepped_all w s₁ e.number lo hi (drawn_place sp tally a b) steps

        same_state : moved w s (suc p₀) e (Count lo hi) ≡ s'
        same_state = count_at-made w s₁ e.number p₀ lo hi e.mode (drawn_place sp tally a b) d.0

        once : (S : K → Bool) (y : Tree K T) → Good w s.requests S e.number y → TopOnce y
        once S bare gy = tt
        once S (leaf j) gy = tt
        once S (node f sf v qf x y) gy = (top_left w s.requests S e.number f sf v qf x y gy, top_right w s.requests S e.number f sf v qf x y gy)

        away_right : TopAway a b
        away_right i h = false_from_ne_true (inside i b) (λ in_b. makers_apart w s.requests R sp i (inside_maker w s.requests (left_of w R sp) e.number a i g.2 (topped_inside a i h)) (inside_maker w s.requests (right_of w R sp) e.number b i g.3 in_b))

        away_left : TopAway b a
        away_left i h = false_from_ne_true (inside i a) (λ in-a. makers_apart w s.requests R sp i (inside_maker w s.requests (left_of w R sp) e.number a i g.2 in-a) (inside_maker w s.requests (right_of w R sp) e.number b i g.3 (topped_inside b i h)))

        left-drawn : Drawn s₁.place s₁.queue a
        left-drawn = child_drawn w l s p₀ e q line (Count lo hi) num R now sp tally a b n g d on_left

        right-drawn : Drawn s₁.place s₁.queue b
        right-drawn = child_drawn w l s p₀ e q line (Count lo hi) num R now sp tally a b n g d on_right

        did : Counts w s₁ s' e.number (steps_added w lo hi steps a b) (λ i. topped a i || topped b i) × Drawn s'.place s'.queue (shown_pair w e.number steps (a, b)).0 × Drawn s'.place s'.queue (shown_pair w e.number steps (a, b)).1
        did = steps_leave w l e.number lo hi (drawn_place sp tally a b) steps s₁ a b refl refl (once (left_of w R sp) a g.2) (once (right_of w R sp) b g.3) away_right away_left left-drawn right-drawn

        new : DrawnAnew w s.requests s.place s'.place s.queue s'.queue (suc p₀) R (moved_node w (Count lo hi) (node (suc p₀) sp tally (e ∷ q) a b))
        new = anew w s.requests s.place s'.place s.queue s'.queue (suc p₀) R now sp tally q (shown_pair w e.number steps (a, b)).0 (shown_pair w e.number steps (a, b)).1
            (good_after w l s p₀ e q line (Count lo hi) num R now sp tally a b n g d)
            (ap (λ f. f (suc p₀)) did.0.place ∙ d.0 ∙ ap (λ z. Some (record { split = sp; left = z; right = slot_of b; tally = tally })) (sym (slot_pair_left w e.number steps a b)) ∙ ap (λ z. Some (record { split = sp; left = slot_of (shown_pair w e.number steps (a, b)).0; right = z; tally = tally })) (sym (slot_pair_right w e.number steps a b)))
            (did.0.queue (suc p₀) (or_from (topped a (suc p₀)) (topped b (suc p₀)) (child_top w l s p₀ e q line (Count lo hi) num R now sp tally a b n g d on_left) (child_top w l s p₀ e q line (Count lo hi) num R now sp tally a b n g d on_right)) ∙ queue_here w l s p₀ e q line)
            did.1 did.2
            (λ i u c₁ c₂. (ap (λ f. f i) did.0.place, did.0.queue i (or_from (topped a i) (topped b i) (sym (topped_pair_left w e.number steps a b i) ∙ c₁) (sym (topped_pair_right w e.number steps a b i) ∙ c₂)) ∙ queue_there w l s p₀ e q line i u))

        sums : (i : ℕ) (x y : K) → numbered s.requests i ≡ Some (Count x y) → w.joined (s'.counted i) (pending w s.requests i x y R (moved_node w (Count lo hi) (node (suc p₀) sp tally (e ∷ q) a b))) ≡ w.joined (s.counted i) (pending w s.requests i x y R (node (suc p₀) sp tally (e ∷ q) a b))
        sums i x y count =
            ⊎_elim
            (λ same.
            let both : Some (Count lo hi) ≡ Some (Count x y) = sym num ∙ ap (numbered s.requests) (sym same) ∙ count in
            let first : lo ≡ x = cc in
            let second : hi ≡ y = cc in
            subst (λ j. Adds j x y) (sym same) (subst (λ v. Adds e.number v y) first (subst (λ v. Adds e.number lo v) second own)))
            (λ differs.
            ap (λ v. w.joined v (pending w s.requests i x y R after)) (did.0.others i (ne_eqb i e.number differs))
            ∙ ap (w.joined (s.counted i)) (pending_node w l s.requests (Count lo hi) (suc p₀) sp tally e q a b i x y R differs))
            (cases_eq i e.number)
          where
            after : Tree K T
            after = moved_node w (Count lo hi) (node (suc p₀) sp tally (e ∷ q) a b)

            Adds : ℕ → K → K → Type 0
            Adds j u v = w.joined (s'.counted j) (pending w s.requests j u v R after) ≡ w.joined (s.counted j) (pending w s.requests j u v R (node (suc p₀) sp tally (e ∷ q) a b))

            own : Adds e.number lo hi
            own =
                ap (λ v. w.joined v (pending w s.requests e.number lo hi R after)) did.0.tally
                ∙ l.associative (s.counted e.number) (steps_added w lo hi steps a b) (pending w s.requests e.number lo hi R after)
                ∙ ap (w.joined (s.counted e.number)) (counted_node w l s.requests R now (suc p₀) sp tally e q a b lo hi g fit)
