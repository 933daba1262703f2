-- Each kind of request leaving the gate. Rests on Gates, Meets, Shows and Shares.
use Rattle.std.proofs.Common.{◌≡◌, ℕ, suc, ◌<◌, Bool, true, false, cond, ◌&&◌, ◌||◌, eqb, List, [], ◌∷◌, length, is_some, Some, None, sym, refl, ap, ◌∙◌, subst, ⊎_elim, true≢false, arith}
use Rattle.std.proofs.lemmas.Bool.{cases_eq, false_from_ne_true, ne_eqb, or_parts}
use Rattle.requests.specs.declared.answer.Answer.{Answer}
use Rattle.requests.specs.declared.answer.Answer.TheVariants as answer
use Rattle.requests.specs.declared.request.Request.{Request}
use Rattle.requests.specs.declared.request.Request.TheVariants.{Enter, Withdraw, LookUp, Count}
use Rattle.rules.specs.declared.mode.Mode.{Mode}
use Rattle.rules.specs.declared.mode.Mode.TheVariants.{Between}
use Rattle.rules.specs.Kinds.{Kinds, Lawful, same}
use Rattle.rules.specs.Plain.{set_before, weight_of, within}
use Rattle.rules.specs.States.{State, Waiter, empty}
use Rattle.rules.specs.Queues.{numbered, stands, behind}
use Rattle.rules.specs.Changes.{with_queue, with_answer, with_gate}
use Rattle.rules.specs.Moves.{wanted, is_present, enter_at, withdraw_at, shown, moved, acted}
use Rattle.rules.specs.Carries.{sought}
use Rattle.rules.proofs.Order.{same_eq}
use Rattle.rules.proofs.Weights.{neutral-right}
use Rattle.rules.proofs.Times.{told}
use Rattle.rules.proofs.Befores.{was, Unmoved, Still, was_next, unmoved_silent}
use Rattle.rules.proofs.Trees.{Tree, bare, leaf, node, slot_of, inside, Drawn}
use Rattle.rules.proofs.Goods.{Over, left_of, right_of, Good}
use Rattle.rules.proofs.Children.{enter_child, withdraw_child, count_child, child_stays, child_entered, child_withdrawn, child_counted}
use Rattle.rules.proofs.Insides.{inside_over}
use Rattle.rules.proofs.Pairs.{over_enter, over_withdraw, over_count}
use Rattle.rules.proofs.Pends.{waiting, queue_share, pending}
use Rattle.rules.proofs.Puts.{put-here, put_other, drawn-put-queue}
use Rattle.rules.proofs.Hangs.{topped, topped_inside}
use Rattle.rules.proofs.Touches.{top_left, top_right}
use Rattle.rules.proofs.Meets.{Writes, Meets, entered, withdrawn, entered_is, withdrawn_is, enter_meets, withdraw_meets}
use Rattle.rules.proofs.Shares.{added, shown_share}
use Rattle.rules.proofs.Shows.{TopOnce, Counts, slot-count, shown_counts, shown-drawn}
use Rattle.rules.proofs.Sames.{grown_enter, grown_withdraw, grown_count, waits_enter, waits_withdraw, waits-count, pending_enter, pending_withdraw, pending_count}
use Rattle.rules.proofs.Unmade.{inside_before}
use Rattle.rules.proofs.Visits.{waiting-before}
use Rattle.rules.proofs.Falls.{Stays, stays_same, stays_enter, stays_withdraw, stays_count}
use Rattle.rules.proofs.Holds.{InTurn, Everywhere, Bears, Holds}
use Rattle.rules.proofs.Gates.{Passes, passed, passed_by}
use Rattle.rules.proofs.MovedBy.{MovedBy}

module _ {K T : Type 0} (w : Kinds K T) (l : Lawful w) (s : State K T) (x : Tree K T) (time : ℕ) (h : Holds w s.requests s x time)
    (r : Request K) (num : numbered s.requests time ≡ Some r) where
  abbrev rs : List (Request K)
  rs = s.requests

  abbrev all : K → Bool
  all = Everywhere w s.requests

  abbrev s₁ : State K T
  s₁ = with_queue s 0 (behind (s.queue 0))

  no_gate : inside 0 x ≡ false
  no_gate = false_from_ne_true (inside 0 x) (λ e. let o = inside_over w rs all time x 0 0 h.good h.over e in omega arith)

  drawn-left : Drawn s₁.place s₁.queue x
  drawn-left = drawn-put-queue s.place s.queue x 0 (behind (s.queue 0)) no_gate h.drawn

  still_now : Still w rs all (suc time) (suc time)
  still_now i lo hi = absurd (omega arith)

  outside-left : (i : ℕ) → inside i x ≡ false → (s₁.place i ≡ None) × (0 < i → s₁.queue i ≡ [])
  outside-left i out =
      let o = h.others i out in
      (o.0, λ z. put_other s.queue 0 (behind (s.queue 0)) i (ne_eqb i 0 (λ e. omega arith)) ∙ o.1 z)

  not-waiting : waiting time x ≡ false
  not-waiting = false_from_ne_true (waiting time x) (λ e. let b = waiting-before w rs all time x time h.good e in omega arith)

  -- the request is answered at the gate, and the set is not changed by it
  module _ (v : Answer T) (unmoved : (k : K) → Unmoved w rs time k) (right : (lo hi : K) → r ≡ Count lo hi → ⊥) (bears : Bears w rs (with_answer s₁ time v) time r) where
    pub stays_out : Passes w s x time r (with_answer s₁ time v) x
    stays_out = record {
      rooted = h.rooted;
      drawn = drawn-left;
      others = outside-left;
      over = h.over;
      queue = put-here s.queue 0 (behind (s.queue 0));
      good = child_stays w l rs all time (suc time) (omega arith) still_now x (λ k e. unmoved k) h.good;
      answer = λ out. bears;
      waits = λ i other. refl;
      pends = λ i lo hi other. refl;
      counts = λ lo hi is. absurd (right lo hi is);
      stays = stays_same time x;
    }

  -- it meets the tree under the gate
  module _ (s' : State K T) (c : Tree K T) (m : Meets s₁ s' 0 (with_gate s₁) time c) (right : (lo hi : K) → r ≡ Count lo hi → ⊥)
      (good : Good w rs all (suc time) c) (over : Over 0 c) (grown : (i : ℕ) → inside i c ≡ false → inside i x ≡ false)
      (bears : s'.answer time ≡ Some answer.Changed → Bears w rs s' time r)
      (waits : (i : ℕ) → (i ≡ time → ⊥) → waiting i c ≡ waiting i x)
      (pends : (i : ℕ) (lo hi : K) → (i ≡ time → ⊥) → pending w rs i lo hi all c ≡ pending w rs i lo hi all x) (stays : Stays time x c) where
    pub goes_in : Passes w s x time r s' c
    goes_in = record {
      rooted = m.slot_here;
      drawn = m.own;
      others = others;
      over = over;
      queue = m.queue_here ∙ put-here s.queue 0 (behind (s.queue 0));
      good = good;
      answer = λ out. ⊎_elim (λ e. absurd (true≢false (sym e ∙ out))) bears m.mover;
      waits = waits;
      pends = pends;
      counts = λ lo hi is. absurd (right lo hi is);
      stays = stays;
    }
      where
        flat : (i : ℕ) → inside i c ≡ false → topped c i ≡ false
        flat i out = false_from_ne_true (topped c i) (λ e. true≢false (sym (topped_inside c i e) ∙ out))

        others : (i : ℕ) → inside i c ≡ false → (s'.place i ≡ None) × (0 < i → s'.queue i ≡ [])
        others i out =
            let old = outside-left i (grown i out) in
            ⊎_elim
            (λ zero_is. (ap s'.place zero_is ∙ m.place_here ∙ (outside-left 0 no_gate).0, λ z. absurd (omega arith)))
            (λ other. let k = m.kept i (ne_eqb i 0 other) (flat i out) in (k.0 ∙ old.0, λ z. k.1 ∙ old.1 z))
            (cases_eq i 0)

  gate_writes : Writes s₁ 0 (with_gate s₁) (slot_of x)
  gate_writes = record {
    rest = λ y. record { capacity = refl; requests = refl; asker = refl; decision = refl; desk = refl };
    place = λ y i e. refl;
    queue = λ y. refl;
    answer = λ y. refl;
    counted = λ y. refl;
    same_place = refl;
    same_slot = sym h.rooted;
  }

  top_gate : topped x 0 ≡ false
  top_gate = false_from_ne_true (topped x 0) (λ e. true≢false (sym (topped_inside x 0 e) ∙ no_gate))

  gate_apart : eqb 0 time ≡ false
  gate_apart = ne_eqb 0 time (λ e. omega (arith, h.started))

  none_there : s₁.queue time ≡ []
  none_there =
      (outside-left time (false_from_ne_true (inside time x) (λ e. let b = inside_before w rs all time x time h.good e in omega arith))).1 h.started

-- a request that asks for what is already so changes nothing
module _ {K T : Type 0} (w : Kinds K T) (l : Lawful w) (rs : List (Request K)) (t : ℕ) (k : K) where
  settled : (b : Bool) (x : K) → was w rs t k ≡ b → was w rs (suc t) x ≡ told w (cond (same w x k) (Some b) None) (was w rs t x) → Unmoved w rs t x
  settled b x is next = go (same w x k) refl
    where
      go : (c : Bool) → same w x k ≡ c → Unmoved w rs t x
      go true e = next ∙ ap (λ v. told w (cond v (Some b) None) (was w rs t x)) e ∙ sym (ap (was w rs t) (same_eq w l x k e) ∙ is)
      go false e = next ∙ ap (λ v. told w (cond v (Some b) None) (was w rs t x)) e

  pub enter_settled : numbered rs t ≡ Some (Enter k) → was w rs t k ≡ true → (x : K) → Unmoved w rs t x
  enter_settled num is x = settled true x is (was_next w l rs t (Enter k) x num)

  pub withdraw_settled : numbered rs t ≡ Some (Withdraw k) → was w rs t k ≡ false → (x : K) → Unmoved w rs t x
  withdraw_settled num is x = settled false x is (was_next w l rs t (Withdraw k) x num)

-- nothing is pending for who does not wait
module _ {K T : Type 0} (w : Kinds K T) (l : Lawful w) (rs : List (Request K)) where
  queue_share_none : (i : ℕ) (lo hi : K) (R : K → Bool) (q : List Waiter) → stands i q ≡ false → queue_share w rs i lo hi R q ≡ w.none
  queue_share_none i lo hi R [] e = refl
  queue_share_none i lo hi R (x ∷ q) e =
      let away : eqb x.number i ≡ false = (or_parts (eqb x.number i) (stands i q) e).0 in
      let rest = queue_share_none i lo hi R q (or_parts (eqb x.number i) (stands i q) e).1 in
      ap (λ v. w.joined (cond v (weight_of w (λ k. R k && wanted w lo hi x.mode k) (set_before w rs i)) w.none) (queue_share w rs i lo hi R q)) away ∙ l.neutral (queue_share w rs i lo hi R q) ∙ rest

  pub pending_none : (i : ℕ) (lo hi : K) (R : K → Bool) (x : Tree K T) → waiting i x ≡ false → pending w rs i lo hi R x ≡ w.none
  pending_none i lo hi R bare e = refl
  pending_none i lo hi R (leaf k) e = refl
  pending_none i lo hi R (node p s t q a b) e =
      let here = queue_share_none i lo hi R q (or_parts (stands i q) (waiting i a || waiting i b) e).0 in
      let below-here = (or_parts (stands i q) (waiting i a || waiting i b) e).1 in
      let one = pending_none i lo hi (left_of w R s) a (or_parts (waiting i a) (waiting i b) below-here).0 in
      let two = pending_none i lo hi (right_of w R s) b (or_parts (waiting i a) (waiting i b) below-here).1 in
      let zero-zero = l.neutral w.none in
      cc

-- the four kinds
module _ {K T : Type 0} (w : Kinds K T) (l : Lawful w) (s : State K T) (x : Tree K T) (time : ℕ) (h : Holds w s.requests s x time) (m : Mode) where
  abbrev left : State K T
  left = with_queue s 0 (behind (s.queue 0))

  abbrev any : K → Bool
  any = Everywhere w s.requests

  module _ (k : K) (num : numbered s.requests time ≡ Some (LookUp k)) (dec : s.decision time ≡ Some (was w s.requests time k)) where
    look_up_passes : Passes w s x time (LookUp k) (acted w left time 0 m (LookUp k)) x
    look_up_passes =
        stays_out w l s x time h (LookUp k) num (cond (is_present (s.decision time)) answer.Present answer.Absent)
        (λ j. unmoved_silent w l s.requests time (LookUp k) j num refl)
        (λ lo hi is. absurd cc)
        (put-here s.answer time _ ∙ ap (λ d. Some (cond (is_present d) answer.Present answer.Absent)) dec)

  module _ (k : K) (num : numbered s.requests time ≡ Some (Enter k)) (dec : s.decision time ≡ Some (was w s.requests time k)) where
    enter_passes : (b : Bool) → was w s.requests time k ≡ b → (y : Tree K T) × Passes w s x time (Enter k) (acted w left time 0 m (Enter k)) y
    enter_passes true is = (
      x,
      subst (λ st. Passes w s x time (Enter k) st x)
          (sym (ap (λ v. cond v (with_answer left time answer.Unchanged) (enter_at w left time 0 k s.slot)) (ap is_present (dec ∙ ap Some is))))
          (stays_out w l s x time h (Enter k) num answer.Unchanged (enter_settled w l s.requests time k num is) (λ lo hi no_such. absurd cc)
          (put-here s.answer time (Some answer.Unchanged) ∙ sym (ap (λ v. Some (cond v answer.Unchanged answer.Changed)) is))),
    )
    enter_passes false is = (
      enter_child w time k x,
      subst (λ st. Passes w s x time (Enter k) st (enter_child w time k x)) (sym same_state)
          (goes_in w l s x time h (Enter k) num met (enter_child w time k x) meets (λ lo hi no_such. absurd cc)
          (child_entered w l s.requests any time (suc time) (omega arith) (still_now w l s x time h (Enter k) num) k num refl is x h.good)
          (over_enter w 0 time k x h.started h.over) (grown_enter w time k x)
          (λ done. done ∙ sym (ap (λ v. Some (cond v answer.Unchanged answer.Changed)) is))
          (waits_enter w time k x) (λ i lo hi other. pending_enter w l s.requests time k x i lo hi any other) (stays_enter w time k x)),
    )
      where
        met : State K T
        met = entered w s.requests left 0 (with_gate left) time k x

        drawn : Drawn left.place left.queue x
        drawn = drawn-left w l s x time h (Enter k) num

        meets : Meets left met 0 (with_gate left) time (enter_child w time k x)
        meets = enter_meets w s.requests left 0 (with_gate left) time k any time x (gate_writes w l s x time h (Enter k) num) h.good drawn (top_gate w l s x time h (Enter k) num) (gate_apart w l s x time h (Enter k) num) (none_there w l s x time h (Enter k) num)

        same_state : acted w left time 0 m (Enter k) ≡ met
        same_state =
            ap (λ v. cond v (with_answer left time answer.Unchanged) (enter_at w left time 0 k s.slot)) (ap is_present (dec ∙ ap Some is))
            ∙ ap (enter_at w left time 0 k) h.rooted
            ∙ entered_is w s.requests left 0 (with_gate left) time k (λ y. refl) x drawn

  module _ (k : K) (num : numbered s.requests time ≡ Some (Withdraw k)) (dec : s.decision time ≡ Some (was w s.requests time k)) where
    withdraw_passes : (b : Bool) → was w s.requests time k ≡ b → (y : Tree K T) × Passes w s x time (Withdraw k) (acted w left time 0 m (Withdraw k)) y
    withdraw_passes false is = (
      x,
      subst (λ st. Passes w s x time (Withdraw k) st x)
          (sym (ap (λ v. cond v (withdraw_at w left time 0 k s.slot) (with_answer left time answer.Unchanged)) (ap is_present (dec ∙ ap Some is))))
          (stays_out w l s x time h (Withdraw k) num answer.Unchanged (withdraw_settled w l s.requests time k num is) (λ lo hi no_such. absurd cc)
          (put-here s.answer time (Some answer.Unchanged) ∙ sym (ap (λ v. Some (cond v answer.Changed answer.Unchanged)) is))),
    )
    withdraw_passes true is = (
      withdraw_child w time k x,
      subst (λ st. Passes w s x time (Withdraw k) st (withdraw_child w time k x)) (sym same_state)
          (goes_in w l s x time h (Withdraw k) num met (withdraw_child w time k x) meets (λ lo hi no_such. absurd cc)
          (child_withdrawn w l s.requests any time (suc time) (omega arith) (still_now w l s x time h (Withdraw k) num) k num refl is x h.good)
          (over_withdraw w 0 time k x h.over) (grown_withdraw w time k x)
          (λ done. done ∙ sym (ap (λ v. Some (cond v answer.Changed answer.Unchanged)) is))
          (waits_withdraw w time k x) (λ i lo hi other. pending_withdraw w l s.requests time k x i lo hi any other) (stays_withdraw w time k x)),
    )
      where
        met : State K T
        met = withdrawn w s.requests left 0 (with_gate left) time k x

        drawn : Drawn left.place left.queue x
        drawn = drawn-left w l s x time h (Withdraw k) num

        some : (y : Tree K T) → Good w s.requests any time y → slot_of y ≡ empty → ⊥
        some bare g z = true≢false (sym is ∙ g k refl)
        some (leaf j) g z = let c : ◌≡◌ {A = ℕ} 0 1 = cc in omega arith
        some (node f sf v qf c d) g z = let c : ◌≡◌ {A = ℕ} 0 1 = cc in omega arith

        meets : Meets left met 0 (with_gate left) time (withdraw_child w time k x)
        meets = withdraw_meets w s.requests left 0 (with_gate left) time k any time x (gate_writes w l s x time h (Withdraw k) num) h.good drawn (top_gate w l s x time h (Withdraw k) num) (some x h.good)

        same_state : acted w left time 0 m (Withdraw k) ≡ met
        same_state =
            ap (λ v. cond v (withdraw_at w left time 0 k s.slot) (with_answer left time answer.Unchanged)) (ap is_present (dec ∙ ap Some is))
            ∙ ap (withdraw_at w left time 0 k) h.rooted
            ∙ withdrawn_is w s.requests left 0 (with_gate left) time k (λ y. refl) x drawn

  module _ (lo hi : K) (num : numbered s.requests time ≡ Some (Count lo hi)) where
    count_passes : Passes w s x time (Count lo hi) (acted w left time 0 m (Count lo hi)) (count_child w time Between x)
    count_passes = subst (λ st. Passes w s x time (Count lo hi) st (count_child w time Between x)) (sym same_state) record {
      rooted = did.slot ∙ h.rooted ∙ sym (slot-count w time Between x);
      drawn = shown-drawn w l time lo hi left Between x (once x h.good) (drawn-left w l s x time h (Count lo hi) num);
      others = others;
      over = over_count w 0 time Between x h.over;
      queue = did.queue 0 (top_gate w l s x time h (Count lo hi) num) ∙ put-here s.queue 0 (behind (s.queue 0));
      good = child_counted w l s.requests any time (suc time) (omega arith) (still_now w l s x time h (Count lo hi) num) lo hi num Between x (refl, λ z. refl) h.good;
      answer = λ out. tt;
      waits = waits-count w time Between x;
      pends = λ i lo₁ hi₁ other. pending_count w l s.requests time Between x i lo₁ hi₁ any other;
      counts = λ lo₁ hi₁ is. let a : lo ≡ lo₁ = cc in let b : hi ≡ hi₁ = cc in subst (λ v. Adds v hi₁) a (subst (Adds lo) b own);
      stays = stays_count w time Between x;
    }
      where
        after : State K T
        after = shown w left time lo hi Between (slot_of x)

        same_state : acted w left time 0 m (Count lo hi) ≡ after
        same_state = ap (shown w left time lo hi Between) h.rooted

        did : Counts w left after time (added w lo hi Between x) (topped x)
        did = shown_counts w l time lo hi left Between x

        once : (y : Tree K T) → Good w s.requests any time y → TopOnce y
        once bare g = tt
        once (leaf j) g = tt
        once (node f sf v qf c d) g = (top_left w s.requests any time f sf v qf c d g, top_right w s.requests any time f sf v qf c d g)

        flat : (i : ℕ) → inside i x ≡ false → topped x i ≡ false
        flat i out = false_from_ne_true (topped x i) (λ e. true≢false (sym (topped_inside x i e) ∙ out))

        others : (i : ℕ) → inside i (count_child w time Between x) ≡ false → (after.place i ≡ None) × (0 < i → after.queue i ≡ [])
        others i out =
            let inner = grown_count w time Between x i out in
            let old = outside-left w l s x time h (Count lo hi) num i inner in
            (ap (λ f. f i) did.place ∙ old.0, λ z. did.queue i (flat i inner) ∙ old.1 z)

        Adds : K → K → Type 0
        Adds u v = w.joined (after.counted time) (pending w s.requests time u v any (count_child w time Between x)) ≡ weight_of w (within w u v) (set_before w s.requests time)

        own : Adds lo hi
        own =
            ap (λ v. w.joined v (pending w s.requests time lo hi any (count_child w time Between x))) (did.tally ∙ ap (λ v. w.joined v (added w lo hi Between x)) (h.uncounted time (omega arith)) ∙ l.neutral (added w lo hi Between x))
            ∙ shown_share w l s.requests any time lo hi Between x h.good
            ∙ ap (w.joined (weight_of w (within w lo hi) (set_before w s.requests time))) (pending_none w l s.requests time lo hi any x (not-waiting w l s x time h (Count lo hi) num))
            ∙ neutral-right w l (weight_of w (within w lo hi) (set_before w s.requests time))

  -- whichever request leaves the gate, decided if it asks for a decision
  passes : (r : Request K) → numbered s.requests time ≡ Some r → ((k : K) → sought r ≡ Some k → is_some (s.decision time) ≡ true) → (y : Tree K T) × Passes w s x time r (acted w left time 0 m r) y
  passes r num done = by r num (λ k seeks. ⊎_elim (λ d. d) (λ d. absurd (true≢false (sym (done k seeks) ∙ ap is_some d.0))) (h.decided time r k num seeks))
    where
      by : (r : Request K) → numbered s.requests time ≡ Some r → ((k : K) → sought r ≡ Some k → s.decision time ≡ Some (was w s.requests time k)) → (y : Tree K T) × Passes w s x time r (acted w left time 0 m r) y
      by (Enter k) num dec = enter_passes k num (dec k refl) (was w s.requests time k) refl
      by (Withdraw k) num dec = withdraw_passes k num (dec k refl) (was w s.requests time k) refl
      by (LookUp k) num dec = (x, look_up_passes k num (dec k refl))
      by (Count lo hi) num dec = (count_child w time Between x, count_passes lo hi num)

-- a request moves at the gate
pub moves_gate : {K T : Type 0} (w : Kinds K T) (l : Lawful w) (rs : List (Request K)) (x : Tree K T) (time : ℕ) (s : State K T) → Holds w rs s x time
    → (e : Waiter) (q : List Waiter) (r : Request K) → s.queue 0 ≡ e ∷ q → numbered rs e.number ≡ Some r → ((k : K) → sought r ≡ Some k → is_some (s.decision e.number) ≡ true)
    → (y : Tree K T) × Holds w rs (moved w s 0 e r) y (suc time) × MovedBy s (moved w s 0 e r) x y time (suc time) 0 e.number
moves_gate {K = K} {T = T} w l rs x time s h e q r line num done =
    subst (λ rs₁. numbered rs₁ e.number ≡ Some r → (y : Tree K T) × Holds w rs₁ (moved w s 0 e r) y (suc time) × MovedBy s (moved w s 0 e r) x y time (suc time) 0 e.number) h.requests own num
  where
    own : numbered s.requests e.number ≡ Some r → (y : Tree K T) × Holds w s.requests (moved w s 0 e r) y (suc time) × MovedBy s (moved w s 0 e r) x y time (suc time) 0 e.number
    own asked =
        let h₁ = subst (λ rs₁. Holds w rs₁ s x time) (sym h.requests) h in
        let turns : InTurn time (e ∷ q) (suc (length s.requests)) = subst (λ g. InTurn time g (suc (length s.requests))) line h₁.gate in
        let first : e.number ≡ time = turns.0 in
        let through = passes w l s x time h₁ e.mode r (ap (numbered s.requests) (sym first) ∙ asked) (λ k seeks. ap (λ i. is_some (s.decision i)) (sym first) ∙ done k seeks) in
        let pass : Passes w s x time r (moved w s 0 e r) through.0 = subst (λ i. Passes w s x time r (acted w (with_queue s 0 (behind (s.queue 0))) i 0 e.mode r) through.0) (sym first) through.1 in
        (through.0, passed w l s x through.0 time h₁ e q r line asked done (λ z. pass), passed_by w l s x through.0 time h₁ e q r line asked done (λ z. pass))
