-- A request moves at a place of the tree: the invariant holds of the state after it. Rests on Locals, Alter, Unmade and Tames.
use Rattle.std.proofs.Common.{◌≡◌, ℕ, suc, ◌<◌, ◌≤◌, Bool, true, false, cond, eqb, List, [], ◌∷◌, ◌++◌, length, Some, None, Option, sym, refl, ap, ◌∙◌, subst, inl, inr, ⊎_elim, true≢false, arith}
use Rattle.std.proofs.lemmas.Bool.{cases_eq, ne_eqb, or_left}
use Rattle.requests.specs.declared.request.Request.{Request}
use Rattle.requests.specs.declared.request.Request.TheVariants.{Enter, Withdraw, LookUp, Count}
use Rattle.rules.specs.declared.mode.Mode.{Mode}
use Rattle.rules.specs.Kinds.{Kinds, Lawful, before}
use Rattle.rules.specs.Plain.{answered, set_before}
use Rattle.rules.specs.States.{State, Slot, Place, Waiter, empty, holds, leads}
use Rattle.rules.specs.Queues.{numbered, stands, heads, behind}
use Rattle.rules.specs.Changes.{with_queue, with_place}
use Rattle.rules.specs.Moves.{Step, show, add, slot_on, with_slot_on, side_of, with_tally, is_present, slot_for, shown, stepped, stepped_all, count_steps, moved, enter_at, withdraw_at, acted}
use Rattle.rules.specs.Carries.{sought}
use Rattle.rules.proofs.Befores.{was}
use Rattle.rules.proofs.Trees.{Tree, node, inside, Drawn}
use Rattle.rules.proofs.Goods.{WaiterFits, Good}
use Rattle.rules.proofs.Pairs.{moved_node}
use Rattle.rules.proofs.Pends.{waiting}
use Rattle.rules.proofs.Alter.{alter, Changed, altered}
use Rattle.rules.proofs.Puts.{put_other}
use Rattle.rules.proofs.Locals.{Finishes, Leaves, enter_leaves, withdraw_leaves, count-leaves}
use Rattle.rules.proofs.Meets.{Rest}
use Rattle.rules.proofs.Tames.{Tame, tame_acted, heads_grown}
use Rattle.rules.proofs.Unmade.{waiting-at, waiting-unmade}
use Rattle.rules.proofs.Visits.{waiting-before}
use Rattle.rules.proofs.Falls.{falls_moved}
use Rattle.rules.proofs.Holds.{InTurn, Everywhere, Bears, Holds}
use Rattle.rules.proofs.MovedBy.{MovedBy}

pub heads_first : (e : Waiter) (q q' : List Waiter) → q' ≡ e ∷ q → heads e.number q' ≡ true
heads_first e q q' line = ap (heads e.number) line ∙ same e.number
  where
    same : (i : ℕ) → eqb i i ≡ true
    same i = grind arith

heads-stands : (i : ℕ) (q : List Waiter) → heads i q ≡ true → stands i q ≡ true
heads-stands i [] h = h
heads-stands i (e ∷ q) h = or_left (eqb e.number i) (stands i q) h

-- the gate's numbers end where they do
pub in_turn_end : (lo : ℕ) (q : List Waiter) (hi : ℕ) → InTurn lo q hi → lo ≤ hi
in_turn_end lo [] hi d = omega arith
in_turn_end lo (e ∷ q) hi d = let ih = in_turn_end (suc lo) q hi d.1 in omega arith

abbrev SameSlot : {K T : Type 0} → State K T → State K T → Type 0
SameSlot s s' = s'.slot ≡ s.slot

-- no move at a place writes the gate's slot
module _ {K T : Type 0} (w : Kinds K T) (t p : ℕ) where
  slot_by : (s : State K T) (k : K) (z : Slot K) (o : Option (Place K T)) → SameSlot s (elim o [ None ↦ s | Some f ↦ with_place s (suc p) (with_slot_on f (side_of w f k) z) ])
  slot_by s k z None = refl
  slot_by s k z (Some f) = refl

  joined_by : (s : State K T) (i : ℕ) (v : T) (o : Option (Place K T)) → SameSlot s (elim o [ None ↦ s | Some f ↦ with_place s i (with_tally f (w.joined f.tally v)) ])
  joined_by s i v None = refl
  joined_by s i v (Some f) = refl

  enter_slot : (s : State K T) (k : K) (z : Slot K) → (enter_at w s t (suc p) k z).slot ≡ s.slot
  enter_slot s k empty = slot_by s k (holds k) (s.place (suc p))
  enter_slot s k (holds j) = slot_by s k (leads t) (s.place (suc p))
  enter_slot s k (leads f) = joined_by s f (w.weighed k) (s.place f)

  withdraw_slot : (s : State K T) (k : K) (z : Slot K) → (withdraw_at w s t (suc p) k z).slot ≡ s.slot
  withdraw_slot s k empty = refl
  withdraw_slot s k (holds j) = slot_by s k empty (s.place (suc p))
  withdraw_slot s k (leads f) = joined_by s f (w.opposed (w.weighed k)) (s.place f)

  shown-slot : (s : State K T) (lo hi : K) (m : Mode) (z : Slot K) → (shown w s t lo hi m z).slot ≡ s.slot
  shown-slot s lo hi m empty = refl
  shown-slot s lo hi m (holds k) = refl
  shown-slot s lo hi m (leads f) = refl

  steps-slot : (s : State K T) (lo hi : K) (f : Place K T) (xs : List Step) → (stepped_all w s t lo hi f xs).slot ≡ s.slot
  steps-slot s lo hi f [] = refl
  steps-slot s lo hi f (show side m ∷ xs) = steps-slot (shown w s t lo hi m (slot_on f side)) lo hi f xs ∙ shown-slot s lo hi m (slot_on f side)
  steps-slot s lo hi f (add side ∷ xs) = steps-slot (stepped w s t lo hi f (add side)) lo hi f xs

  count-slot : (s : State K T) (lo hi : K) (m : Mode) (o : Option (Place K T)) → SameSlot s (elim o [ None ↦ s | Some f ↦ stepped_all w s t lo hi f (count_steps m (w.le f.split lo) (before w hi f.split)) ])
  count-slot s lo hi m None = refl
  count-slot s lo hi m (Some f) = steps-slot s lo hi f (count_steps m (w.le f.split lo) (before w hi f.split))

  cond-slot : (s a b : State K T) (c : Bool) → a.slot ≡ s.slot → b.slot ≡ s.slot → (cond c a b).slot ≡ s.slot
  cond-slot s a b true u v = u
  cond-slot s a b false u v = v

  slot_stays : (s : State K T) (m : Mode) (r : Request K) → (acted w s t (suc p) m r).slot ≡ s.slot
  slot_stays s m (Enter k) = cond-slot s _ _ (is_present (s.decision t)) refl (enter_slot s k (slot_for w s (suc p) k))
  slot_stays s m (Withdraw k) = cond-slot s _ _ (is_present (s.decision t)) (withdraw_slot s k (slot_for w s (suc p) k)) refl
  slot_stays s m (LookUp k) = refl
  slot_stays s m (Count lo hi) = count-slot s lo hi m (s.place (suc p))

-- answers borne in one state and the next
module _ {K T : Type 0} (w : Kinds K T) where
  pub finishes_bears : (s : State K T) (rs : List (Request K)) (t : ℕ) (r : Request K) → s.requests ≡ rs → Finishes w s t r → Bears w rs s t r
  finishes_bears s rs t (Enter k) same f = f ∙ ap (λ v. Some (answered w (Enter k) (set_before w v t))) same
  finishes_bears s rs t (Withdraw k) same f = f ∙ ap (λ v. Some (answered w (Withdraw k) (set_before w v t))) same
  finishes_bears s rs t (LookUp k) same f = f ∙ ap (λ v. Some (answered w (LookUp k) (set_before w v t))) same
  finishes_bears s rs t (Count lo hi) same f = tt

  pub bears_kept : (rs : List (Request K)) (s s' : State K T) (i : ℕ) (r : Request K) → s'.answer i ≡ s.answer i → Bears w rs s i r → Bears w rs s' i r
  bears_kept rs s s' i (Enter k) same b = same ∙ b
  bears_kept rs s s' i (Withdraw k) same b = same ∙ b
  bears_kept rs s s' i (LookUp k) same b = same ∙ b
  bears_kept rs s s' i (Count lo hi) same b = tt

module _ {K T : Type 0} (w : Kinds K T) (l : Lawful w) (s : State K T) (x : Tree K T) (time : ℕ) (h : Holds w s.requests s x time)
    (p : ℕ) (e : Waiter) (q : List Waiter) (r : Request K) (line : s.queue (suc p) ≡ e ∷ q) (num : numbered s.requests e.number ≡ Some r) where
  abbrev t : ℕ
  t = e.number

  abbrev s' : State K T
  s' = moved w s (suc p) e r

  -- a queue that is not empty is a place's of the tree
  hangs : inside (suc p) x ≡ true
  hangs = go (inside (suc p) x) refl
    where
      go : (b : Bool) → inside (suc p) x ≡ b → inside (suc p) x ≡ true
      go true i = i
      go false i =
          let none = (h.others (suc p) i).1 (omega arith) in
          let z : ◌≡◌ {A = ℕ} 0 1 = clash (sym none ∙ line) in absurd (omega arith)
        where
          clash : [] ≡ (e ∷ q) → ◌≡◌ {A = ℕ} 0 1
          clash c = cc

  waits-here : waiting t x ≡ true
  waits-here = waiting-at s.place s.queue x (suc p) t h.drawn hangs (heads-stands t (s.queue (suc p)) (heads_first e q (s.queue (suc p)) line))

  passed : t < time
  passed = waiting-before w s.requests (Everywhere w s.requests) time x t h.good waits-here

  -- its decision is written, and says what was
  decision_is : (k : K) → sought r ≡ Some k → s.decision t ≡ Some (was w s.requests t k)
  decision_is k seeks = ⊎_elim (λ d. d) (λ none. absurd (let late = none.1 in omega (arith, passed, late))) (h.decided t r k num seeks)

  local : (R : K → Bool) (now : ℕ) (sp : K) (tally : T) (q₀ : List Waiter) (a b : Tree K T) → now ≤ suc (length s.requests) → Good w s.requests R now (node (suc p) sp tally q₀ a b) → Drawn s.place s.queue (node (suc p) sp tally q₀ a b)
      → Changed w l s.requests s.place s'.place s.queue s'.queue s.counted s'.counted (Finishes w s' t r) t (suc p) R now (node (suc p) sp tally q₀ a b) (moved_node w r (node (suc p) sp tally q₀ a b))
  local R now sp tally q₀ a b n g d =
      let same : e ∷ q ≡ q₀ = sym line ∙ d.1 in
      subst (λ q₁. Good w s.requests R now (node (suc p) sp tally q₁ a b) → Drawn s.place s.queue (node (suc p) sp tally q₁ a b) → Changed w l s.requests s.place s'.place s.queue s'.queue s.counted s'.counted (Finishes w s' t r) t (suc p) R now (node (suc p) sp tally q₁ a b) (moved_node w r (node (suc p) sp tally q₁ a b))) same at g d
    where
      by : (r₁ : Request K) → r ≡ r₁ → Good w s.requests R now (node (suc p) sp tally (e ∷ q) a b) → Drawn s.place s.queue (node (suc p) sp tally (e ∷ q) a b) → WaiterFits w s.requests R t e.mode (Some r₁) → Leaves w l s p e q line (moved w s (suc p) e r₁) r₁ R now (node (suc p) sp tally (e ∷ q) a b) (moved_node w r₁ (node (suc p) sp tally (e ∷ q) a b))
      by (Enter k) is g d fit =
          enter_leaves w l s p e q line R now sp tally a b n g d k (num ∙ ap Some is) fit.1 (ap is_present (decision_is k (ap sought is)) ∙ fit.1) ((h.others t (waiting-unmade w s.requests (Everywhere w s.requests) time x t k (num ∙ ap Some is) h.good waits-here)).1 (omega (arith, g.0.lined.0)))
      by (Withdraw k) is g d fit =
          withdraw_leaves w l s p e q line R now sp tally a b n g d k (num ∙ ap Some is) fit.0 fit.1 (ap is_present (decision_is k (ap sought is)) ∙ fit.1)
      by (LookUp k) is g d fit = absurd fit
      by (Count lo hi) is g d fit = count-leaves w l s p e q line R now sp tally a b n g d lo hi (num ∙ ap Some is) fit

      at : Good w s.requests R now (node (suc p) sp tally (e ∷ q) a b) → Drawn s.place s.queue (node (suc p) sp tally (e ∷ q) a b) → Leaves w l s p e q line s' r R now (node (suc p) sp tally (e ∷ q) a b) (moved_node w r (node (suc p) sp tally (e ∷ q) a b))
      at g d = by r refl g d (subst (WaiterFits w s.requests R t e.mode) num g.0.fits.0)

  abbrev y : Tree K T
  y = alter (suc p) (moved_node w r) x

  near : time ≤ suc (length s.requests)
  near = in_turn_end time (s.queue 0) (suc (length s.requests)) h.gate

  change : Changed w l s.requests s.place s'.place s.queue s'.queue s.counted s'.counted (Finishes w s' t r) t (suc p) (Everywhere w s.requests) time x y
  change = altered w l s.requests s.place s'.place s.queue s'.queue s.counted s'.counted (Finishes w s' t r) t (suc p) (moved_node w r) local (Everywhere w s.requests) time x near h.good h.drawn hangs

  tame : Tame t (with_queue s (suc p) (behind (s.queue (suc p)))) s'
  tame = tame_acted w t (with_queue s (suc p) (behind (s.queue (suc p)))) (suc p) e.mode r

  same_slot : s'.slot ≡ s.slot
  same_slot = slot_stays w t p (with_queue s (suc p) (behind (s.queue (suc p)))) e.mode r

  rest : Rest s s'
  rest = record { capacity = tame.rest.capacity; requests = tame.rest.requests; asker = tame.rest.asker; decision = tame.rest.decision; desk = tame.rest.desk }

  bears : (i : ℕ) (r₁ : Request K) → numbered s.requests i ≡ Some r₁ → i < time → waiting i y ≡ false → Bears w s.requests s' i r₁
  bears i r₁ asked lt out =
      ⊎_elim
      (λ same.
      let one : Some r ≡ Some r₁ = sym num ∙ ap (numbered s.requests) (sym same) ∙ asked in
      let is : r ≡ r₁ = cc in
      ⊎_elim
      (λ waits. absurd (true≢false (sym waits ∙ ap (λ j. waiting j y) (sym same) ∙ out)))
      (λ done. subst (λ j. Bears w s.requests s' j r₁) (sym same) (subst (Bears w s.requests s' t) is (finishes_bears w s' s.requests t r tame.rest.requests done)))
      change.mover)
      (λ differs. bears_kept w s.requests s s' i r₁ (tame.answers i (ne_eqb i t differs)) (h.answers i r₁ asked lt (sym (change.waits i differs) ∙ out)))
      (cases_eq i t)

  descended : Holds w s.requests s' y time
  descended = record {
    requests = tame.rest.requests;
    rooted = same_slot ∙ h.rooted ∙ sym change.slot;
    drawn = change.drawn;
    others = λ i out. let o = change.out i out in let before = h.others i o.0 in (o.1.0 ∙ before.0, λ z. o.1.1 ∙ before.1 z);
    over = change.over 0 h.over;
    gate = subst (λ g. InTurn time g (suc (length s.requests))) (sym (change.low 0 (omega arith)).1) h.gate;
    started = h.started;
    good = change.good;
    decided = λ i r₁ k asked seeks. ⊎_elim (λ d. inl (ap (λ f. f i) tame.rest.decision ∙ d)) (λ d. inr (ap (λ f. f i) tame.rest.decision ∙ d.0, d.1)) (h.decided i r₁ k asked seeks);
    unasked = λ i over. ap (λ f. f i) tame.rest.decision ∙ h.unasked i over;
    answers = bears;
    counts = λ i lo hi asked lt. change.pends i lo hi asked ∙ h.counts i lo hi asked lt;
    uncounted = λ i late. tame.counted i (ne_eqb i t (λ same. omega (arith, passed))) ∙ h.uncounted i late;
    walks = λ n i p₁ noted undone.
        let old = h.walks n i p₁ (sym (ap (λ f. (f n).note) tame.rest.desk) ∙ noted) (sym (ap (λ f. f i) tame.rest.decision) ∙ undone) in
        record { head = old.head; request = old.request; key = old.key; asked = old.asked; seeks = old.seeks; way = change.ways old.key p₁ old.way };
  }

  moved_by : MovedBy s s' x y time time (suc p) t
  moved_by = record {
    headed = heads_first e q (s.queue (suc p)) line;
    rest = rest;
    stay = λ i r₁ no on.
        let grown = tame.grown i in
        let same = put_other s.queue (suc p) (behind (s.queue (suc p))) i (ne_eqb i (suc p) no) in
        ap (heads r₁) (grown.1 ∙ ap (λ g. g ++ grown.0) same) ∙ heads_grown r₁ (s.queue i) grown.0 on;
    waits = change.waits;
    down = inl (refl, falls_moved w s.requests s.place s.queue (suc p) r e q line (Everywhere w s.requests) time x h.good h.drawn hangs);
  }

-- a request moves at a place of the tree
pub moves_tree : {K T : Type 0} (w : Kinds K T) (l : Lawful w) (rs : List (Request K)) (x : Tree K T) (time : ℕ) (s : State K T) → Holds w rs s x time
    → (p : ℕ) (e : Waiter) (q : List Waiter) (r : Request K) → s.queue (suc p) ≡ e ∷ q → numbered rs e.number ≡ Some r
    → (y : Tree K T) × Holds w rs (moved w s (suc p) e r) y time × MovedBy s (moved w s (suc p) e r) x y time time (suc p) e.number
moves_tree {K = K} {T = T} w l rs x time s h p e q r line num =
    subst (λ rs₁. numbered rs₁ e.number ≡ Some r → (y : Tree K T) × Holds w rs₁ (moved w s (suc p) e r) y time × MovedBy s (moved w s (suc p) e r) x y time time (suc p) e.number) h.requests own num
  where
    own : numbered s.requests e.number ≡ Some r → (y : Tree K T) × Holds w s.requests (moved w s (suc p) e r) y time × MovedBy s (moved w s (suc p) e r) x y time time (suc p) e.number
    own asked =
        let h₁ = subst (λ rs₁. Holds w rs₁ s x time) (sym h.requests) h in
        (y w l s x time h₁ p e q r line asked, descended w l s x time h₁ p e q r line asked, moved_by w l s x time h₁ p e q r line asked)
