-- An enter or a withdraw meets the tree under a slot, at the gate or at a place: the state that it leaves. Rests on Touches.
use Rattle.std.proofs.Common.{◌≡◌, ℕ, Bool, true, false, ◌||◌, eqb, ◌⊎◌, List, [], ◌∷◌, ◌++◌, Some, sym, refl, ap, ◌∙◌, inl, inr, arith}
use Rattle.std.proofs.lemmas.Bool.{or_left, or_right}
use Rattle.requests.specs.declared.answer.Answer.TheVariants as answer
use Rattle.requests.specs.declared.request.Request.{Request}
use Rattle.rules.specs.declared.mode.Mode.TheVariants.{Between}
use Rattle.rules.specs.Kinds.{Kinds}
use Rattle.rules.specs.States.{State, Slot, Waiter, empty, holds, leads}
use Rattle.rules.specs.Queues.{stands}
use Rattle.rules.specs.Changes.{with_answer, with_place, with_waiter}
use Rattle.rules.specs.Moves.{with_slot_for, made_place, enter_at, withdraw_at}
use Rattle.rules.proofs.Trees.{Tree, bare, leaf, node, slot_of, drawn_place, Drawn}
use Rattle.rules.proofs.Goods.{Good}
use Rattle.rules.proofs.Joins.{stands_append}
use Rattle.rules.proofs.Children.{waiter, enter_child, withdraw_child}
use Rattle.rules.proofs.Pends.{waiting}
use Rattle.rules.proofs.Puts.{put-here, put_other}
use Rattle.rules.proofs.Hangs.{topped}
use Rattle.rules.proofs.Touches.{join_own, top_left, top_right}
use Rattle.rules.proofs.Effects.{with_joined-made}

module _ {K T : Type 0} where
  -- what no move changes
  pub record Rest (s s' : State K T) : Type 0 where
    pub capacity : s'.capacity ≡ s.capacity
    pub requests : s'.requests ≡ s.requests
    pub asker : s'.asker ≡ s.asker
    pub decision : s'.decision ≡ s.decision
    pub desk : s'.desk ≡ s.desk

  -- a slot of place p is written by `write`, and holds x now
  pub record Writes (s : State K T) (p : ℕ) (write : Slot K → State K T) (x : Slot K) : Type 0 where
    pub rest : (y : Slot K) → Rest s (write y)
    pub place : (y : Slot K) (i : ℕ) → eqb i p ≡ false → (write y).place i ≡ s.place i
    pub queue : (y : Slot K) → (write y).queue ≡ s.queue
    pub answer : (y : Slot K) → (write y).answer ≡ s.answer
    pub counted : (y : Slot K) → (write y).counted ≡ s.counted
    pub same_place : (write x).place p ≡ s.place p
    pub same_slot : (write x).slot ≡ s.slot

  -- the tree x under the slot has become c, and request t is answered 1 or waits there
  pub record Meets (s s' : State K T) (p : ℕ) (write : Slot K → State K T) (t : ℕ) (c : Tree K T) : Type 0 where
    pub rest : Rest s s'
    pub own : Drawn s'.place s'.queue c
    pub kept : (i : ℕ) → eqb i p ≡ false → topped c i ≡ false → (s'.place i ≡ s.place i) × (s'.queue i ≡ s.queue i)
    pub queue_here : s'.queue p ≡ s.queue p
    pub place_here : s'.place p ≡ (write (slot_of c)).place p
    pub slot_here : s'.slot ≡ (write (slot_of c)).slot
    pub counted : s'.counted ≡ s.counted
    pub answers : (i : ℕ) → eqb i t ≡ false → s'.answer i ≡ s.answer i
    pub mover : (waiting t c ≡ true) ⊎ (s'.answer t ≡ Some answer.Changed)

module _ {K T : Type 0} (w : Kinds K T) (rs : List (Request K)) (s : State K T) (p : ℕ) (write : Slot K → State K T) (t : ℕ) (k : K) where
  -- the state that an enter leaves, by the tree that it meets
  abbrev pub entered : Tree K T → State K T
  entered bare = with_answer (write (holds k)) t answer.Changed
  entered (leaf j) = with_answer (with_place (write (leads t)) t (made_place w j k)) t answer.Changed
  entered (node f split tally q a b) =
      with_waiter (with_place s f (drawn_place split (w.joined tally (w.weighed k)) a b)) f t Between

  abbrev pub withdrawn : Tree K T → State K T
  withdrawn bare = s
  withdrawn (leaf j) = with_answer (write empty) t answer.Changed
  withdrawn (node f split tally q a b) =
      with_waiter (with_place s f (drawn_place split (w.joined tally (w.opposed (w.weighed k))) a b)) f t Between

  -- these are the states of the rules
  pub entered_is : ((y : Slot K) → with_slot_for w s p k y ≡ write y) → (x : Tree K T) → Drawn s.place s.queue x → enter_at w s t p k (slot_of x) ≡ entered x
  entered_is same bare d = ap (λ st. with_answer st t answer.Changed) (same (holds k))
  entered_is same (leaf j) d = ap (λ st. with_answer (with_place st t (made_place w j k)) t answer.Changed) (same (leads t))
  entered_is same (node f split tally q a b) d =
      ap (λ st. with_waiter st f t Between) (with_joined-made w s f (w.weighed k) (drawn_place split tally a b) d.0)

  pub withdrawn_is : ((y : Slot K) → with_slot_for w s p k y ≡ write y) → (x : Tree K T) → Drawn s.place s.queue x → withdraw_at w s t p k (slot_of x) ≡ withdrawn x
  withdrawn_is same bare d = refl
  withdrawn_is same (leaf j) d = ap (λ st. with_answer st t answer.Changed) (same empty)
  withdrawn_is same (node f split tally q a b) d =
      ap (λ st. with_waiter st f t Between) (with_joined-made w s f (w.opposed (w.weighed k)) (drawn_place split tally a b) d.0)

  -- a place joined by t with another tally
  joins : (R : K → Bool) (now : ℕ) (f : ℕ) (split : K) (tally v : T) (q : List Waiter) (a b : Tree K T) → Writes s p write (leads f)
      → Good w rs R now (node f split tally q a b) → Drawn s.place s.queue (node f split tally q a b) → eqb p f ≡ false
      → Meets s (with_waiter (with_place s f (drawn_place split v a b)) f t Between) p write t (node f split v (q ++ (waiter t Between ∷ [])) a b)
  joins R now f split tally v q a b wr g d away = record {
    rest = record { capacity = refl; requests = refl; asker = refl; decision = refl; desk = refl };
    own = join_own s.place s.queue f split tally v q (waiter t Between) a b (top_left w rs R now f split tally q a b g) (top_right w rs R now f split tally q a b g) d;
    kept = λ i u e. (put_other s.place f (Some (drawn_place split v a b)) i e, put_other s.queue f (s.queue f ++ (waiter t Between ∷ [])) i e);
    queue_here = put_other s.queue f (s.queue f ++ (waiter t Between ∷ [])) p away;
    place_here = put_other s.place f (Some (drawn_place split v a b)) p away ∙ sym wr.same_place;
    slot_here = sym wr.same_slot;
    counted = refl;
    answers = λ i e. refl;
    mover = inl (or_left (stands t (q ++ (waiter t Between ∷ []))) (waiting t a || waiting t b) (stands_append t q (waiter t Between) ∙ or_right (stands t q) (eqb t t) (same_number t)));
  }
    where
      same_number : (i : ℕ) → eqb i i ≡ true
      same_number i = grind arith

  -- a slot written with a tree that is no place
  slotted : (c : Tree K T) (x y : Slot K) → Writes s p write x → slot_of c ≡ y → ((i : ℕ) → topped c i ≡ false) → Drawn (write y).place (write y).queue c → Meets s (with_answer (write y) t answer.Changed) p write t c
  slotted c x y wr e flat own = record {
    rest = record { capacity = (wr.rest y).capacity; requests = (wr.rest y).requests; asker = (wr.rest y).asker; decision = (wr.rest y).decision; desk = (wr.rest y).desk };
    own = own;
    kept = λ i u v. (wr.place y i u, ap (λ g. g i) (wr.queue y));
    queue_here = ap (λ g. g p) (wr.queue y);
    place_here = ap (λ z. (write z).place p) (sym e);
    slot_here = ap (λ z. (write z).slot) (sym e);
    counted = wr.counted y;
    answers = λ i u. put_other (write y).answer t (Some answer.Changed) i u ∙ ap (λ g. g i) (wr.answer y);
    mover = inr (put-here (write y).answer t (Some answer.Changed));
  }

  pub enter_meets : (R : K → Bool) (now : ℕ) (x : Tree K T) → Writes s p write (slot_of x) → Good w rs R now x → Drawn s.place s.queue x
      → topped x p ≡ false → eqb p t ≡ false → s.queue t ≡ [] → Meets s (entered x) p write t (enter_child w t k x)
  enter_meets R now bare wr g d top away none = slotted (leaf k) empty (holds k) wr refl (λ i. refl) tt
  enter_meets R now (leaf j) wr g d top away none = record {
    rest = record { capacity = (wr.rest (leads t)).capacity; requests = (wr.rest (leads t)).requests; asker = (wr.rest (leads t)).asker; decision = (wr.rest (leads t)).decision; desk = (wr.rest (leads t)).desk };
    own = (put-here (write (leads t)).place t (Some (made_place w j k)), ap (λ g. g t) (wr.queue (leads t)) ∙ none, tt, tt);
    kept = λ i u v. (put_other (write (leads t)).place t (Some (made_place w j k)) i v ∙ wr.place (leads t) i u, ap (λ g. g i) (wr.queue (leads t)));
    queue_here = ap (λ g. g p) (wr.queue (leads t));
    place_here = put_other (write (leads t)).place t (Some (made_place w j k)) p away;
    slot_here = refl;
    counted = wr.counted (leads t);
    answers = λ i u. put_other (write (leads t)).answer t (Some answer.Changed) i u ∙ ap (λ g. g i) (wr.answer (leads t));
    mover = inr (put-here (write (leads t)).answer t (Some answer.Changed));
  }
  enter_meets R now (node f split tally q a b) wr g d top away none = joins R now f split tally (w.joined tally (w.weighed k)) q a b wr g d top

  pub withdraw_meets : (R : K → Bool) (now : ℕ) (x : Tree K T) → Writes s p write (slot_of x) → Good w rs R now x → Drawn s.place s.queue x
      → topped x p ≡ false → (slot_of x ≡ empty → ⊥) → Meets s (withdrawn x) p write t (withdraw_child w t k x)
  withdraw_meets R now bare wr g d top some = absurd (some refl)
  withdraw_meets R now (leaf j) wr g d top some = slotted bare (holds j) empty wr refl (λ i. refl) tt
  withdraw_meets R now (node f split tally q a b) wr g d top some = joins R now f split tally (w.joined tally (w.opposed (w.weighed k))) q a b wr g d top
