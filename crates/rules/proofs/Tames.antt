-- What no move changes: requests, decisions, stations, other requests' answers; and queues elsewhere only grow. Rests on Meets.
use Rattle.std.proofs.Common.{◌≡◌, ℕ, zero, suc, Bool, true, false, cond, eqb, List, [], ◌∷◌, ◌++◌, Some, None, Option, sym, refl, ap, ◌∙◌, true≢false, append_assoc}
use Rattle.std.proofs.lemmas.Bool.{eqb-true}
use Rattle.std.proofs.lemmas.List.{append-nil}
use Rattle.requests.specs.declared.answer.Answer.{Answer}
use Rattle.requests.specs.declared.request.Request.{Request}
use Rattle.requests.specs.declared.request.Request.TheVariants.{Enter, Withdraw, LookUp, Count}
use Rattle.rules.specs.declared.mode.Mode.{Mode}
use Rattle.rules.specs.declared.mode.Mode.TheVariants.{Between}
use Rattle.rules.specs.Kinds.{Kinds, before}
use Rattle.rules.specs.States.{State, Slot, Place, Waiter, empty, holds, leads}
use Rattle.rules.specs.Queues.{heads}
use Rattle.rules.specs.Changes.{put, with_answer, with_counted, with_gate, with_place, with_waiter}
use Rattle.rules.specs.Moves.{Step, show, add, slot_on, with_slot_on, side_of, with_tally, is_present, slot_for, with_slot_for, enter_at, withdraw_at, shown, stepped, stepped_all, count_steps, count_at, acted}
use Rattle.rules.proofs.Puts.{put_other}
use Rattle.rules.proofs.Meets.{Rest}

module _ {K T : Type 0} where
  -- only request t is answered or counts, and queues only grow
  pub record Tame (t : ℕ) (s s' : State K T) : Type 0 where
    pub rest : Rest s s'
    pub answers : (i : ℕ) → eqb i t ≡ false → s'.answer i ≡ s.answer i
    pub counted : (i : ℕ) → eqb i t ≡ false → s'.counted i ≡ s.counted i
    pub grown : (i : ℕ) → (more : List Waiter) × (s'.queue i ≡ s.queue i ++ more)

  tame_same : (t : ℕ) (s : State K T) → Tame t s s
  tame_same t s = record {
    rest = record { capacity = refl; requests = refl; asker = refl; decision = refl; desk = refl };
    answers = λ i e. refl;
    counted = λ i e. refl;
    grown = λ i. ([], sym (append-nil (s.queue i)));
  }

  tame_then : (t : ℕ) (s s' s'' : State K T) → Tame t s s' → Tame t s' s'' → Tame t s s''
  tame_then t s s' s'' a b = record {
    rest = record {
      capacity = b.rest.capacity ∙ a.rest.capacity;
      requests = b.rest.requests ∙ a.rest.requests;
      asker = b.rest.asker ∙ a.rest.asker;
      decision = b.rest.decision ∙ a.rest.decision;
      desk = b.rest.desk ∙ a.rest.desk;
    };
    answers = λ i e. b.answers i e ∙ a.answers i e;
    counted = λ i e. b.counted i e ∙ a.counted i e;
    grown = λ i. ((a.grown i).0 ++ (b.grown i).0, (b.grown i).1 ∙ ap (λ q. q ++ (b.grown i).0) (a.grown i).1 ∙ append_assoc (s.queue i) (a.grown i).0 (b.grown i).0);
  }

  tame_answer : (t : ℕ) (s : State K T) (v : Answer T) → Tame t s (with_answer s t v)
  tame_answer t s v = record {
    rest = record { capacity = refl; requests = refl; asker = refl; decision = refl; desk = refl };
    answers = λ i e. put_other s.answer t (Some v) i e;
    counted = λ i e. refl;
    grown = λ i. ([], sym (append-nil (s.queue i)));
  }

  tame_counted : (t : ℕ) (s : State K T) (v : T) → Tame t s (with_counted s t v)
  tame_counted t s v = record {
    rest = record { capacity = refl; requests = refl; asker = refl; decision = refl; desk = refl };
    answers = λ j e. refl;
    counted = λ j e. put_other s.counted t v j e;
    grown = λ j. ([], sym (append-nil (s.queue j)));
  }

  tame_gate : (t : ℕ) (s : State K T) (x : Slot K) → Tame t s (with_gate s x)
  tame_gate t s x = record {
    rest = record { capacity = refl; requests = refl; asker = refl; decision = refl; desk = refl };
    answers = λ j e. refl;
    counted = λ j e. refl;
    grown = λ j. ([], sym (append-nil (s.queue j)));
  }

  tame_place : (t : ℕ) (s : State K T) (p : ℕ) (f : Place K T) → Tame t s (with_place s p f)
  tame_place t s p f = record {
    rest = record { capacity = refl; requests = refl; asker = refl; decision = refl; desk = refl };
    answers = λ j e. refl;
    counted = λ j e. refl;
    grown = λ j. ([], sym (append-nil (s.queue j)));
  }

  tame_waiter : (t : ℕ) (s : State K T) (p i : ℕ) (m : Mode) → Tame t s (with_waiter s p i m)
  tame_waiter t s p i m = record {
    rest = record { capacity = refl; requests = refl; asker = refl; decision = refl; desk = refl };
    answers = λ j e. refl;
    counted = λ j e. refl;
    grown = λ j. go j (eqb j p) refl;
  }
    where
      go : (j : ℕ) (b : Bool) → eqb j p ≡ b → (more : List Waiter) × (put s.queue p (s.queue p ++ (record { number = i; mode = m } ∷ [])) j ≡ s.queue j ++ more)
      go j true e = ((record { number = i; mode = m } ∷ []), rw e (ap (λ k. s.queue k ++ (record { number = i; mode = m } ∷ [])) (sym (eqb-true j p e))))
      go j false e = ([], rw e (sym (append-nil (s.queue j))))

module _ {K T : Type 0} (w : Kinds K T) (t : ℕ) where
  tame_slot_by : (s : State K T) (p : ℕ) (k : K) (x : Slot K) (o : Option (Place K T)) → Tame t s (elim o [ None ↦ s | Some f ↦ with_place s (suc p) (with_slot_on f (side_of w f k) x) ])
  tame_slot_by s p k x None = tame_same t s
  tame_slot_by s p k x (Some f) = tame_place t s (suc p) (with_slot_on f (side_of w f k) x)

  tame_slot : (s : State K T) (p : ℕ) (k : K) (x : Slot K) → Tame t s (with_slot_for w s p k x)
  tame_slot s zero k x = tame_gate t s x
  tame_slot s (suc p) k x = tame_slot_by s p k x (s.place (suc p))

  tame_joined_by : (s : State K T) (p : ℕ) (v : T) (o : Option (Place K T)) → Tame t s (elim o [ None ↦ s | Some f ↦ with_place s p (with_tally f (w.joined f.tally v)) ])
  tame_joined_by s p v None = tame_same t s
  tame_joined_by s p v (Some f) = tame_place t s p (with_tally f (w.joined f.tally v))

  tame_enter : (s : State K T) (p : ℕ) (k : K) (x : Slot K) → Tame t s (enter_at w s t p k x)
  tame_enter s p k empty = tame_then t _ _ _ (tame_slot s p k (holds k)) (tame_answer t _ _)
  tame_enter s p k (holds j) = tame_then t _ _ _ (tame_then t _ _ _ (tame_slot s p k (leads t)) (tame_place t _ t _)) (tame_answer t _ _)
  tame_enter s p k (leads f) = tame_then t _ _ _ (tame_joined_by s f (w.weighed k) (s.place f)) (tame_waiter t _ f t _)

  tame_withdraw : (s : State K T) (p : ℕ) (k : K) (x : Slot K) → Tame t s (withdraw_at w s t p k x)
  tame_withdraw s p k empty = tame_same t s
  tame_withdraw s p k (holds j) = tame_then t _ _ _ (tame_slot s p k empty) (tame_answer t _ _)
  tame_withdraw s p k (leads f) = tame_then t _ _ _ (tame_joined_by s f (w.opposed (w.weighed k)) (s.place f)) (tame_waiter t _ f t _)

  tame_shown : (s : State K T) (lo hi : K) (m : Mode) (x : Slot K) → Tame t s (shown w s t lo hi m x)
  tame_shown s lo hi m empty = tame_same t s
  tame_shown s lo hi m (holds k) = tame_counted t s _
  tame_shown s lo hi m (leads f) = tame_waiter t s f t m

  tame_steps : (s : State K T) (lo hi : K) (f : Place K T) (xs : List Step) → Tame t s (stepped_all w s t lo hi f xs)
  tame_steps s lo hi f [] = tame_same t s
  tame_steps s lo hi f (show side m ∷ xs) = tame_then t _ _ _ (tame_shown s lo hi m (slot_on f side)) (tame_steps (shown w s t lo hi m (slot_on f side)) lo hi f xs)
  tame_steps s lo hi f (add side ∷ xs) = tame_then t _ _ _ (tame_counted t s _) (tame_steps (stepped w s t lo hi f (add side)) lo hi f xs)

  tame_count_by : (s : State K T) (lo hi : K) (m : Mode) (o : Option (Place K T)) → Tame t s (elim o [ None ↦ s | Some f ↦ stepped_all w s t lo hi f (count_steps m (w.le f.split lo) (before w hi f.split)) ])
  tame_count_by s lo hi m None = tame_same t s
  tame_count_by s lo hi m (Some f) = tame_steps s lo hi f (count_steps m (w.le f.split lo) (before w hi f.split))

  tame_count : (s : State K T) (p : ℕ) (lo hi : K) (m : Mode) → Tame t s (count_at w s t p lo hi m)
  tame_count s zero lo hi m = tame_shown s lo hi Between s.slot
  tame_count s (suc p) lo hi m = tame_count_by s lo hi m (s.place (suc p))

  tame_cond : (s a b : State K T) (c : Bool) → Tame t s a → Tame t s b → Tame t s (cond c a b)
  tame_cond s a b true x y = x
  tame_cond s a b false x y = y

  pub tame_acted : (s : State K T) (p : ℕ) (m : Mode) (r : Request K) → Tame t s (acted w s t p m r)
  tame_acted s p m (Enter k) = tame_cond s _ _ (is_present (s.decision t)) (tame_answer t s _) (tame_enter s p k (slot_for w s p k))
  tame_acted s p m (Withdraw k) = tame_cond s _ _ (is_present (s.decision t)) (tame_withdraw s p k (slot_for w s p k)) (tame_answer t s _)
  tame_acted s p m (LookUp k) = tame_answer t s _
  tame_acted s p m (Count lo hi) = tame_count s p lo hi m

-- heads of queues that only grow stay
pub heads_grown : (r : ℕ) (q more : List Waiter) → heads r q ≡ true → heads r (q ++ more) ≡ true
heads_grown r [] more e = absurd (true≢false (sym e))
heads_grown r (x ∷ q) more e = e
