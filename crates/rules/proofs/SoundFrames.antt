-- Changes that soundness does not see: who waits, who hangs where and who is held are as before, or slots lead to fewer places. Rests on SoundQueues.
use Rattle.std.proofs.Common.{◌≡◌, ℕ, zero, suc, ◌≤◌, Bool, true, false, ◌⊎◌, length, is_some, Some, None, Option, sym, refl, ap, ◌∙◌, subst, inl, inr, ⊎_elim, true≢false}
use Rattle.requests.specs.declared.answer.Answer.{Answer}
use Rattle.requests.specs.Stations.{is_station}
use Rattle.rules.specs.declared.mode.Mode.{Mode}
use Rattle.rules.specs.declared.mode.Mode.TheVariants.{Between}
use Rattle.rules.specs.declared.note.Note.{Note}
use Rattle.rules.specs.Kinds.{Kinds}
use Rattle.rules.specs.States.{State, Slot, Place, empty, holds, leads}
use Rattle.rules.specs.Queues.{given, numbered, stands}
use Rattle.rules.specs.Changes.{with_answer, with_counted, with_decision, with_gate, with_place, with_note}
use Rattle.rules.specs.Moves.{Side, on_left, on_right, slot_on, with_slot_on, with_tally, side_of, with_slot_for, with_joined}
use Rattle.rules.specs.Sound.{stands_in, Rises, slot_at, is_made, SoundsBy}
use Rattle.rules.proofs.SoundQueues.{put_cases}

-- a place that is not there
pub none_there : {X : Type 0} (o : Option X) → is_some o ≡ false → o ≡ None
none_there None e = refl
none_there (Some x) e = absurd (true≢false e)

module _ {K T : Type 0} where
  -- s' has the requests, queues, stations' requests and places of s, and its slots lead to no other places
  pub record Alike (s s' : State K T) : Type 0 where
    pub requests : s'.requests ≡ s.requests
    pub asker : s'.asker ≡ s.asker
    pub queue : s'.queue ≡ s.queue
    pub uncollected : (n : ℕ) → (s'.desk n).uncollected ≡ (s.desk n).uncollected
    pub made : (f : ℕ) → is_made s' f ≡ is_made s f
    pub slots : (p : ℕ) (side : Side) (f : ℕ) → slot_at s' p side ≡ leads f → slot_at s p side ≡ leads f

  module _ {s s' : State K T} (a : Alike s s') where
    pub alike_stood : (p x : ℕ) → stands x (s'.queue p) ≡ true → stands x (s.queue p) ≡ true
    alike_stood p x h = ap (λ q. stands x (q p)) (sym a.queue) ∙ h

    pub alike_in : (p x : ℕ) (m : Mode) → stands_in x m (s'.queue p) ≡ true → stands_in x m (s.queue p) ≡ true
    alike_in p x m h = ap (λ q. stands_in x m (q p)) (sym a.queue) ∙ h

    pub alike_given : (x : ℕ) → x ≤ given s → x ≤ given s'
    alike_given x h = subst (λ rs. x ≤ length rs) (sym a.requests) h

    pub alike_none : (x : ℕ) → s.place x ≡ None → s'.place x ≡ None
    alike_none x h = none_there (s'.place x) (a.made x ∙ ap is_some h)

    pub alike_held : (x : ℕ) → (is_station (s.asker x) ≡ true) × ((s.desk (s.asker x)).uncollected ≡ Some x)
        → (is_station (s'.asker x) ≡ true) × ((s'.desk (s'.asker x)).uncollected ≡ Some x)
    alike_held x h = (
      ap (λ f. is_station (f x)) a.asker ∙ h.0,
      a.uncollected (s'.asker x) ∙ ap (λ f. (s.desk (f x)).uncollected) a.asker ∙ h.1,
    )

    pub sound_alike : {last above : ℕ → ℕ} → SoundsBy s last above → SoundsBy s' last above
    sound_alike {last = last} {above = above} h = record {
      rises = λ p. subst (λ q. Rises 0 (q p)) (sym a.queue) (h.rises p);
      among = λ p x st. let v = h.among p x (alike_stood p x st) in (v.0, alike_given x v.1, v.2);
      lasts = λ p. alike_given (last p) (h.lasts p);
      at_places = λ p x st. ⊎_elim (λ e. inl e) (λ e. inr (a.made p ∙ e)) (h.at_places p x (alike_stood p x st));
      unmade = λ p x st. alike_none x (h.unmade p x (alike_stood p x st));
      made = λ f e. let v = h.made f (sym (a.made f) ∙ e) in (v.0, alike_given f v.1);
      down = λ p side f e. let d = h.down p side f (a.slots p side f e) in (a.made f ∙ d.0, d.1, d.2, λ x st. d.3 x (alike_stood p x st));
      sides = λ p f l r. h.sides p f (a.slots p on_left f l) (a.slots p on_right f r);
      modes = λ p q x m u v. h.modes p q x m (alike_in p x m u) (alike_in q x m v);
      between = λ p q x m u v. h.between p q x m (alike_in p x Between u) (alike_in q x m v);
      at_gate = λ x m u. h.at_gate x m (alike_in 0 x m u);
      plain = λ p x m r u num. h.plain p x m r (alike_in p x m u) (ap (λ rs. numbered rs x) (sym a.requests) ∙ num);
      held = λ p x st. alike_held x (h.held p x (alike_stood p x st));
      hands = λ n t e. let v = h.hands n t (sym (a.uncollected n) ∙ e) in (v.0, ap (λ f. f t) a.asker ∙ v.1, v.2, alike_given t v.3);
    }

  alike_same : (s : State K T) → Alike s s
  alike_same s = record { requests = refl; asker = refl; queue = refl; uncollected = λ n. refl; made = λ f. refl; slots = λ p side f e. e }

  alike_rows : (s s' : State K T) → s'.requests ≡ s.requests → s'.asker ≡ s.asker → s'.queue ≡ s.queue → ((n : ℕ) → (s'.desk n).uncollected ≡ (s.desk n).uncollected)
      → s'.slot ≡ s.slot → s'.place ≡ s.place → Alike s s'
  alike_rows s s' requests asker queue uncollected slot place =
      record { requests = requests; asker = asker; queue = queue; uncollected = uncollected; made = λ f. ap (λ v. is_some (v f)) place; slots = slots }
    where
      slots : (p : ℕ) (side : Side) (f : ℕ) → slot_at s' p side ≡ leads f → slot_at s p side ≡ leads f
      slots zero on_left f e = sym slot ∙ e
      slots zero on_right f e = e
      slots (suc p) side f e = ap (λ v. elim (v (suc p)) as (λ _. Slot K) [ None ↦ empty | Some x ↦ slot_on x side ]) (sym place) ∙ e

  pub alike_answer : (s : State K T) (t : ℕ) (v : Answer T) → Alike s (with_answer s t v)
  alike_answer s t v = alike_rows s (with_answer s t v) refl refl refl (λ n. refl) refl refl

  pub alike_counted : (s : State K T) (t : ℕ) (v : T) → Alike s (with_counted s t v)
  alike_counted s t v = alike_rows s (with_counted s t v) refl refl refl (λ n. refl) refl refl

  pub alike_decision : (s : State K T) (t : ℕ) (d : Bool) → Alike s (with_decision s t d)
  alike_decision s t d = alike_rows s (with_decision s t d) refl refl refl (λ n. refl) refl refl

  pub alike_note : (s : State K T) (n : ℕ) (x : Note) → Alike s (with_note s n x)
  alike_note s n x =
      alike_rows s (with_note s n x) refl refl refl
      (λ i. put_cases s.desk n (record { note = x; uncollected = (s.desk n).uncollected }) i (λ d. d.uncollected ≡ (s.desk i).uncollected)
      (λ e. ap (λ j. (s.desk j).uncollected) (sym e)) (λ _. refl))
      refl refl

  -- a place written anew whose slots lead to no other places
  pub alike_place : (s : State K T) (q : ℕ) (f f' : Place K T) → s.place q ≡ Some f → ((side : Side) (g : ℕ) → slot_on f' side ≡ leads g → slot_on f side ≡ leads g)
      → Alike s (with_place s q f')
  alike_place s q f f' is fewer = record {
    requests = refl;
    asker = refl;
    queue = refl;
    uncollected = λ n. refl;
    made = λ i. put_cases s.place q (Some f') i (λ o. is_some o ≡ is_made s i) (λ e. sym (ap is_some (ap s.place e ∙ is))) (λ _. refl);
    slots = slots;
  }
    where
      slots : (p : ℕ) (side : Side) (g : ℕ) → slot_at (with_place s q f') p side ≡ leads g → slot_at s p side ≡ leads g
      slots zero on_left g e = e
      slots zero on_right g e = e
      slots (suc p) side g e =
          put_cases s.place q (Some f') (suc p) (λ o. elim o as (λ _. Slot K) [ None ↦ empty | Some x ↦ slot_on x side ] ≡ leads g → slot_at s (suc p) side ≡ leads g)
          (λ here u. ap (λ o. elim o as (λ _. Slot K) [ None ↦ empty | Some x ↦ slot_on x side ]) (ap s.place here ∙ is) ∙ fewer side g u)
          (λ _ u. u) e

  alike_gate : (s : State K T) (y : Slot K) → ((f : ℕ) → y ≡ leads f → ⊥) → Alike s (with_gate s y)
  alike_gate s y nowhere = record { requests = refl; asker = refl; queue = refl; uncollected = λ n. refl; made = λ f. refl; slots = slots }
    where
      slots : (p : ℕ) (side : Side) (f : ℕ) → slot_at (with_gate s y) p side ≡ leads f → slot_at s p side ≡ leads f
      slots zero on_left f e = absurd (nowhere f e)
      slots zero on_right f e = e
      slots (suc p) side f e = e

  -- only the gate and places that are made have slots that lead anywhere
  pub leads-made : (s : State K T) (p : ℕ) (side : Side) (f : ℕ) → slot_at s p side ≡ leads f → (p ≡ 0) ⊎ (is_made s p ≡ true)
  leads-made s zero side f e = inl refl
  leads-made s (suc p) side f e = go (s.place (suc p)) e
    where
      go : (o : Option (Place K T)) → elim o as (λ _. Slot K) [ None ↦ empty | Some x ↦ slot_on x side ] ≡ leads f → (suc p ≡ 0) ⊎ (is_some o ≡ true)
      go None u = absurd cc
      go (Some x) u = inr refl

  -- a slot written on one side
  pub slot-written : (f : Place K T) (written : Side) (y : Slot K) (side : Side) (g : ℕ) → slot_on (with_slot_on f written y) side ≡ leads g
      → ((side ≡ written) × (y ≡ leads g)) ⊎ (slot_on f side ≡ leads g)
  slot-written f on_left y on_left g e = inl (refl, e)
  slot-written f on_left y on_right g e = inr e
  slot-written f on_right y on_left g e = inr e
  slot-written f on_right y on_right g e = inl (refl, e)

  slot-tally : (f : Place K T) (v : T) (side : Side) (g : ℕ) → slot_on (with_tally f v) side ≡ leads g → slot_on f side ≡ leads g
  slot-tally f v on_left g e = e
  slot-tally f v on_right g e = e

  -- a slot written that leads nowhere
  pub alike_slot : (w : Kinds K T) (s : State K T) (p : ℕ) (k : K) (y : Slot K) → ((f : ℕ) → y ≡ leads f → ⊥) → Alike s (with_slot_for w s p k y)
  alike_slot w s zero k y nowhere = alike_gate s y nowhere
  alike_slot w s (suc p) k y nowhere = go (s.place (suc p)) refl
    where
      go : (o : Option (Place K T)) → s.place (suc p) ≡ o → Alike s (elim o [ None ↦ s | Some f ↦ with_place s (suc p) (with_slot_on f (side_of w f k) y) ])
      go None e = alike_same s
      go (Some f) e =
          alike_place s (suc p) f (with_slot_on f (side_of w f k) y) e
          (λ side g u. ⊎_elim (λ v. absurd (nowhere g v.1)) (λ v. v) (slot-written f (side_of w f k) y side g u))

  pub alike_joined : (w : Kinds K T) (s : State K T) (p : ℕ) (v : T) → Alike s (with_joined w s p v)
  alike_joined w s p v = go (s.place p) refl
    where
      go : (o : Option (Place K T)) → s.place p ≡ o → Alike s (elim o [ None ↦ s | Some f ↦ with_place s p (with_tally f (w.joined f.tally v)) ])
      go None e = alike_same s
      go (Some f) e = alike_place s p f (with_tally f (w.joined f.tally v)) e (slot-tally f (w.joined f.tally v))

-- empty slots and keys lead nowhere
pub empty-leads : {K : Type 0} (f : ℕ) → ◌≡◌ {A = Slot K} empty (leads f) → ⊥
empty-leads f e = absurd cc

pub holds-leads : {K : Type 0} (k : K) (f : ℕ) → holds k ≡ leads f → ⊥
holds-leads k f e = absurd cc
