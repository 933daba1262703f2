-- A move keeps soundness, for each kind of request. Rests on SoundJoins and SoundMakes.
use Rattle.std.proofs.Common.{◌≡◌, ℕ, zero, suc, Bool, true, false, cond, ◌⊎◌, List, ◌∷◌, is_some, Some, None, Option, sym, refl, ap, ◌∙◌, inl, inr, true≢false, arith}
use Rattle.requests.specs.declared.request.Request.{Request}
use Rattle.requests.specs.declared.request.Request.TheVariants.{Enter, Withdraw, LookUp, Count}
use Rattle.rules.specs.declared.mode.Mode.{Mode}
use Rattle.rules.specs.declared.mode.Mode.TheVariants.{Between, From, Upto}
use Rattle.rules.specs.Kinds.{Kinds, before}
use Rattle.rules.specs.States.{State, Slot, Place, Waiter, empty, holds, leads}
use Rattle.rules.specs.Queues.{numbered, stands}
use Rattle.rules.specs.Changes.{with_waiter}
use Rattle.rules.specs.Moves.{Side, on_left, on_right, slot_on, side_of, slot_for, with_slot_for, with_joined, with_added, whole, made_place, is_present, enter_at, withdraw_at, shown, stepped_all, count_steps, count_at, acted, moved}
use Rattle.rules.specs.Carries.{sought}
use Rattle.rules.specs.Sound.{slot_at, SoundsBy, Sounds}
use Rattle.rules.proofs.SoundQueues.{stands_some}
use Rattle.rules.proofs.SoundFrames.{Alike, sound_alike, alike_answer, alike_counted, alike_slot, alike_joined, empty-leads, holds-leads}
use Rattle.rules.proofs.SoundLeaves.{Freed, freed_alike, freed}
use Rattle.rules.proofs.SoundJoins.{Joiner, joiner, joiner_alike, sound_joins, joiner_again}
use Rattle.rules.proofs.SoundMakes.{grown, sound_makes}

pub sounds_of : {K T : Type 0} {s : State K T} {last above : ℕ → ℕ} → SoundsBy s last above → Sounds s
sounds_of {last = last} {above = above} h = record { last = last; above = above; facts = h }

pub sounds_alike : {K T : Type 0} {s s' : State K T} → Alike s s' → Sounds s → Sounds s'
sounds_alike a h = sounds_of (sound_alike a h.facts)

either : {K T : Type 0} (b : Bool) (x y : State K T) → Sounds x → Sounds y → Sounds (cond b x y)
either true x y a c = a
either false x y a c = c

-- the place that two keys make leads nowhere
made_nowhere : {K T : Type 0} (w : Kinds K T) (j k : K) (side : Side) (g : ℕ) → slot_on (made_place w j k) side ≡ leads g → ⊥
made_nowhere w j k on_left g e = holds-leads _ g e
made_nowhere w j k on_right g e = holds-leads _ g e

-- the slot on the key's side is one of the two
pub slot_for-at : {K T : Type 0} (w : Kinds K T) (s : State K T) (p : ℕ) (k : K) → (side : Side) × (slot_at s p side ≡ slot_for w s p k)
slot_for-at w s zero k = (on_left, refl)
slot_for-at {K = K} {T = T} w s (suc p) k = go (s.place (suc p))
  where
    go : (o : Option (Place K T)) → (side : Side) × (elim o as (λ _. Slot K) [ None ↦ empty | Some f ↦ slot_on f side ] ≡ elim o as (λ _. Slot K) [ None ↦ empty | Some f ↦ slot_on f (side_of w f k) ])
    go None = (on_left, refl)
    go (Some f) = (side_of w f k, refl)

module _ {K T : Type 0} (w : Kinds K T) {s : State K T} {last above : ℕ → ℕ} {p : ℕ} {e : Waiter} (v : Freed s last above p e) where
  as_it_was : Sounds s
  as_it_was = sounds_of v.mover.sounds

  -- an enter or a withdraw joins the place on its key's side
  joins_below : (k : K) (f : ℕ) (weight : T) → e.mode ≡ Between → slot_for w s p k ≡ leads f → Sounds (with_waiter (with_joined w s f weight) f e.number Between)
  joins_below k f weight own is =
      let at = slot_for-at w s p k in
      sounds_of (sound_joins (joiner_alike (alike_joined w s f weight) (joiner v at.0 f (at.1 ∙ is) Between (inr own) (λ _ _ _. refl))))

  -- who waited in mode Between waits nowhere
  alone : e.mode ≡ Between → (q : ℕ) → stands e.number (s.queue q) ≡ true → ⊥
  alone own q st = let some = stands_some e.number (s.queue q) st in (v.elsewhere q some.0 some.1).1 own

  sound_enter : (k : K) → e.mode ≡ Between → (x : Slot K) → slot_for w s p k ≡ x → Sounds (enter_at w s e.number p k x)
  sound_enter k own empty is =
      sounds_alike (alike_answer (with_slot_for w s p k (holds k)) e.number _) (sounds_alike (alike_slot w s p k (holds k) (holds-leads k)) as_it_was)
  sound_enter k own (holds j) is =
      let g = grown w s e.number k (made_place w j k) (made_nowhere w j k) p j is in
      sounds_alike (alike_answer _ e.number _) (sounds_of (sound_makes g.1 v.mover (alone own)))
  sound_enter k own (leads f) is = joins_below k f (w.weighed k) own is

  sound_withdraw : (k : K) → e.mode ≡ Between → (x : Slot K) → slot_for w s p k ≡ x → Sounds (withdraw_at w s e.number p k x)
  sound_withdraw k own empty is = as_it_was
  sound_withdraw k own (holds j) is =
      sounds_alike (alike_answer (with_slot_for w s p k empty) e.number _) (sounds_alike (alike_slot w s p k empty empty-leads) as_it_was)
  sound_withdraw k own (leads f) is = joins_below k f (w.opposed (w.weighed k)) own is

  module _ (lo hi : K) (num : numbered s.requests e.number ≡ Some (Count lo hi)) where
    -- a count is not plain
    no_plain : (m : Mode) (r : Request K) → numbered s.requests e.number ≡ Some r → is_some (sought r) ≡ true → m ≡ Between
    no_plain m r is wants =
        let both : Some (Count lo hi) ≡ Some r = sym num ∙ is in
        let one : Count lo hi ≡ r = cc in
        absurd (true≢false (sym wants ∙ ap (λ x. is_some (sought x)) (sym one)))

    pub count_joiner : (side : Side) (m : Mode) → (m ≡ e.mode) ⊎ (e.mode ≡ Between) → (f : ℕ) → slot_at s p side ≡ leads f → Joiner s last above p e.number m f
    count_joiner side m own f is = joiner v side f is m own (no_plain m)

    sound_shown : (side : Side) (m : Mode) → (m ≡ e.mode) ⊎ (e.mode ≡ Between) → (x : Slot K) → slot_at s p side ≡ x → Sounds (shown w s e.number lo hi m x)
    sound_shown side m own empty is = as_it_was
    sound_shown side m own (holds k) is = sounds_alike (alike_counted s e.number _) as_it_was
    sound_shown side m own (leads f) is = sounds_of (sound_joins (count_joiner side m own f is))

    -- a count that forks joins both places below
    sound_second : e.mode ≡ Between → (f : ℕ) → slot_at s p on_left ≡ leads f → (y : Slot K) → slot_at s p on_right ≡ y
        → Sounds (shown w (with_waiter s f e.number From) e.number lo hi Upto y)
    sound_second own f is empty other = sounds_of (sound_joins (count_joiner on_left From (inr own) f is))
    sound_second own f is (holds k) other =
        sounds_alike (alike_counted (with_waiter s f e.number From) e.number _) (sounds_of (sound_joins (count_joiner on_left From (inr own) f is)))
    sound_second own f is (leads g) other =
        sounds_of (sound_joins (joiner_again (count_joiner on_left From (inr own) f is) Upto g
        (λ same. v.mover.sounds.sides p f is (other ∙ ap leads (sym same)))
        (λ z. apart z) (λ z. open_end z) (λ z. shut_end z) (count_joiner on_right Upto (inr own) g other)))
      where
        apart : From ≡ Upto → ⊥
        apart z = let c : ◌≡◌ {A = ℕ} 0 1 = cc in omega arith

        open_end : From ≡ Between → ⊥
        open_end z = let c : ◌≡◌ {A = ℕ} 0 1 = cc in omega arith

        shut_end : Upto ≡ Between → ⊥
        shut_end z = let c : ◌≡◌ {A = ℕ} 0 1 = cc in omega arith

module _ {K T : Type 0} (w : Kinds K T) {s : State K T} {last above : ℕ → ℕ} {p : ℕ} {e : Waiter} (v : Freed s last above (suc p) e)
    (lo hi : K) (num : numbered s.requests e.number ≡ Some (Count lo hi)) (f : Place K T) (is : s.place (suc p) ≡ Some f) where
  slot_is : (side : Side) → slot_at s (suc p) side ≡ slot_on f side
  slot_is side = ap (λ o. elim o as (λ _. Slot K) [ None ↦ empty | Some x ↦ slot_on x side ]) is

  sound_fork : e.mode ≡ Between → (x : Slot K) → slot_at s (suc p) on_left ≡ x → Sounds (shown w (shown w s e.number lo hi From x) e.number lo hi Upto f.right)
  sound_fork own empty left = sound_shown w v lo hi num on_right Upto (inr own) f.right (slot_is on_right)
  sound_fork own (holds k) left = sound_shown w (freed_alike (alike_counted s e.number _) v) lo hi num on_right Upto (inr own) f.right (slot_is on_right)
  sound_fork own (leads g) left = sound_second w v lo hi num own g left f.right (slot_is on_right)

  -- the whole of one side is added, and the other shown
  sound_added : (side other : Side) (m : Mode) → m ≡ e.mode → Sounds (shown w (with_added w s e.number (whole w s (slot_on f side))) e.number lo hi m (slot_on f other))
  sound_added side other m own = sound_shown w (freed_alike (alike_counted s e.number _) v) lo hi num other m (inl own) (slot_on f other) (slot_is other)

  sound_steps : (m : Mode) → m ≡ e.mode → (above-split Below-split : Bool) → Sounds (stepped_all w s e.number lo hi f (count_steps m above-split Below-split))
  sound_steps Between own true b = sound_shown w v lo hi num on_right Between (inl own) f.right (slot_is on_right)
  sound_steps Between own false true = sound_shown w v lo hi num on_left Between (inl own) f.left (slot_is on_left)
  sound_steps Between own false false = sound_fork (sym own) f.left (slot_is on_left)
  sound_steps From own true b = sound_shown w v lo hi num on_right From (inl own) f.right (slot_is on_right)
  sound_steps From own false b = sound_added on_right on_left From own
  sound_steps Upto own a true = sound_shown w v lo hi num on_left Upto (inl own) f.left (slot_is on_left)
  sound_steps Upto own a false = sound_added on_left on_right Upto own

module _ {K T : Type 0} (w : Kinds K T) {s : State K T} {last above : ℕ → ℕ} where
  sound_count : (p : ℕ) (e : Waiter) → Freed s last above p e → (lo hi : K) → numbered s.requests e.number ≡ Some (Count lo hi) → Sounds (count_at w s e.number p lo hi e.mode)
  sound_count zero e v lo hi num = sound_shown w v lo hi num on_left Between (inr (v.from_gate refl)) s.slot refl
  sound_count (suc p) e v lo hi num = go (s.place (suc p)) refl
    where
      go : (o : Option (Place K T)) → s.place (suc p) ≡ o
          → Sounds (elim o [ None ↦ s | Some f ↦ stepped_all w s e.number lo hi f (count_steps e.mode (w.le f.split lo) (before w hi f.split)) ])
      go None is = sounds_of v.mover.sounds
      go (Some f) is = sound_steps w v lo hi num f is e.mode refl (w.le f.split lo) (before w hi f.split)

  sound_acted : (p : ℕ) (e : Waiter) → Freed s last above p e → (r : Request K) → numbered s.requests e.number ≡ Some r → Sounds (acted w s e.number p e.mode r)
  sound_acted p e v (Enter k) num =
      either (is_present (s.decision e.number)) _ _ (sounds_alike (alike_answer s e.number _) (sounds_of v.mover.sounds)) (sound_enter w v k (v.plain (Enter k) num refl) (slot_for w s p k) refl)
  sound_acted p e v (Withdraw k) num =
      either (is_present (s.decision e.number)) _ _ (sound_withdraw w v k (v.plain (Withdraw k) num refl) (slot_for w s p k) refl) (sounds_alike (alike_answer s e.number _) (sounds_of v.mover.sounds))
  sound_acted p e v (LookUp k) num = sounds_alike (alike_answer s e.number _) (sounds_of v.mover.sounds)
  sound_acted p e v (Count lo hi) num = sound_count p e v lo hi num

-- the head of a queue moves
pub sound_moved : {K T : Type 0} (w : Kinds K T) {s : State K T} → Sounds s → (p : ℕ) (e : Waiter) (q : List Waiter) (r : Request K) → s.queue p ≡ e ∷ q
    → numbered s.requests e.number ≡ Some r → Sounds (moved w s p e r)
sound_moved w h p e q r line num = sound_acted w p e (freed h.facts p e q line) r num
