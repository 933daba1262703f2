-- A request that has left a place's queue makes a place below it. Rests on SoundLeaves.
use Rattle.std.proofs.Common.{◌≡◌, ℕ, zero, suc, ◌<◌, ◌≤◌, true, ◌⊎◌, length, is_some, Some, None, Option, sym, refl, ap, ◌∙◌, subst, inl, inr, ⊎_elim, true≢false, arith}
use Rattle.std.proofs.lemmas.Bool.{cases_eq}
use Rattle.requests.specs.Stations.{is_station}
use Rattle.rules.specs.declared.mode.Mode.{Mode}
use Rattle.rules.specs.declared.mode.Mode.TheVariants.{Between}
use Rattle.rules.specs.States.{State, Slot, Place, empty, holds, leads}
use Rattle.rules.specs.Queues.{given, numbered, stands}
use Rattle.rules.specs.Changes.{put, with_gate, with_place}
use Rattle.rules.specs.Moves.{Side, on_left, on_right, slot_on, with_slot_on, side_of, slot_for, with_slot_for}
use Rattle.rules.specs.Kinds.{Kinds}
use Rattle.rules.specs.Sound.{stands_in, Rises, slot_at, is_made, SoundsBy}
use Rattle.rules.proofs.SoundQueues.{put_cases}
use Rattle.rules.proofs.SoundFrames.{none_there, slot-written, leads-made}
use Rattle.rules.proofs.SoundLeaves.{Mover}

left-right : on_left ≡ on_right → ⊥
left-right e = absurd cc

module _ {K T : Type 0} where
  -- s' is s with the place t made below p, on one side
  pub record Grown (s s' : State K T) (p : ℕ) (side : Side) (t : ℕ) : Type 0 where
    pub requests : s'.requests ≡ s.requests
    pub asker : s'.asker ≡ s.asker
    pub queue : s'.queue ≡ s.queue
    pub desk : s'.desk ≡ s.desk
    pub here : is_made s' t ≡ true
    pub others : (f : ℕ) → (f ≡ t → ⊥) → is_made s' f ≡ is_made s f
    pub slots : (q : ℕ) (side' : Side) (f : ℕ) → slot_at s' q side' ≡ leads f → ((q ≡ p) × (side' ≡ side) × (f ≡ t)) ⊎ (slot_at s q side' ≡ leads f)

  -- a place t written whose slots lead nowhere, over a state whose slot of p leads to t now
  module _ (w : Kinds K T) (s : State K T) (t : ℕ) (k : K) (fresh : Place K T) (nowhere : (side : Side) (g : ℕ) → slot_on fresh side ≡ leads g → ⊥) where
    grown_gate : Grown s (with_place (with_gate s (leads t)) t fresh) 0 on_left t
    grown_gate = record {
      requests = refl;
      asker = refl;
      queue = refl;
      desk = refl;
      here = put_cases s.place t (Some fresh) t (λ o. is_some o ≡ true) (λ _. refl) (λ ne. absurd (ne refl));
      others = λ f ne. put_cases s.place t (Some fresh) f (λ o. is_some o ≡ is_made s f) (λ e. absurd (ne e)) (λ _. refl);
      slots = slots;
    }
      where
        slots : (q : ℕ) (side : Side) (f : ℕ) → slot_at (with_place (with_gate s (leads t)) t fresh) q side ≡ leads f → ((q ≡ 0) × (side ≡ on_left) × (f ≡ t)) ⊎ (slot_at s q side ≡ leads f)
        slots zero on_left f e = inl (refl, refl, cc)
        slots zero on_right f e = inr e
        slots (suc q) side f e =
            inr (put_cases s.place t (Some fresh) (suc q) (λ o. elim o as (λ _. Slot K) [ None ↦ empty | Some x ↦ slot_on x side ] ≡ leads f → slot_at s (suc q) side ≡ leads f)
            (λ _ u. absurd (nowhere side f u)) (λ _ u. u) e)

    grown_place : (p : ℕ) (side : Side) (f : Place K T) → s.place (suc p) ≡ Some f
        → Grown s (with_place (with_place s (suc p) (with_slot_on f side (leads t))) t fresh) (suc p) side t
    grown_place p side f is = record {
      requests = refl;
      asker = refl;
      queue = refl;
      desk = refl;
      here = put_cases (put s.place (suc p) (Some (with_slot_on f side (leads t)))) t (Some fresh) t (λ o. is_some o ≡ true) (λ _. refl) (λ ne. absurd (ne refl));
      others = λ i ne. put_cases (put s.place (suc p) (Some (with_slot_on f side (leads t)))) t (Some fresh) i (λ o. is_some o ≡ is_made s i) (λ e. absurd (ne e))
          (λ _. put_cases s.place (suc p) (Some (with_slot_on f side (leads t))) i (λ o. is_some o ≡ is_made s i) (λ e. sym (ap is_some (ap s.place e ∙ is))) (λ _. refl));
      slots = slots;
    }
      where
        one : (g : ℕ) → ◌≡◌ {A = Slot K} (leads t) (leads g) → g ≡ t
        one g e = cc

        slots : (q : ℕ) (side' : Side) (g : ℕ) → slot_at (with_place (with_place s (suc p) (with_slot_on f side (leads t))) t fresh) q side' ≡ leads g
            → ((q ≡ suc p) × (side' ≡ side) × (g ≡ t)) ⊎ (slot_at s q side' ≡ leads g)
        slots zero on_left g e = inr e
        slots zero on_right g e = inr e
        slots (suc q) side' g e =
            put_cases (put s.place (suc p) (Some (with_slot_on f side (leads t)))) t (Some fresh) (suc q) (λ o. elim o as (λ _. Slot K) [ None ↦ empty | Some x ↦ slot_on x side' ] ≡ leads g → ((suc q ≡ suc p) × (side' ≡ side) × (g ≡ t)) ⊎ (slot_at s (suc q) side' ≡ leads g))
            (λ _ u. absurd (nowhere side' g u))
            (λ _. put_cases s.place (suc p) (Some (with_slot_on f side (leads t))) (suc q)
            (λ o. elim o as (λ _. Slot K) [ None ↦ empty | Some x ↦ slot_on x side' ] ≡ leads g → ((suc q ≡ suc p) × (side' ≡ side) × (g ≡ t)) ⊎ (slot_at s (suc q) side' ≡ leads g))
            (λ at u. ⊎_elim (λ new. inl (at, new.0, one g new.1))
            (λ old. inr (ap (λ o. elim o as (λ _. Slot K) [ None ↦ empty | Some x ↦ slot_on x side' ]) (ap s.place at ∙ is) ∙ old))
            (slot-written f side (leads t) side' g u))
            (λ _ u. inr u))
            e

    -- a slot that holds a key is that of the gate or of a place that is made
    pub grown : (p : ℕ) (j : K) → slot_for w s p k ≡ holds j → (side : Side) × Grown s (with_place (with_slot_for w s p k (leads t)) t fresh) p side t
    grown zero j is = (on_left, grown_gate)
    grown (suc p) j is = go (s.place (suc p)) refl is
      where
        go : (o : Option (Place K T)) → s.place (suc p) ≡ o → elim o as (λ _. Slot K) [ None ↦ empty | Some f ↦ slot_on f (side_of w f k) ] ≡ holds j
            → (side : Side) × Grown s (with_place (elim o [ None ↦ s | Some f ↦ with_place s (suc p) (with_slot_on f (side_of w f k) (leads t)) ]) t fresh) (suc p) side t
        go None e u = absurd cc
        go (Some f) e u = (side_of w f k, grown_place p (side_of w f k) f e)

  module _ {s s' : State K T} {last above : ℕ → ℕ} {p : ℕ} {side : Side} {t : ℕ} (g : Grown s s' p side t) (v : Mover s last above p t)
      (alone : (q : ℕ) → stands t (s.queue q) ≡ true → ⊥) where
    h : SoundsBy s last above
    h = v.sounds

    stood : (q x : ℕ) → stands x (s'.queue q) ≡ true → stands x (s.queue q) ≡ true
    stood q x st = ap (λ u. stands x (u q)) (sym g.queue) ∙ st

    -- who waits is not t
    other : (q x : ℕ) → stands x (s.queue q) ≡ true → x ≡ t → ⊥
    other q x st e = alone q (ap (λ i. stands i (s.queue q)) (sym e) ∙ st)

    -- nor is a place that was made
    older : (f : ℕ) → is_made s f ≡ true → f ≡ t → ⊥
    older f e same = true≢false (sym e ∙ ap (is_made s) same ∙ ap is_some v.unmade)

    still_in : (q x : ℕ) (m : Mode) → stands_in x m (s'.queue q) ≡ true → stands_in x m (s.queue q) ≡ true
    still_in q x m st = ap (λ u. stands_in x m (u q)) (sym g.queue) ∙ st

    counts : (x : ℕ) → x ≤ given s → x ≤ given s'
    counts x le = subst (λ rs. x ≤ length rs) (sym g.requests) le

    -- nobody waits there
    not-here : (q x : ℕ) → stands x (s.queue q) ≡ true → q ≡ t → ⊥
    not-here q x st e = ⊎_elim (λ z. let a = v.named.0 in omega arith) (λ is. older q is e) (h.at_places q x st)

    -- no slot of it led anywhere
    unled : (q : ℕ) (side' : Side) (f : ℕ) → slot_at s q side' ≡ leads f → q ≡ t → ⊥
    unled q side' f e same = ⊎_elim (λ z. let a = v.named.0 in omega arith) (λ is. older q is same) (leads-made s q side' f e)

    downs : (q : ℕ) (side' : Side) (f : ℕ) → slot_at s' q side' ≡ leads f
        → (is_made s' f ≡ true) × (put above t p f ≡ q) × (put last t t f ≤ put last t t q) × ((x : ℕ) → stands x (s'.queue q) ≡ true → put last t t f < x)
    downs q side' f e =
        ⊎_elim
        (λ new. let at = new.0 in let it = new.2 in (
          ap (is_made s') it ∙ g.here,
          put_cases above t p f (λ a. a ≡ q) (λ _. sym at) (λ ne. absurd (ne it)),
          put_cases last t t f (λ l. l ≤ put last t t q)
              (λ _. put_cases last t t q (λ l. t ≤ l) (λ _. omega arith) (λ _. let c : last q ≡ last p = ap last at in let b = v.low in omega arith))
              (λ ne. absurd (ne it)),
          λ x st. put_cases last t t f (λ l. l < x) (λ _. v.first x (ap (λ i. stands x (s.queue i)) (sym at) ∙ stood q x st)) (λ ne. absurd (ne it)),
        ))
        (λ old. let d = h.down q side' f old in let ne = older f d.0 in (
          g.others f ne ∙ d.0,
          put_cases above t p f (λ a. a ≡ q) (λ it. absurd (ne it)) (λ _. d.1),
          put_cases last t t f (λ l. l ≤ put last t t q) (λ it. absurd (ne it))
              (λ _. put_cases last t t q (λ l. last f ≤ l) (λ at. absurd (unled q side' f old at)) (λ _. d.2)),
          λ x st. put_cases last t t f (λ l. l < x) (λ it. absurd (ne it)) (λ _. d.3 x (stood q x st)),
        ))
        (g.slots q side' f e)

    side_clash : (q f : ℕ) → slot_at s' q on_left ≡ leads f → slot_at s' q on_right ≡ leads f → ⊥
    side_clash q f l r =
        ⊎_elim
        (λ new. ⊎_elim
        (λ new'. left-right (new.1 ∙ sym new'.1))
        (λ old'. older f (h.down q on_right f old').0 new.2)
        (g.slots q on_right f r))
        (λ old. ⊎_elim
        (λ new'. older f (h.down q on_left f old).0 new'.2)
        (λ old'. h.sides q f old old')
        (g.slots q on_right f r))
        (g.slots q on_left f l)

    made_there : (f : ℕ) → is_made s f ≡ true → is_made s' f ≡ true
    made_there f e = g.others f (older f e) ∙ e

    pub sound_makes : SoundsBy s' (put last t t) (put above t p)
    sound_makes = record {
      rises = λ q. subst (λ u. Rises 0 (u q)) (sym g.queue) (h.rises q);
      among = λ q x st. let old = stood q x st in let a = h.among q x old in
          (a.0, counts x a.1, put_cases last t t q (λ l. x ≤ l) (λ e. absurd (not-here q x old e)) (λ _. a.2));
      lasts = λ q. counts (put last t t q) (put_cases last t t q (λ l. l ≤ given s) (λ _. v.named.1) (λ _. h.lasts q));
      at_places = λ q x st. ⊎_elim (λ z. inl z) (λ e. inr (made_there q e)) (h.at_places q x (stood q x st));
      unmade = λ q x st. let old = stood q x st in none_there (s'.place x) (g.others x (other q x old) ∙ ap is_some (h.unmade q x old));
      made = λ f e. makers f e (cases_eq f t);
      down = downs;
      sides = side_clash;
      modes = λ q q' x m a b. h.modes q q' x m (still_in q x m a) (still_in q' x m b);
      between = λ q q' x m a b. h.between q q' x m (still_in q x Between a) (still_in q' x m b);
      at_gate = λ x m a. h.at_gate x m (still_in 0 x m a);
      plain = λ q x m r a num. h.plain q x m r (still_in q x m a) (ap (λ rs. numbered rs x) (sym g.requests) ∙ num);
      held = λ q x st. let a = h.held q x (stood q x st) in (
        ap (λ f. is_station (f x)) g.asker ∙ a.0,
        ap (λ d. (d (s'.asker x)).uncollected) g.desk ∙ ap (λ f. (s.desk (f x)).uncollected) g.asker ∙ a.1,
      );
      hands = λ n i e. let a = h.hands n i (ap (λ d. (d n).uncollected) (sym g.desk) ∙ e) in
          (a.0, ap (λ f. f i) g.asker ∙ a.1, a.2, counts i a.3);
    }
      where
        makers : (f : ℕ) → is_made s' f ≡ true → (f ≡ t) ⊎ (f ≡ t → ⊥) → (0 < f) × (f ≤ given s')
        makers f e (inl same) = (let a = v.named.0 in omega arith, counts f (let a = v.named.1 in omega arith))
        makers f e (inr ne) = let a = h.made f (sym (g.others f ne) ∙ e) in (a.0, counts f a.1)
