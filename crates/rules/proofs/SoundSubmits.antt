-- A request more, and a request collected, keep soundness. Rests on SoundMoves.
use Rattle.std.proofs.Common.{◌≡◌, ℕ, zero, suc, ◌<◌, ◌≤◌, true, not, ◌⊎◌, List, [], ◌∷◌, ◌++◌, Some, None, Option, sym, refl, ap, ◌∙◌, subst, inl, inr, ⊎_elim, true≢false, arith, length-append}
use Rattle.std.proofs.lemmas.Bool.{false_from_ne_true}
use Rattle.requests.specs.Stations.{is_station}
use Rattle.requests.specs.declared.request.Request.{Request}
use Rattle.rules.specs.declared.mode.Mode.{Mode}
use Rattle.rules.specs.declared.mode.Mode.TheVariants.{Between}
use Rattle.rules.specs.States.{State, Waiter, leads}
use Rattle.rules.specs.Queues.{given, stands, waits, finished}
use Rattle.rules.specs.Changes.{put, with_request, with_waiter, with_uncollected}
use Rattle.rules.specs.Moves.{Side, on_left, on_right}
use Rattle.rules.specs.Sound.{stands_in, Rises, slot_at, is_made, SoundsBy}
use Rattle.rules.proofs.Times.{numbered_append}
use Rattle.rules.proofs.Finals.{lowest_finds}
use Rattle.rules.proofs.SoundQueues.{put_cases, in_stands, stands-joined, in_joined, rises-joined}
use Rattle.rules.proofs.SoundFrames.{none_there}

some_one : {X : Type 0} (x y : X) → Some x ≡ Some y → x ≡ y
some_one x y e = cc

none_some : {X : Type 0} (x : X) → ◌≡◌ {A = Option X} None (Some x) → ⊥
none_some x e = absurd cc

module _ {K T : Type 0} {s : State K T} {last above : ℕ → ℕ} (h : SoundsBy s last above) where
  module _ (n : ℕ) (r : Request K) (station : is_station n ≡ true) (idle : (s.desk n).uncollected ≡ None) where
    -- the new number
    abbrev new : ℕ
    new = suc (given s)

    abbrev itself : Waiter
    itself = record { number = new; mode = Between }

    abbrev submitted : State K T
    submitted = with_uncollected (with_waiter (with_request s new n r) 0 new Between) n (Some new)

    abbrev longer : List Waiter
    longer = s.queue 0 ++ (itself ∷ [])

    more : given submitted ≡ new
    more = rw (length-append s.requests (r ∷ [])) (omega arith)

    room : (x : ℕ) → x ≤ given s → x ≤ given submitted
    room x le = let m = more in omega arith

    stood : (q x : ℕ) → stands x (put s.queue 0 longer q) ≡ true → (stands x (s.queue q) ≡ true) ⊎ ((q ≡ 0) × (new ≡ x))
    stood q x =
        put_cases s.queue 0 longer q (λ u. stands x u ≡ true → (stands x (s.queue q) ≡ true) ⊎ ((q ≡ 0) × (new ≡ x)))
        (λ e st. ⊎_elim (λ old. inl (ap (λ i. stands x (s.queue i)) e ∙ old)) (λ fresh. inr (e, fresh)) (stands-joined x (s.queue 0) itself st))
        (λ _ st. inl st)

    stood_in : (q x : ℕ) (m : Mode) → stands_in x m (put s.queue 0 longer q) ≡ true → (stands_in x m (s.queue q) ≡ true) ⊎ ((q ≡ 0) × (new ≡ x) × (Between ≡ m))
    stood_in q x m =
        put_cases s.queue 0 longer q (λ u. stands_in x m u ≡ true → (stands_in x m (s.queue q) ≡ true) ⊎ ((q ≡ 0) × (new ≡ x) × (Between ≡ m)))
        (λ e st. ⊎_elim (λ old. inl (ap (λ i. stands_in x m (s.queue i)) e ∙ old)) (λ fresh. inr (e, fresh.0, fresh.1)) (in_joined x m (s.queue 0) itself st))
        (λ _ st. inl st)

    slots : (q : ℕ) (side : Side) (f : ℕ) → slot_at submitted q side ≡ leads f → slot_at s q side ≡ leads f
    slots zero on_left f e = e
    slots zero on_right f e = e
    slots (suc q) side f e = e

    -- who waits has another number
    older : (q x : ℕ) → stands x (s.queue q) ≡ true → x ≡ new → ⊥
    older q x st e = let v = (h.among q x st).1 in omega arith

    older_in : (q x : ℕ) (m : Mode) → stands_in x m (s.queue q) ≡ true → new ≡ x → ⊥
    older_in q x m st e = older q x (in_stands x m (s.queue q) st) (sym e)

    -- its station is another one
    asked : (i : ℕ) → (i ≡ new → ⊥) → submitted.asker i ≡ s.asker i
    asked i ne = put_cases s.asker new n i (λ a. a ≡ s.asker i) (λ e. absurd (ne e)) (λ _. refl)

    busy : (i x : ℕ) → (s.desk i).uncollected ≡ Some x → (submitted.desk i).uncollected ≡ Some x
    busy i x e =
        put_cases s.desk n (record { note = (s.desk n).note; uncollected = Some new }) i (λ d. d.uncollected ≡ Some x)
        (λ at. absurd (none_some x (sym idle ∙ ap (λ j. (s.desk j).uncollected) (sym at) ∙ e))) (λ _. e)

    held_new : (x : ℕ) → new ≡ x → (is_station (submitted.asker x) ≡ true) × ((submitted.desk (submitted.asker x)).uncollected ≡ Some x)
    held_new x e =
        let own : submitted.asker x ≡ n = put_cases s.asker new n x (λ a. a ≡ n) (λ _. refl) (λ ne. absurd (ne (sym e))) in
        let holds-it : (submitted.desk n).uncollected ≡ Some x =
        put_cases s.desk n (record { note = (s.desk n).note; uncollected = Some new }) n (λ d. d.uncollected ≡ Some x) (λ _. ap Some e) (λ ne. absurd (ne refl)) in
        (ap is_station own ∙ station, ap (λ i. (submitted.desk i).uncollected) own ∙ holds-it)

    held_old : (q x : ℕ) → stands x (s.queue q) ≡ true → (is_station (submitted.asker x) ≡ true) × ((submitted.desk (submitted.asker x)).uncollected ≡ Some x)
    held_old q x st =
        let v = h.held q x st in
        let own = asked x (older q x st) in
        (ap is_station own ∙ v.0, ap (λ i. (submitted.desk i).uncollected) own ∙ busy (s.asker x) x v.1)

    hands : (i t : ℕ) → (submitted.desk i).uncollected ≡ Some t → (is_station i ≡ true) × (submitted.asker t ≡ i) × (0 < t) × (t ≤ given submitted)
    hands i t =
        put_cases s.desk n (record { note = (s.desk n).note; uncollected = Some new }) i
        (λ d. d.uncollected ≡ Some t → (is_station i ≡ true) × (submitted.asker t ≡ i) × (0 < t) × (t ≤ given submitted))
        (λ at e. let same : new ≡ t = some_one new t e in let m = more in (
          ap is_station at ∙ station,
          put_cases s.asker new n t (λ a. a ≡ i) (λ _. sym at) (λ ne. absurd (ne (sym same))),
          omega arith,
          omega arith,
        ))
        (λ _ e. let v = h.hands i t e in let le = v.3 in
        (v.0, asked t (λ same. omega arith) ∙ v.1, v.2, room t v.3))

    placed : (f : ℕ) → is_made s f ≡ true → put last 0 new f ≡ last f
    placed f e = put_cases last 0 new f (λ l. l ≡ last f) (λ z. absurd (let v = (h.made f e).0 in omega arith)) (λ _. refl)

    downs : (q : ℕ) (side : Side) (f : ℕ) → slot_at s q side ≡ leads f
        → (is_made s f ≡ true) × (above f ≡ q) × (put last 0 new f ≤ put last 0 new q) × ((x : ℕ) → stands x (put s.queue 0 longer q) ≡ true → put last 0 new f < x)
    downs q side f e =
        let d = h.down q side f e in
        let same = placed f d.0 in
        let most = h.lasts f in (
          d.0,
          d.1,
          put_cases last 0 new q (λ l. put last 0 new f ≤ l) (λ _. subst (λ l. l ≤ new) (sym same) (omega arith)) (λ _. subst (λ l. l ≤ last q) (sym same) d.2),
          λ x st. subst (λ l. l < x) (sym same) (⊎_elim (λ old. d.3 x old) (λ fresh. let is = fresh.1 in omega arith) (stood q x st)),
        )

    pub sound_submitted : SoundsBy submitted (put last 0 new) above
    sound_submitted = record {
      rises = λ q. put_cases s.queue 0 longer q (Rises 0)
          (λ _. rises-joined 0 (s.queue 0) itself (h.rises 0) (omega arith) (λ x st. let v = (h.among 0 x st).1 in omega arith)) (λ _. h.rises q);
      among = λ q x st. ⊎_elim
          (λ old. let v = h.among q x old in let le = v.1 in
          (v.0, room x v.1, put_cases last 0 new q (λ l. x ≤ l) (λ _. omega arith) (λ _. v.2)))
          (λ fresh. let m = more in let is = fresh.1 in
          (omega arith, omega arith, put_cases last 0 new q (λ l. x ≤ l) (λ _. omega arith) (λ ne. absurd (ne fresh.0))))
          (stood q x st);
      lasts = λ q. put_cases last 0 new q (λ l. l ≤ given submitted) (λ _. let m = more in omega arith) (λ _. room (last q) (h.lasts q));
      at_places = λ q x st. ⊎_elim (λ old. h.at_places q x old) (λ fresh. inl fresh.0) (stood q x st);
      unmade = λ q x st. ⊎_elim
          (λ old. h.unmade q x old)
          (λ fresh. none_there (s.place x) (false_from_ne_true (is_made s x) (λ e. let v = (h.made x e).1 in let is = fresh.1 in omega arith)))
          (stood q x st);
      made = λ f e. let v = h.made f e in (v.0, room f v.1);
      down = λ q side f e. downs q side f (slots q side f e);
      sides = λ q f l u. h.sides q f (slots q on_left f l) (slots q on_right f u);
      modes = λ q q' x m a b. ⊎_elim
          (λ old. ⊎_elim (λ old'. h.modes q q' x m old old') (λ fresh. absurd (older_in q x m old fresh.1)) (stood_in q' x m b))
          (λ fresh. ⊎_elim (λ old'. absurd (older_in q' x m old' fresh.1)) (λ fresh'. fresh.0 ∙ sym fresh'.0) (stood_in q' x m b))
          (stood_in q x m a);
      between = λ q q' x m a b. ⊎_elim
          (λ old. ⊎_elim (λ old'. h.between q q' x m old old') (λ fresh. sym fresh.2) (stood_in q' x m b))
          (λ fresh. ⊎_elim (λ old'. absurd (older_in q' x m old' fresh.1)) (λ fresh'. sym fresh'.2) (stood_in q' x m b))
          (stood_in q x Between a);
      at_gate = λ x m a. ⊎_elim (λ old. h.at_gate x m old) (λ fresh. sym fresh.2) (stood_in 0 x m a);
      plain = λ q x m r' a num no. ⊎_elim
          (λ old. h.plain q x m r' old (sym (numbered_append s.requests r x (h.among q x (in_stands x m (s.queue q) old)).1) ∙ num) no)
          (λ fresh. sym fresh.2) (stood_in q x m a);
      held = λ q x st. ⊎_elim (λ old. held_old q x old) (λ fresh. held_new x fresh.1) (stood q x st);
      hands = hands;
    }

  -- a finished request is collected
  module _ (n t : ℕ) (own : (s.desk n).uncollected ≡ Some t) (done : finished s t ≡ true) where
    -- it waits nowhere
    nowhere : (q : ℕ) → stands t (s.queue q) ≡ true → ⊥
    nowhere q st =
        let low : q < suc (given s) = ⊎_elim (λ z. omega arith) (λ e. let v = (h.made q e).1 in omega arith) (h.at_places q t st) in
        true≢false (sym done ∙ ap not (lowest_finds (waits s t) (suc (given s)) q low st))

    slots_kept : (q : ℕ) (side : Side) (f : ℕ) → slot_at (with_uncollected s n None) q side ≡ leads f → slot_at s q side ≡ leads f
    slots_kept zero on_left f e = e
    slots_kept zero on_right f e = e
    slots_kept (suc q) side f e = e

    pub sound_collected : SoundsBy (with_uncollected s n None) last above
    sound_collected = record {
      rises = h.rises;
      among = h.among;
      lasts = h.lasts;
      at_places = h.at_places;
      unmade = h.unmade;
      made = h.made;
      down = λ q side f e. h.down q side f (slots_kept q side f e);
      sides = λ q f l r. h.sides q f (slots_kept q on_left f l) (slots_kept q on_right f r);
      modes = h.modes;
      between = h.between;
      at_gate = h.at_gate;
      plain = h.plain;
      held = λ q x st. let v = h.held q x st in (
        v.0,
        put_cases s.desk n (record { note = (s.desk n).note; uncollected = None }) (s.asker x) (λ d. d.uncollected ≡ Some x)
            (λ at. absurd (nowhere q (ap (λ i. stands i (s.queue q)) (some_one t x (sym own ∙ ap (λ i. (s.desk i).uncollected) (sym at) ∙ v.1)) ∙ st)))
            (λ _. v.1),
      );
      hands = λ i x. put_cases s.desk n (record { note = (s.desk n).note; uncollected = None }) i
          (λ d. d.uncollected ≡ Some x → (is_station i ≡ true) × (s.asker x ≡ i) × (0 < x) × (x ≤ given s))
          (λ _ e. absurd (none_some x e)) (λ _ e. h.hands i x e);
    }
