-- A request that has left a place's queue joins the queue of a place below it. Rests on SoundLeaves.
use Rattle.std.proofs.Common.{◌≡◌, ℕ, zero, suc, ◌<◌, ◌≤◌, true, ◌⊎◌, List, [], ◌∷◌, ◌++◌, is_some, Some, sym, refl, ap, ◌∙◌, subst, inl, inr, ⊎_elim, arith}
use Rattle.requests.specs.Stations.{is_station}
use Rattle.requests.specs.declared.request.Request.{Request}
use Rattle.rules.specs.declared.mode.Mode.{Mode}
use Rattle.rules.specs.declared.mode.Mode.TheVariants.{Between}
use Rattle.rules.specs.States.{State, Waiter, leads}
use Rattle.rules.specs.Queues.{given, numbered, stands}
use Rattle.rules.specs.Changes.{put, with_waiter}
use Rattle.rules.specs.Moves.{Side, on_left, on_right}
use Rattle.rules.specs.Carries.{sought}
use Rattle.rules.specs.Sound.{stands_in, Rises, slot_at, is_made, SoundsBy}
use Rattle.rules.proofs.SoundQueues.{put_cases, stands-joined, in_joined, rises-joined}
use Rattle.rules.proofs.SoundFrames.{Alike, alike_in}
use Rattle.rules.proofs.SoundLeaves.{Mover, Freed, mover_alike}

module _ {K T : Type 0} where
  -- request t, which has left p, may join the place f below in this mode
  pub record Joiner (s : State K T) (last above : ℕ → ℕ) (p t : ℕ) (m : Mode) (f : ℕ) : Type 0 where
    pub mover : Mover s last above p t
    pub made : is_made s f ≡ true
    pub hangs : above f ≡ p
    pub under : last f < t
    pub free : (q : ℕ) (m' : Mode) → stands_in t m' (s.queue q) ≡ true → (m' ≡ m → ⊥) × (m ≡ Between → ⊥) × (m' ≡ Between → ⊥)
    pub plain : (r : Request K) → numbered s.requests t ≡ Some r → is_some (sought r) ≡ true → m ≡ Between

  -- it may, in its own mode or, from Between, in any that its request has
  pub joiner : {s : State K T} {last above : ℕ → ℕ} {p : ℕ} {e : Waiter} → Freed s last above p e → (side : Side) (f : ℕ) → slot_at s p side ≡ leads f
      → (m : Mode) → (m ≡ e.mode) ⊎ (e.mode ≡ Between) → ((r : Request K) → numbered s.requests e.number ≡ Some r → is_some (sought r) ≡ true → m ≡ Between)
      → Joiner s last above p e.number m f
  joiner {s = s} {p = p} {e = e} v side f is m own plain =
      let d = v.mover.sounds.down p side f is in
      record {
        mover = v.mover;
        made = d.0;
        hangs = d.1;
        under = v.under side f is;
        free = λ q m' st. let far = v.elsewhere q m' st in
            ⊎_elim
            (λ same. ((λ z. far.0 (z ∙ same)), (λ z. far.1 (sym same ∙ z)), far.2))
            (λ between. absurd (far.1 between))
            own;
        plain = plain;
      }

  pub joiner_alike : {s s' : State K T} {last above : ℕ → ℕ} {p t : ℕ} {m : Mode} {f : ℕ} → Alike s s' → Joiner s last above p t m f → Joiner s' last above p t m f
  joiner_alike {t = t} {f = f} a j = record {
    mover = mover_alike a j.mover;
    made = a.made f ∙ j.made;
    hangs = j.hangs;
    under = j.under;
    free = λ q m' st. j.free q m' (alike_in a q t m' st);
    plain = λ r num. j.plain r (ap (λ rs. numbered rs t) (sym a.requests) ∙ num);
  }

  module _ {s : State K T} {last above : ℕ → ℕ} {p t : ℕ} {m : Mode} {f : ℕ} (j : Joiner s last above p t m f) where
    abbrev joiner_itself : Waiter
    joiner_itself = record { number = t; mode = m }

    abbrev longer : List Waiter
    longer = s.queue f ++ (joiner_itself ∷ [])

    h : SoundsBy s last above
    h = j.mover.sounds

    stood : (q x : ℕ) → stands x (put s.queue f longer q) ≡ true → (stands x (s.queue q) ≡ true) ⊎ ((q ≡ f) × (t ≡ x))
    stood q x =
        put_cases s.queue f longer q (λ u. stands x u ≡ true → (stands x (s.queue q) ≡ true) ⊎ ((q ≡ f) × (t ≡ x)))
        (λ e st. ⊎_elim (λ old. inl (ap (λ i. stands x (s.queue i)) e ∙ old)) (λ new. inr (e, new)) (stands-joined x (s.queue f) joiner_itself st))
        (λ _ st. inl st)

    stood_in : (q x : ℕ) (m' : Mode) → stands_in x m' (put s.queue f longer q) ≡ true → (stands_in x m' (s.queue q) ≡ true) ⊎ ((q ≡ f) × (t ≡ x) × (m ≡ m'))
    stood_in q x m' =
        put_cases s.queue f longer q (λ u. stands_in x m' u ≡ true → (stands_in x m' (s.queue q) ≡ true) ⊎ ((q ≡ f) × (t ≡ x) × (m ≡ m')))
        (λ e st. ⊎_elim (λ old. inl (ap (λ i. stands_in x m' (s.queue i)) e ∙ old)) (λ new. inr (e, new.0, new.1)) (in_joined x m' (s.queue f) joiner_itself st))
        (λ _ st. inl st)

    slots : (q : ℕ) (side : Side) (g : ℕ) → slot_at (with_waiter s f t m) q side ≡ leads g → slot_at s q side ≡ leads g
    slots zero on_left g e = e
    slots zero on_right g e = e
    slots (suc q) side g e = e

    -- its own place is not that below
    pub joiner_apart : p ≡ f → ⊥
    joiner_apart e = let a = j.under in let b = j.mover.low in let c : last p ≡ last f = ap last e in omega arith

    pub joiner_last : (x : ℕ) → stands x (s.queue f) ≡ true → x < t
    joiner_last x st = let a = (h.among f x st).2 in let b = j.under in omega arith

    nowhere_in : (q x : ℕ) (m' : Mode) → stands_in x m' (s.queue q) ≡ true → t ≡ x → (m' ≡ m → ⊥) × (m ≡ Between → ⊥) × (m' ≡ Between → ⊥)
    nowhere_in q x m' st e = j.free q m' (ap (λ i. stands_in i m' (s.queue q)) e ∙ st)

    among : (q x : ℕ) → stands x (put s.queue f longer q) ≡ true → (0 < x) × (x ≤ given s) × (x ≤ put last f t q)
    among q x st =
        ⊎_elim
        (λ old. let v = h.among q x old in
        (v.0, v.1, put_cases last f t q (λ l. x ≤ l) (λ e. let a = v.2 in let b = j.under in let c : last q ≡ last f = ap last e in omega arith) (λ _. v.2)))
        (λ new. let a = j.mover.named in let same = new.1 in
        (omega (arith, a.0), omega (arith, a.1), put_cases last f t q (λ l. x ≤ l) (λ _. omega arith) (λ ne. absurd (ne new.0))))
        (stood q x st)

    falls : (q : ℕ) (side : Side) (g : ℕ) → slot_at s q side ≡ leads g → put last f t g ≤ put last f t q
    falls q side g is =
        let d = h.down q side g is in
        put_cases last f t g (λ l. l ≤ put last f t q)
        (λ e. put_cases last f t q (λ l. t ≤ l) (λ _. omega arith)
        (λ _. let at : q ≡ p = sym d.1 ∙ ap above e ∙ j.hangs in let c : last q ≡ last p = ap last at in let a = j.mover.low in omega arith))
        (λ _. put_cases last f t q (λ l. last g ≤ l)
        (λ e. let c : last q ≡ last f = ap last e in let a = d.2 in let b = j.under in omega arith)
        (λ _. d.2))

    before : (q : ℕ) (side : Side) (g : ℕ) → slot_at s q side ≡ leads g → (x : ℕ) → stands x (put s.queue f longer q) ≡ true → put last f t g < x
    before q side g is x st =
        let d = h.down q side g is in
        put_cases last f t g (λ l. l < x)
        (λ e. let at : q ≡ p = sym d.1 ∙ ap above e ∙ j.hangs in
        ⊎_elim
        (λ old. j.mover.first x (ap (λ i. stands x (s.queue i)) (sym at) ∙ old))
        (λ new. absurd (joiner_apart (sym at ∙ new.0)))
        (stood q x st))
        (λ _. ⊎_elim
        (λ old. d.3 x old)
        (λ new. let c : last q ≡ last f = ap last new.0 in let a = d.2 in let b = j.under in let same = new.1 in omega arith)
        (stood q x st))

    modes : (q q' x : ℕ) (m' : Mode) → stands_in x m' (put s.queue f longer q) ≡ true → stands_in x m' (put s.queue f longer q') ≡ true → q ≡ q'
    modes q q' x m' u v =
        ⊎_elim
        (λ old. ⊎_elim
        (λ old'. h.modes q q' x m' old old')
        (λ new'. absurd ((nowhere_in q x m' old new'.1).0 (sym new'.2)))
        (stood_in q' x m' v))
        (λ new. ⊎_elim
        (λ old'. absurd ((nowhere_in q' x m' old' new.1).0 (sym new.2)))
        (λ new'. new.0 ∙ sym new'.0)
        (stood_in q' x m' v))
        (stood_in q x m' u)

    between : (q q' x : ℕ) (m' : Mode) → stands_in x Between (put s.queue f longer q) ≡ true → stands_in x m' (put s.queue f longer q') ≡ true → m' ≡ Between
    between q q' x m' u v =
        ⊎_elim
        (λ old. ⊎_elim
        (λ old'. h.between q q' x m' old old')
        (λ new'. absurd ((nowhere_in q x Between old new'.1).2 refl))
        (stood_in q' x m' v))
        (λ new. ⊎_elim
        (λ old'. absurd ((nowhere_in q' x m' old' new.1).1 new.2))
        (λ new'. sym new'.2 ∙ new.2)
        (stood_in q' x m' v))
        (stood_in q x Between u)

    pub sound_joins : SoundsBy (with_waiter s f t m) (put last f t) above
    sound_joins = record {
      rises = λ q. put_cases s.queue f longer q (Rises 0) (λ _. rises-joined 0 (s.queue f) joiner_itself (h.rises f) j.mover.named.0 joiner_last) (λ _. h.rises q);
      among = among;
      lasts = λ q. put_cases last f t q (λ l. l ≤ given s) (λ _. j.mover.named.1) (λ _. h.lasts q);
      at_places = λ q x st. ⊎_elim (λ old. h.at_places q x old) (λ new. inr (ap (is_made s) new.0 ∙ j.made)) (stood q x st);
      unmade = λ q x st. ⊎_elim (λ old. h.unmade q x old) (λ new. ap s.place (sym new.1) ∙ j.mover.unmade) (stood q x st);
      made = h.made;
      down = λ q side g e. let is = slots q side g e in let d = h.down q side g is in (d.0, d.1, falls q side g is, before q side g is);
      sides = λ q g l r. h.sides q g (slots q on_left g l) (slots q on_right g r);
      modes = modes;
      between = between;
      at_gate = λ x m' u. ⊎_elim (λ old. h.at_gate x m' old) (λ new. absurd (let v = h.made f j.made in let z = new.0 in omega (arith, v.0))) (stood_in 0 x m' u);
      plain = λ q x m' r u num no. ⊎_elim (λ old. h.plain q x m' r old num no) (λ new. sym new.2 ∙ j.plain r (ap (numbered s.requests) new.1 ∙ num) no) (stood_in q x m' u);
      held = λ q x st. ⊎_elim (λ old. h.held q x old) (λ new. subst (λ i. (is_station (s.asker i) ≡ true) × ((s.desk (s.asker i)).uncollected ≡ Some i)) new.1 j.mover.held) (stood q x st);
      hands = h.hands;
    }

    -- it may then join another place below, in another mode; neither mode is Between
    pub joiner_again : (m' : Mode) (g : ℕ) → (f ≡ g → ⊥) → (m ≡ m' → ⊥) → (m ≡ Between → ⊥) → (m' ≡ Between → ⊥) → Joiner s last above p t m' g → Joiner (with_waiter s f t m) (put last f t) above p t m' g
    joiner_again m' g ne other one two k = record {
      mover = record {
        sounds = sound_joins;
        low = put_cases last f t p (λ l. t ≤ l) (λ _. omega arith) (λ _. j.mover.low);
        named = j.mover.named;
        unmade = j.mover.unmade;
        held = j.mover.held;
        first = λ x st. ⊎_elim (λ old. j.mover.first x old) (λ new. absurd (joiner_apart new.0)) (stood p x st);
      };
      made = k.made;
      hangs = k.hangs;
      under = put_cases last f t g (λ l. l < t) (λ e. absurd (ne (sym e))) (λ _. k.under);
      free = λ q m'' st.
          ⊎_elim
          (λ old. k.free q m'' old)
          (λ new. ((λ z. other (new.2 ∙ z)), two, (λ z. one (new.2 ∙ z))))
          (stood_in q t m'' st);
      plain = k.plain;
    }
