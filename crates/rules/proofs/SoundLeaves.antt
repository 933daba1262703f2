-- The head of a queue has left it and may join a place below: the state without it is sound, and it fits there. Rests on SoundFrames.
use Rattle.std.proofs.Common.{◌≡◌, ℕ, zero, suc, ◌<◌, ◌≤◌, true, List, ◌∷◌, is_some, Some, None, sym, refl, ap, ◌∙◌, subst, arith}
use Rattle.requests.specs.Stations.{is_station}
use Rattle.requests.specs.declared.request.Request.{Request}
use Rattle.rules.specs.declared.mode.Mode.{Mode}
use Rattle.rules.specs.declared.mode.Mode.TheVariants.{Between}
use Rattle.rules.specs.States.{State, Waiter, leads}
use Rattle.rules.specs.Queues.{given, numbered, stands, behind}
use Rattle.rules.specs.Changes.{with_queue}
use Rattle.rules.specs.Moves.{Side, on_left, on_right}
use Rattle.rules.specs.Carries.{sought}
use Rattle.rules.specs.Sound.{stands_in, Rises, slot_at, SoundsBy}
use Rattle.rules.proofs.SoundQueues.{put_cases, in_stands, head_stands, rises-above, behind-stands, behind_in, behind-rises}
use Rattle.rules.proofs.SoundFrames.{Alike, alike_stood, alike_in, alike_given, alike_none, alike_held, sound_alike}

module _ {K T : Type 0} where
  -- request t has left the queue of p
  pub record Mover (s : State K T) (last above : ℕ → ℕ) (p t : ℕ) : Type 0 where
    pub sounds : SoundsBy s last above
    pub low : t ≤ last p
    pub named : (0 < t) × (t ≤ given s)
    pub unmade : s.place t ≡ None
    pub held : (is_station (s.asker t) ≡ true) × ((s.desk (s.asker t)).uncollected ≡ Some t)
    -- it was the first there
    pub first : (x : ℕ) → stands x (s.queue p) ≡ true → t < x

  pub mover_alike : {s s' : State K T} {last above : ℕ → ℕ} {p t : ℕ} → Alike s s' → Mover s last above p t → Mover s' last above p t
  mover_alike {p = p} {t = t} a v = record {
    sounds = sound_alike a v.sounds;
    low = v.low;
    named = (v.named.0, alike_given a t v.named.1);
    unmade = alike_none a t v.unmade;
    held = alike_held a t v.held;
    first = λ x st. v.first x (alike_stood a p x st);
  }

  -- e was the head of p's queue and has left it
  pub record Freed (s : State K T) (last above : ℕ → ℕ) (p : ℕ) (e : Waiter) : Type 0 where
    pub mover : Mover s last above p e.number
    -- whoever came to a place below came before it
    pub under : (side : Side) (f : ℕ) → slot_at s p side ≡ leads f → last f < e.number
    -- where it waits still, it does so in another mode, and neither is Between
    pub elsewhere : (q : ℕ) (m : Mode) → stands_in e.number m (s.queue q) ≡ true → (m ≡ e.mode → ⊥) × (e.mode ≡ Between → ⊥) × (m ≡ Between → ⊥)
    pub from_gate : p ≡ 0 → e.mode ≡ Between
    pub plain : (r : Request K) → numbered s.requests e.number ≡ Some r → is_some (sought r) ≡ true → e.mode ≡ Between

  pub freed_alike : {s s' : State K T} {last above : ℕ → ℕ} {p : ℕ} {e : Waiter} → Alike s s' → Freed s last above p e → Freed s' last above p e
  freed_alike {p = p} {e = e} a v = record {
    mover = mover_alike a v.mover;
    under = λ side f is. v.under side f (a.slots p side f is);
    elsewhere = λ q m st. v.elsewhere q m (alike_in a q e.number m st);
    from_gate = v.from_gate;
    plain = λ r num. v.plain r (ap (λ rs. numbered rs e.number) (sym a.requests) ∙ num);
  }

  module _ {s : State K T} {last above : ℕ → ℕ} (h : SoundsBy s last above) (p : ℕ) where
    -- the state without the head
    abbrev pub left_behind : State K T
    left_behind = with_queue s p (behind (s.queue p))

    stood : (q x : ℕ) → stands x (left_behind.queue q) ≡ true → stands x (s.queue q) ≡ true
    stood q x =
        put_cases s.queue p (behind (s.queue p)) q (λ u. stands x u ≡ true → stands x (s.queue q) ≡ true)
        (λ e st. ap (λ i. stands x (s.queue i)) e ∙ behind-stands x (s.queue p) st) (λ _ st. st)

    stood_in : (q x : ℕ) (m : Mode) → stands_in x m (left_behind.queue q) ≡ true → stands_in x m (s.queue q) ≡ true
    stood_in q x m =
        put_cases s.queue p (behind (s.queue p)) q (λ u. stands_in x m u ≡ true → stands_in x m (s.queue q) ≡ true)
        (λ e st. ap (λ i. stands_in x m (s.queue i)) e ∙ behind_in x m (s.queue p) st) (λ _ st. st)

    slots : (q : ℕ) (side : Side) (f : ℕ) → slot_at left_behind q side ≡ leads f → slot_at s q side ≡ leads f
    slots zero on_left f e = e
    slots zero on_right f e = e
    slots (suc q) side f e = e

    pub sound_leaves : SoundsBy left_behind last above
    sound_leaves = record {
      rises = λ q. put_cases s.queue p (behind (s.queue p)) q (Rises 0) (λ _. behind-rises 0 (s.queue p) (h.rises p)) (λ _. h.rises q);
      among = λ q x st. h.among q x (stood q x st);
      lasts = h.lasts;
      at_places = λ q x st. h.at_places q x (stood q x st);
      unmade = λ q x st. h.unmade q x (stood q x st);
      made = h.made;
      down = λ q side f e. let d = h.down q side f (slots q side f e) in (d.0, d.1, d.2, λ x st. d.3 x (stood q x st));
      sides = λ q f l r. h.sides q f (slots q on_left f l) (slots q on_right f r);
      modes = λ q q' x m u v. h.modes q q' x m (stood_in q x m u) (stood_in q' x m v);
      between = λ q q' x m u v. h.between q q' x m (stood_in q x Between u) (stood_in q' x m v);
      at_gate = λ x m u. h.at_gate x m (stood_in 0 x m u);
      plain = λ q x m r u. h.plain q x m r (stood_in q x m u);
      held = λ q x st. h.held q x (stood q x st);
      hands = h.hands;
    }

    module _ (e : Waiter) (q : List Waiter) (line : s.queue p ≡ e ∷ q) where
      was_in : stands_in e.number e.mode (s.queue p) ≡ true
      was_in = ap (stands_in e.number e.mode) line ∙ head_stands e q

      pub head_stood : stands e.number (s.queue p) ≡ true
      head_stood = in_stands e.number e.mode (s.queue p) was_in

      -- all behind it have higher numbers
      pub behind_head : (x : ℕ) → stands x (behind (s.queue p)) ≡ true → e.number < x
      behind_head x st =
          let rise : Rises 0 (e ∷ q) = subst (Rises 0) line (h.rises p) in
          rises-above e.number x q rise.1 (ap (λ u. stands x (behind u)) (sym line) ∙ st)

      behind-here : (x : ℕ) → stands x (left_behind.queue p) ≡ true → e.number < x
      behind-here x = put_cases s.queue p (behind (s.queue p)) p (λ u. stands x u ≡ true → e.number < x) (λ _ st. behind_head x st) (λ ne. absurd (ne refl))

      -- its own mode is free
      gone : (i : ℕ) (m : Mode) → stands_in e.number m (left_behind.queue i) ≡ true → m ≡ e.mode → ⊥
      gone i m st same =
          let own : stands_in e.number e.mode (left_behind.queue i) ≡ true = subst (λ v. stands_in e.number v (left_behind.queue i) ≡ true) same st in
          let at : i ≡ p = h.modes i p e.number e.mode (stood_in i e.number e.mode own) was_in in
          let here : stands_in e.number e.mode (left_behind.queue p) ≡ true = subst (λ j. stands_in e.number e.mode (left_behind.queue j) ≡ true) at own in
          let more = behind-here e.number (in_stands e.number e.mode (left_behind.queue p) here) in
          omega (arith, more)

      pub freed : Freed left_behind last above p e
      freed =
          let v = h.among p e.number head_stood in
          record {
            mover = record {
              sounds = sound_leaves;
              low = v.2;
              named = (v.0, v.1);
              unmade = h.unmade p e.number head_stood;
              held = h.held p e.number head_stood;
              first = behind-here;
            };
            under = λ side f is. (h.down p side f (slots p side f is)).3 e.number head_stood;
            elsewhere = λ i m st. (
              gone i m st,
              (λ own. gone i m st (h.between p i e.number m (subst (λ v. stands_in e.number v (s.queue p) ≡ true) own was_in) (stood_in i e.number m st) ∙ sym own)),
              (λ is. gone i m st (is ∙ sym (h.between i p e.number e.mode (subst (λ v. stands_in e.number v (s.queue i) ≡ true) is (stood_in i e.number m st)) was_in))),
            );
            from_gate = λ z. h.at_gate e.number e.mode (ap (λ i. stands_in e.number e.mode (s.queue i)) (sym z) ∙ was_in);
            plain = λ r num no. h.plain p e.number e.mode r was_in num no;
          }
