-- Every register is sound: the opening is, and every call keeps it, whatever the kinds of key and tally. Rests on SoundMoves and SoundSubmits.
use Rattle.std.proofs.Common.{◌≡◌, ℕ, zero, suc, Bool, true, false, cond, not, eqb, leb, List, [], ◌∷◌, is_some, Some, None, Ok, Err, Option, Result, sym, refl, ap, ◌∙◌, true≢false, arith}
use mathlib.Core.Logic.{∥∥₁_map}
use Rattle.std.proofs.lemmas.Bool.{eqb-true}
use Rattle.keys.specs.declared.refusal.Refusal.{Refusal}
use Rattle.keys.specs.declared.refusal.Refusal.TheVariants as no
use Rattle.requests.specs.Stations.{is_station}
use Rattle.requests.specs.declared.answer.Answer.{Answer}
use Rattle.requests.specs.declared.request.Request.{Request}
use Rattle.rules.specs.declared.carried.Carried.{Carried}
use Rattle.rules.specs.declared.note.Note.{Note}
use Rattle.rules.specs.declared.note.Note.TheVariants as note
use Rattle.rules.specs.Kinds.{Kinds, same}
use Rattle.rules.specs.States.{State, Slot, Waiter, empty, holds, leads, opening}
use Rattle.rules.specs.Queues.{given, numbered, finished, bears}
use Rattle.rules.specs.Changes.{with_note, with_decision, with_uncollected}
use Rattle.rules.specs.Moves.{Side, on_left, on_right, slot_for, moved}
use Rattle.rules.specs.Carries.{sought, last_word, late, carried, saw, walk, look, at_head, at_gate, read_slot}
use Rattle.rules.specs.Calls.{Call, submit, follow, carry, collect, check, state_by, submit_after, follow_refusal, followed_head, followed_place, carry_refusal, collect_by, after, after_all, run}
use Rattle.rules.specs.Sound.{slot_at, Sounds, Sound}
use Rattle.rules.proofs.Runs.{joined_by}
use Rattle.rules.proofs.SoundFrames.{none_there, empty-leads, alike_note, alike_decision}
use Rattle.rules.proofs.SoundMoves.{sounds_of, sounds_alike, sound_moved}
use Rattle.rules.proofs.SoundSubmits.{sound_submitted, sound_collected}

module _ {K T : Type 0} (w : Kinds K T) where
  -- a register just opened: nobody waits, no place is made, no station holds a request
  pub sound_opening : (cells : ℕ) → Sounds (opening w cells)
  sound_opening cells = record {
    last = λ _. 0;
    above = λ _. 0;
    facts = record {
      rises = λ p. tt;
      among = λ p x st. absurd (true≢false (sym st));
      lasts = λ p. omega arith;
      at_places = λ p x st. absurd (true≢false (sym st));
      unmade = λ p x st. refl;
      made = λ f e. absurd (true≢false (sym e));
      down = λ p side f e. absurd (flat p side f e);
      sides = λ p f l r. flat p on_left f l;
      modes = λ p q x m u v. absurd (true≢false (sym u));
      between = λ p q x m u v. absurd (true≢false (sym u));
      at_gate = λ x m u. absurd (true≢false (sym u));
      plain = λ p x m r u num wants. absurd (true≢false (sym u));
      held = λ p x st. absurd (true≢false (sym st));
      hands = λ n t e. absurd cc;
    };
  }
    where
      flat : (p : ℕ) (side : Side) (f : ℕ) → slot_at (opening w cells) p side ≡ leads f → ⊥
      flat zero on_left f e = empty-leads f e
      flat zero on_right f e = empty-leads f e
      flat (suc p) side f e = empty-leads f e

  module _ {s : State K T} (h : Sounds s) (n : ℕ) where
    noted : (x : Note) → Sounds (with_note s n x)
    noted x = sounds_alike (alike_note s n x) h

    sound_decided : (t : ℕ) (d : Bool) → Sounds (with_note (with_decision s t d) n note.None)
    sound_decided t d = sounds_alike (alike_note (with_decision s t d) n note.None) (sounds_alike (alike_decision s t d) h)

    sound_read : (t : ℕ) (k : K) (x : Slot K) → Sounds (read_slot w s n t k x).1
    sound_read t k empty = sound_decided t false
    sound_read t k (holds j) = sound_decided t (same w j k)
    sound_read t k (leads f) = noted (note.Walk t f)

    module _ (p : ℕ) (e : Waiter) (q : List Waiter) (line : s.queue p ≡ e ∷ q) (r : Request K) (num : numbered s.requests e.number ≡ Some r) where
      sound_move : Sounds (with_note (moved w s p e r) n note.None)
      sound_move = sounds_alike (alike_note (moved w s p e r) n note.None) (sound_moved w h p e q r line num)

    sound_gate : (e : Waiter) (q : List Waiter) → s.queue 0 ≡ e ∷ q → (r : Request K) → numbered s.requests e.number ≡ Some r → (k : Option K) (d : Option Bool) → Sounds (at_gate w s n e r k d).1
    sound_gate e q line r num None d = sound_move 0 e q line r num
    sound_gate e q line r num (Some k) (Some d) = sound_move 0 e q line r num
    sound_gate e q line r num (Some k) None = sound_read e.number k s.slot

    sound_head : (p : ℕ) (e : Waiter) (q : List Waiter) → s.queue p ≡ e ∷ q → (r : Request K) → numbered s.requests e.number ≡ Some r → Sounds (at_head w s n p e r).1
    sound_head zero e q line r num = sound_gate e q line r num (sought r) (s.decision e.number)
    sound_head (suc p) e q line r num = sound_move (suc p) e q line r num

    sound_saw : (t p : ℕ) (q : List Waiter) → s.queue p ≡ q → Sounds (saw w s n t p q).1
    sound_saw t p [] line = noted note.None
    sound_saw t p (e ∷ q) line = go (eqb e.number t) refl
      where
        asks : (o : Option (Request K)) → numbered s.requests t ≡ o → e.number ≡ t → Sounds (elim o as (λ _. Carried × State K T) [ None ↦ late w s n | Some r ↦ at_head w s n p e r ]).1
        asks None num is = noted note.None
        asks (Some r) num is = sound_head p e q line r (ap (numbered s.requests) is ∙ num)

        go : (b : Bool) → eqb e.number t ≡ b → Sounds (cond b (elim (numbered s.requests t) as (λ _. Carried × State K T) [ None ↦ late w s n | Some r ↦ at_head w s n p e r ]) (late w s n)).1
        go true is = asks (numbered s.requests t) refl (eqb-true e.number t is)
        go false is = noted note.None

    sound_look : (t p : ℕ) (k : K) (d : Option Bool) → Sounds (look w s n t p k d).1
    sound_look t p k (Some d) = sound_decided t d
    sound_look t p k None = sound_read t k (slot_for w s p k)

    sound_walk : (t p : ℕ) (d : Option Bool) (k : Option K) → Sounds (walk w s n t p d k).1
    sound_walk t p (Some d) k = noted note.None
    sound_walk t p None None = noted note.None
    sound_walk t p None (Some k) = sound_look t p k (last_word w s.requests k (s.queue p))

    sound_carried : (x : Note) → Sounds (carried w s n x).1
    sound_carried note.None = noted note.None
    sound_carried (note.Saw t p) = sound_saw t p (s.queue p) refl
    sound_carried (note.Walk t p) = sound_walk t p (s.decision t) (elim (numbered s.requests t) [ None ↦ None | Some r ↦ sought r ])

    by_refusal : (o : Option Refusal) (s' : State K T) → Sounds s' → Sounds (state_by o s s')
    by_refusal None s' g = g
    by_refusal (Some e) s' g = h

    sound_submit : (r : Request K) → Sounds (submit_after w s n r)
    sound_submit r = go (is_station n) refl
      where
        full : (b : Bool) → is_station n ≡ true → (s.desk n).uncollected ≡ None → Sounds (state_by (check b no.Full None) s (joined_by s n r))
        full true station idle = h
        full false station idle = sounds_of (sound_submitted h.facts n r station idle)

        free : (b : Bool) → is_some (s.desk n).uncollected ≡ b → is_station n ≡ true
            → Sounds (state_by (check b no.Uncollected (check (leb s.capacity (given s)) no.Full None)) s (joined_by s n r))
        free true is station = h
        free false is station = full (leb s.capacity (given s)) station (none_there (s.desk n).uncollected is)

        go : (b : Bool) → is_station n ≡ b
            → Sounds (state_by (check (not b) no.NoStation (check (is_some (s.desk n).uncollected) no.Uncollected (check (leb s.capacity (given s)) no.Full None))) s (joined_by s n r))
        go true is = free (is_some (s.desk n).uncollected) refl is
        go false is = h

    sound_collect_by : (o : Option ℕ) → (s.desk n).uncollected ≡ o → Sounds (elim (collect_by w s o) [ Ok a ↦ with_uncollected s n None | Err e ↦ s ])
    sound_collect_by None own = h
    sound_collect_by (Some t) own = go (finished s t) refl
      where
        borne : finished s t ≡ true → (o : Option (Answer T)) → Sounds (elim (elim o as (λ _. Result (ℕ × Answer T) Refusal) [ None ↦ Err no.Unfinished | Some a ↦ Ok (t, a) ]) [ Ok a ↦ with_uncollected s n None | Err e ↦ s ])
        borne done None = h
        borne done (Some a) = sounds_of (sound_collected h.facts n t own done)

        go : (b : Bool) → finished s t ≡ b → Sounds (elim (elim (cond b (elim (numbered s.requests t) as (λ _. Option (Answer T)) [ None ↦ None | Some r ↦ bears s t r ]) None) as (λ _. Result (ℕ × Answer T) Refusal) [ None ↦ Err no.Unfinished | Some a ↦ Ok (t, a) ]) [ Ok a ↦ with_uncollected s n None | Err e ↦ s ])
        go true done = borne done (elim (numbered s.requests t) as (λ _. Option (Answer T)) [ None ↦ None | Some r ↦ bears s t r ])
        go false done = h

    sound_collect : (b : Bool) → Sounds (elim (cond b (collect_by w s (s.desk n).uncollected) (Err no.NoStation)) [ Ok a ↦ with_uncollected s n None | Err e ↦ s ])
    sound_collect true = sound_collect_by (s.desk n).uncollected refl
    sound_collect false = h

  -- every call, refused or not
  pub sound_after : {s : State K T} → Sounds s → (c : Call K) → Sounds (after w s c)
  sound_after {s = s} h (submit n r) = sound_submit h n r
  sound_after {s = s} h (follow n t) = by_refusal h n (follow_refusal w s n t) _ (noted h n (note.Saw (followed_head w s t) (followed_place w s t)))
  sound_after {s = s} h (carry n) = by_refusal h n (carry_refusal w s n) _ (sound_carried h n (s.desk n).note)
  sound_after {s = s} h (collect n) = sound_collect h n (is_station n)

  pub sound_after_all : (cs : List (Call K)) {s : State K T} → Sounds s → Sounds (after_all w s cs)
  sound_after_all [] h = h
  sound_after_all (c ∷ cs) h = sound_after_all cs (sound_after h c)

  -- and so every state that calls lead to
  pub sound_run : (cells : ℕ) (cs : List (Call K)) → Sounds (run w cells cs)
  sound_run cells cs = sound_after_all cs (sound_opening cells)

  -- the same without the numbers that make it so, for a register that holds the fact
  pub opens_sound : (cells : ℕ) → Sound (opening w cells)
  opens_sound cells = ∣ sound_opening cells ∣₁

  pub stays_sound : {s : State K T} → Sound s → (c : Call K) → Sound (after w s c)
  stays_sound h c = ∥∥₁_map h (λ g. sound_after g c)
