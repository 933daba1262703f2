-- The last word on a key is that of the highest request held with one. Rests on Firsts, Choosing and Sets.
use Rattle.std.proofs.Common.{◌≡◌, ℕ, ◌<◌, ◌≤◌, max, Bool, true, false, cond, eqb, List, [], ◌∷◌, is_some, Some, None, Option, sym, refl, ap, ◌∙◌, true≢false, arith}
use mathlib.Core.Logic.{∥∥₁_elim}
use Rattle.std.proofs.lemmas.Bool.{eqb-true}
use Rattle.requests.specs.declared.request.Request.{Request}
use Rattle.rules.specs.Carries.{later, last_word}
use Rattle.rules.specs.Kinds.{Kinds}
use Rattle.rules.specs.Queues.{stands}
use Rattle.rules.specs.Sound.{Rises, Sounds, Sound}
use Rattle.rules.specs.States.{State, Waiter}
use Rattle.std.proofs.lemmas.Bool.{or_right}
use Rattle.rules.proofs.Bools.{or_cases}
use Rattle.rules.proofs.SoundQueues.{rises-above}
use Rattle.queues.specs.Held.{held_at}
use Rattle.queues.specs.Words.{word_on, word_held}
use Rattle.queues.specs.Chosen.{chosen_by}
use Rattle.queues.proofs.Choosing.{greatest, chosen_among, chosen_best}
use Rattle.queues.proofs.Firsts.{head_stood, held-stands, stands-held}
use Rattle.queues.proofs.Sets.{truths_set}

module _ {K T : Type 0} (w : Kinds K T) (rs : List (Request K)) (k : K) where
  -- where nobody has a word there is no last one
  words_none : (q : List Waiter) → ((x : ℕ) → stands x q ≡ true → word_on w rs k x ≡ None) → last_word w rs k q ≡ None
  words_none [] h = refl
  words_none (e ∷ q) h =
      ap (λ o. later o (word_on w rs k e.number)) (words_none q (λ x st. h x (or_right (eqb e.number x) (stands x q) st)))
      ∙ h e.number (head_stood e q)

  -- the word of one behind whom nobody has one is the last
  words_some : (lo : ℕ) (q : List Waiter) (t : ℕ) (d : Bool) → Rises lo q → stands t q ≡ true → word_on w rs k t ≡ Some d → ((x : ℕ) → stands x q ≡ true → t < x → word_on w rs k x ≡ None)
      → last_word w rs k q ≡ Some d
  words_some lo [] t d r st is h = absurd (true≢false (sym st))
  words_some lo (e ∷ q) t d r st is h =
      or_cases (eqb e.number t) (stands t q) st
      (λ u.
      let same = eqb-true e.number t u in
      ap (λ o. later o (word_on w rs k e.number))
      (words_none q (λ x v. let far = rises-above e.number x q r.1 v in h x (or_right (eqb e.number x) (stands x q) v) (omega arith)))
      ∙ ap (word_on w rs k) same ∙ is)
      (λ u.
      ap (λ o. later o (word_on w rs k e.number))
      (words_some e.number q t d r.1 u is (λ x v l. h x (or_right (eqb e.number x) (stands x q) v) l)))

module _ {K T : Type 0} (w : Kinds K T) (s : State K T) (k : K) (p : ℕ) where
  -- the word of a request that may be missing
  abbrev pub word_of : Option ℕ → Option Bool
  word_of o = elim o [ None ↦ None | Some t ↦ word_on w s.requests k t ]

  -- a request that a station holds with a word waits there, and has one
  held-says : (n t : ℕ) → word_held w s k p n ≡ Some t → (stands t (s.queue p) ≡ true) × (is_some (word_on w s.requests k t) ≡ true)
  held-says n t e = go (held_at s p n) refl e
    where
      worded : (x : ℕ) (b : Bool) → is_some (word_on w s.requests k x) ≡ b → held_at s p n ≡ Some x → cond b (Some x) None ≡ Some t
          → (stands t (s.queue p) ≡ true) × (is_some (word_on w s.requests k t) ≡ true)
      worded x true f at u = let same : x ≡ t = cc in (held-stands s p n t (at ∙ ap Some same), ap (λ i. is_some (word_on w s.requests k i)) (sym same) ∙ f)
      worded x false f at u = absurd (let z : ◌≡◌ {A = ℕ} 0 1 = cc in omega arith)

      go : (o : Option ℕ) → held_at s p n ≡ o → elim o as (λ _. Option ℕ) [ None ↦ None | Some x ↦ cond (is_some (word_on w s.requests k x)) (Some x) None ] ≡ Some t
          → (stands t (s.queue p) ≡ true) × (is_some (word_on w s.requests k t) ≡ true)
      go None at u = absurd (let z : ◌≡◌ {A = ℕ} 0 1 = cc in omega arith)
      go (Some x) at u = worded x (is_some (word_on w s.requests k x)) refl at u

  -- and such a request is held
  says-held : Sounds s → (x : ℕ) → stands x (s.queue p) ≡ true → is_some (word_on w s.requests k x) ≡ true → (n : ℕ) × (0 < n) × (n ≤ 8) × (word_held w s k p n ≡ Some x)
  says-held h x st is =
      let v = stands-held s h p x st in (
        v.0,
        v.1,
        v.2,
        ap (λ o. elim o as (λ _. Option ℕ) [ None ↦ None | Some t ↦ cond (is_some (word_on w s.requests k t)) (Some t) None ]) v.3 ∙ ap (λ b. cond b (Some x) None) is,
      )

  words_by : Sounds s → word_of (chosen_by max (word_held w s k p) 8) ≡ last_word w s.requests k (s.queue p)
  words_by h = go (chosen_by max (word_held w s k p) 8) refl
    where
      unless : (x : ℕ) (o : Option Bool) → word_on w s.requests k x ≡ o → (is_some (word_on w s.requests k x) ≡ true → ⊥) → word_on w s.requests k x ≡ None
      unless x None e f = e
      unless x (Some d) e f = absurd (f (ap is_some e))

      best : (x : ℕ) → stands x (s.queue p) ≡ true → is_some (word_on w s.requests k x) ≡ true → (t : ℕ) × (chosen_by max (word_held w s k p) 8 ≡ Some t) × (x ≤ t)
      best x st is = let v = says-held h x st is in chosen_best greatest (word_held w s k p) 8 v.0 x v.1 v.2 v.3

      known : (t : ℕ) (o : Option Bool) → chosen_by max (word_held w s k p) 8 ≡ Some t → word_on w s.requests k t ≡ o → o ≡ last_word w s.requests k (s.queue p)
      known t None u e = let v = chosen_among greatest (word_held w s k p) 8 t u in absurd (true≢false (sym (held-says v.0 t v.3).1 ∙ ap is_some e))
      known t (Some d) u e =
          let v = chosen_among greatest (word_held w s k p) 8 t u in
          sym (words_some w s.requests k 0 (s.queue p) t d (h.facts.rises p) (held-says v.0 t v.3).0 e (λ x st l.
          unless x (word_on w s.requests k x) refl (λ is. let b = best x st is in let same : b.0 ≡ t = cc b.1 in omega (arith, b.2))))

      go : (o : Option ℕ) → chosen_by max (word_held w s k p) 8 ≡ o → word_of o ≡ last_word w s.requests k (s.queue p)
      go None u =
          sym (words_none w s.requests k (s.queue p) (λ x st.
          unless x (word_on w s.requests k x) refl (λ is. let b = best x st is in let z : ◌≡◌ {A = ℕ} 0 1 = cc b.1 in omega arith)))
      go (Some t) u = known t (word_on w s.requests k t) u refl

  -- the last word, by what all the stations hold
  pub held_words : Sound s → word_of (chosen_by max (word_held w s k p) 8) ≡ last_word w s.requests k (s.queue p)
  held_words h = ∥∥₁_elim h (truths_set _ _) words_by
