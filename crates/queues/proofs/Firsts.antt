-- The head of a queue is the lowest of those whom the stations hold there. Rests on Choosing and Sets.
use Rattle.std.proofs.Common.{◌≡◌, ℕ, ◌<◌, ◌≤◌, min, Bool, true, false, cond, eqb, List, [], ◌∷◌, Some, None, Option, sym, refl, ap, ◌∙◌, true≢false, arith}
use mathlib.Core.Logic.{∥∥₁_elim}
use Rattle.std.proofs.lemmas.Bool.{eqb-true}
use Rattle.requests.specs.Stations.{is_station}
use Rattle.rules.specs.Queues.{head_of, stands}
use Rattle.rules.specs.Sound.{Rises, Sounds, Sound}
use Rattle.rules.specs.States.{State, Waiter}
use Rattle.rules.proofs.Bools.{or_cases}
use Rattle.rules.proofs.SoundQueues.{in_stands, head_stands, rises-above}
use Rattle.queues.specs.Held.{held_at}
use Rattle.queues.specs.Chosen.{chosen_by}
use Rattle.queues.proofs.Choosing.{least, chosen_among, chosen_best}
use Rattle.queues.proofs.Sets.{numbers_set}

-- there are eight stations
pub station_from : (n : ℕ) → is_station n ≡ true → 0 < n
station_from n e = grind arith

pub station_upto : (n : ℕ) → is_station n ≡ true → n ≤ 8
station_upto n e = grind arith

pub head_stood : (e : Waiter) (q : List Waiter) → stands e.number (e ∷ q) ≡ true
head_stood e q = in_stands e.number e.mode (e ∷ q) (head_stands e q)

-- nobody stands in a queue, or this one does and nobody below
abbrev First : Option ℕ → List Waiter → Type 0
First None q = (x : ℕ) → stands x q ≡ true → ⊥
First (Some t) q = (stands t q ≡ true) × ((x : ℕ) → stands x q ≡ true → t ≤ x)

first_heads : (lo : ℕ) (q : List Waiter) (o : Option ℕ) → Rises lo q → First o q → o ≡ head_of q
first_heads lo [] None r f = refl
first_heads lo [] (Some t) r f = absurd (true≢false (sym f.0))
first_heads lo (e ∷ q) None r f = absurd (f e.number (head_stood e q))
first_heads lo (e ∷ q) (Some t) r f =
    let low = f.1 e.number (head_stood e q) in
    let same : t ≡ e.number =
    or_cases (eqb e.number t) (stands t q) f.0 (λ u. sym (eqb-true e.number t u)) (λ u. let far = rises-above e.number t q r.1 u in absurd (omega arith)) in
    ap Some same

module _ {K T : Type 0} (s : State K T) where
  -- who is held at a place waits there
  pub held-stands : (p n t : ℕ) → held_at s p n ≡ Some t → stands t (s.queue p) ≡ true
  held-stands p n t e = go (s.desk n).uncollected e
    where
      waiting : (x : ℕ) (b : Bool) → stands x (s.queue p) ≡ b → cond b (Some x) None ≡ Some t → stands t (s.queue p) ≡ true
      waiting x true f u = let same : x ≡ t = cc in ap (λ i. stands i (s.queue p)) (sym same) ∙ f
      waiting x false f u = absurd (let z : ◌≡◌ {A = ℕ} 0 1 = cc in omega arith)

      go : (o : Option ℕ) → elim o as (λ _. Option ℕ) [ None ↦ None | Some x ↦ cond (stands x (s.queue p)) (Some x) None ] ≡ Some t → stands t (s.queue p) ≡ true
      go None u = absurd (let z : ◌≡◌ {A = ℕ} 0 1 = cc in omega arith)
      go (Some x) u = waiting x (stands x (s.queue p)) refl u

  module _ (h : Sounds s) where
    -- who waits at a place is held there by one of the eight
    pub stands-held : (p x : ℕ) → stands x (s.queue p) ≡ true → (n : ℕ) × (0 < n) × (n ≤ 8) × (held_at s p n ≡ Some x)
    stands-held p x st = (
      s.asker x,
      station_from (s.asker x) (h.facts.held p x st).0,
      station_upto (s.asker x) (h.facts.held p x st).0,
      ap (λ o. elim o as (λ _. Option ℕ) [ None ↦ None | Some t ↦ cond (stands t (s.queue p)) (Some t) None ]) (h.facts.held p x st).1 ∙ ap (λ b. cond b (Some x) None) st,
    )

    heads_by : (p : ℕ) → chosen_by min (held_at s p) 8 ≡ head_of (s.queue p)
    heads_by p = first_heads 0 (s.queue p) (chosen_by min (held_at s p) 8) (h.facts.rises p) (go (chosen_by min (held_at s p) 8) refl)
      where
        go : (o : Option ℕ) → chosen_by min (held_at s p) 8 ≡ o → First o (s.queue p)
        go None u = λ x st.
            let v = stands-held p x st in
            let w = chosen_best least (held_at s p) 8 v.0 x v.1 v.2 v.3 in
            let z : ◌≡◌ {A = ℕ} 0 1 = cc w.1 in
            omega arith
        go (Some t) u = (
          (let v = chosen_among least (held_at s p) 8 t u in held-stands p v.0 t v.3),
          λ x st.
              let v = stands-held p x st in
              let w = chosen_best least (held_at s p) 8 v.0 x v.1 v.2 v.3 in
              let same : w.0 ≡ t = cc w.1 in
              omega (arith, w.2),
        )

  -- the head of a queue
  pub held-heads : Sound s → (p : ℕ) → chosen_by min (held_at s p) 8 ≡ head_of (s.queue p)
  held-heads h p = ∥∥₁_elim h (numbers_set _ _) (λ v. heads_by v p)
