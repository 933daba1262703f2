-- What soundness says of a queue's head and of who waits where. Rests on SoundMoves.
use Rattle.std.proofs.Common.{◌≡◌, ℕ, ◌<◌, true, false, ◌⊎◌, List, [], ◌∷◌, is_some, Some, None, sym, refl, ap, ◌∙◌, subst, inl, inr, ⊎_elim, true≢false, arith}
use Rattle.requests.specs.declared.request.Request.{Request}
use Rattle.rules.specs.declared.mode.Mode.{Mode}
use Rattle.rules.specs.declared.mode.Mode.TheVariants.{Between, From, Upto}
use Rattle.rules.specs.Kinds.{Kinds}
use Rattle.rules.specs.States.{State, Waiter, leads}
use Rattle.rules.specs.Queues.{numbered, stands}
use Rattle.rules.specs.Moves.{Side, slot_for}
use Rattle.rules.specs.Carries.{sought}
use Rattle.rules.specs.Sound.{stands_in, slot_at, Sounds}
use Rattle.rules.proofs.Times.{numbered_some}
use Rattle.rules.proofs.SoundQueues.{in_stands, stands_some, head_stands}
use Rattle.rules.proofs.SoundLeaves.{head_stood}
use Rattle.rules.proofs.SoundMoves.{slot_for-at}

-- a queue in which nobody stands is empty
nobody_stands : (q : List Waiter) → ((x : ℕ) → stands x q ≡ true → ⊥) → q ≡ []
nobody_stands [] h = refl
nobody_stands (e ∷ q) h = absurd (h e.number (in_stands e.number e.mode (e ∷ q) (head_stands e q)))

module _ {K T : Type 0} {s : State K T} (h : Sounds s) where
  module _ (p : ℕ) (e : Waiter) (q : List Waiter) (line : s.queue p ≡ e ∷ q) where
    -- a head that moves joins at the end of an ascending row: all who wait at a place below have lower numbers
    pub joins_last : (side : Side) (f : ℕ) → slot_at s p side ≡ leads f → (x : ℕ) → stands x (s.queue f) ≡ true → x < e.number
    joins_last side f is x st =
        let low = (h.facts.down p side f is).3 e.number (head_stood h.facts p e q line) in
        let most = (h.facts.among f x st).2 in
        omega arith

    -- and the place below is another one
    pub joins_apart : (side : Side) (f : ℕ) → slot_at s p side ≡ leads f → p ≡ f → ⊥
    joins_apart side f is same =
        let st = head_stood h.facts p e q line in
        let more = joins_last side f is e.number (ap (λ i. stands e.number (s.queue i)) (sym same) ∙ st) in
        omega arith

    -- the same of the slot on a key's side
    pub joins_last_for : (w : Kinds K T) (k : K) (f : ℕ) → slot_for w s p k ≡ leads f → (x : ℕ) → stands x (s.queue f) ≡ true → x < e.number
    joins_last_for w k f is = let at = slot_for-at w s p k in joins_last at.0 f (at.1 ∙ is)

    pub joins_apart_for : (w : Kinds K T) (k : K) (f : ℕ) → slot_for w s p k ≡ leads f → p ≡ f → ⊥
    joins_apart_for w k f is = let at = slot_for-at w s p k in joins_apart at.0 f (at.1 ∙ is)

    -- the place that a head makes is not there yet, and nobody waits there
    pub fresh : (s.place e.number ≡ None) × (s.queue e.number ≡ [])
    fresh =
        let st = head_stood h.facts p e q line in
        let none = h.facts.unmade p e.number st in
        let named = (h.facts.among p e.number st).0 in (
          none,
          nobody_stands (s.queue e.number) (λ x u.
              ⊎_elim (λ z. omega arith) (λ made. true≢false (sym made ∙ ap is_some none)) (h.facts.at_places e.number x u)),
        )

    -- and it is not the place where the head waited
    pub fresh_apart : p ≡ e.number → ⊥
    fresh_apart same =
        let st = head_stood h.facts p e q line in
        let empty-there : stands e.number (s.queue e.number) ≡ false = ap (stands e.number) fresh.1 in
        true≢false (sym st ∙ ap (λ i. stands e.number (s.queue i)) same ∙ empty-there)

  -- who waits has a request
  pub waiting_request : (p x : ℕ) → stands x (s.queue p) ≡ true → (r : Request K) × (numbered s.requests x ≡ Some r)
  waiting_request p x st = let v = h.facts.among p x st in numbered_some s.requests x v.0 v.1

  -- a request that is no count waits at one place
  pub one_place : (p q x : ℕ) (r : Request K) → numbered s.requests x ≡ Some r → is_some (sought r) ≡ true → stands x (s.queue p) ≡ true → stands x (s.queue q) ≡ true → p ≡ q
  one_place p q x r num wants u v =
      let a = stands_some x (s.queue p) u in
      let b = stands_some x (s.queue q) v in
      h.facts.modes p q x Between
      (subst (λ m. stands_in x m (s.queue p) ≡ true) (h.facts.plain p x a.0 r a.1 num wants) a.1)
      (subst (λ m. stands_in x m (s.queue q) ≡ true) (h.facts.plain q x b.0 r b.1 num wants) b.1)

  -- so does who waits in mode Between
  pub between-place : (p q x : ℕ) → stands_in x Between (s.queue p) ≡ true → stands x (s.queue q) ≡ true → p ≡ q
  between-place p q x u v =
      let b = stands_some x (s.queue q) v in
      h.facts.modes p q x Between u (subst (λ m. stands_in x m (s.queue q) ≡ true) (h.facts.between p q x b.0 u b.1) b.1)

  -- of three places where a request waits, two are one
  pub two_places : (p q u x : ℕ) → stands x (s.queue p) ≡ true → stands x (s.queue q) ≡ true → stands x (s.queue u) ≡ true → (p ≡ q) ⊎ ((q ≡ u) ⊎ (p ≡ u))
  two_places p q u x a b c = go (stands_some x (s.queue p) a) (stands_some x (s.queue q) b) (stands_some x (s.queue u) c)
    where
      go : (m : Mode) × (stands_in x m (s.queue p) ≡ true) → (m : Mode) × (stands_in x m (s.queue q) ≡ true) → (m : Mode) × (stands_in x m (s.queue u) ≡ true)
          → (p ≡ q) ⊎ ((q ≡ u) ⊎ (p ≡ u))
      go (Between, i) (m, j) (l, k) = inl (between-place p q x i b)
      go (From, i) (Between, j) (l, k) = inr (inl (between-place q u x j c))
      go (From, i) (From, j) (l, k) = inl (h.facts.modes p q x From i j)
      go (From, i) (Upto, j) (Between, k) = inr (inl (sym (between-place u q x k b)))
      go (From, i) (Upto, j) (From, k) = inr (inr (h.facts.modes p u x From i k))
      go (From, i) (Upto, j) (Upto, k) = inr (inl (h.facts.modes q u x Upto j k))
      go (Upto, i) (Between, j) (l, k) = inr (inl (between-place q u x j c))
      go (Upto, i) (Upto, j) (l, k) = inl (h.facts.modes p q x Upto i j)
      go (Upto, i) (From, j) (Between, k) = inr (inl (sym (between-place u q x k b)))
      go (Upto, i) (From, j) (From, k) = inr (inl (h.facts.modes q u x From j k))
      go (Upto, i) (From, j) (Upto, k) = inr (inr (h.facts.modes p u x Upto i k))
