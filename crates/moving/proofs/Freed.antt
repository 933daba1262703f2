-- In a sound state, the head of a queue may go on to the places below it once it has left. Rests on the rules' soundness.
use Rattle.std.proofs.Common.{◌≡◌, ℕ, true, List, ◌∷◌, is_some, Some, sym, refl, ap, ◌∙◌, inr, arith}
use mathlib.Core.Bool.{Bool-set}
use mathlib.Core.HLevel.{⊥_prop, Π_prop, →_prop, ×_prop, ×₃_prop}
use mathlib.Core.Logic.{∥∥₁_elim}
use native.Mathlib.Bridge.{le_prop}
use Rattle.requests.specs.declared.request.Request.{Request}
use Rattle.requests.specs.declared.request.Request.TheVariants.{Count}
use Rattle.rules.specs.declared.mode.Mode.{Mode}
use Rattle.rules.specs.declared.mode.Mode.TheVariants.{Between, From, Upto}
use Rattle.rules.specs.Carries.{sought}
use Rattle.rules.specs.Changes.{with_queue, with_waiter}
use Rattle.rules.specs.Kinds.{Kinds}
use Rattle.rules.specs.Moves.{on_left, on_right}
use Rattle.rules.specs.Queues.{behind, numbered}
use Rattle.rules.specs.Sound.{same_mode, Sounds, Sound}
use Rattle.rules.specs.States.{State, Waiter, leads}
use Rattle.rules.proofs.SoundJoins.{Joiner, joiner, joiner_last, joiner_again}
use Rattle.rules.proofs.SoundLeaves.{freed}
use Rattle.rules.proofs.SoundMoves.{slot_for-at, count_joiner}
use Rattle.cells.specs.Joins.{Joinable}
use Rattle.moving.specs.Movable.{Passes, Counts}

module _ {K T : Type 0} where
  joinable_prop : (s : State K T) (t p : ℕ) (m : Mode) → IsProp (Joinable s t p m)
  joinable_prop s t p m =
      ×_prop (Π_prop (λ x. →_prop le_prop))
      (Π_prop (λ q. Π_prop (λ m'. →_prop (×₃_prop (→_prop ⊥_prop) (→_prop ⊥_prop) (→_prop ⊥_prop)))))

  passes_prop : (w : Kinds K T) (s : State K T) (t p : ℕ) (k : K) → IsProp (Passes w s t p k)
  passes_prop w s t p k = Π_prop (λ f. →_prop (joinable_prop s t f Between))

  counts_prop : (s : State K T) (t p : ℕ) (m : Mode) → IsProp (Counts s t p m)
  counts_prop s t p m =
      ×₃_prop
      (Π_prop (λ side. Π_prop (λ f. Π_prop (λ m'. →_prop (→_prop (joinable_prop s t f m'))))))
      (Π_prop (λ f. Π_prop (λ g. →_prop (→_prop (→_prop (joinable_prop (with_waiter s f t From) t g Upto))))))
      (→_prop (Bool-set (same_mode m Between) true))

  -- who may join by soundness may join
  joins : {s : State K T} {last above : ℕ → ℕ} {p t : ℕ} {m : Mode} {f : ℕ} → Joiner s last above p t m f → Joinable s t f m
  joins j = (λ x st. joiner_last j x st, j.free)

  module _ (w : Kinds K T) (s : State K T) (sound : Sound s) (p : ℕ) (e : Waiter) (q : List Waiter) (line : s.queue p ≡ e ∷ q)
      (r : Request K) (num : numbered s.requests e.number ≡ Some r) where
    pub may_pass : is_some (sought r) ≡ true → (k : K) → Passes w (with_queue s p (behind (s.queue p))) e.number p k
    may_pass wants k = ∥∥₁_elim sound (passes_prop w (with_queue s p (behind (s.queue p))) e.number p k) (λ (h : Sounds s). go h)
      where
        go : Sounds s → Passes w (with_queue s p (behind (s.queue p))) e.number p k
        go h f is =
            let v = freed h.facts p e q line in
            let at = slot_for-at w (with_queue s p (behind (s.queue p))) p k in
            joins (joiner v at.0 f (at.1 ∙ is) Between (inr (v.plain r num wants)) (λ _ _ _. refl))

  module _ (w : Kinds K T) (s : State K T) (sound : Sound s) (p : ℕ) (e : Waiter) (q : List Waiter) (line : s.queue p ≡ e ∷ q)
      (lo hi : K) (num : numbered s.requests e.number ≡ Some (Count lo hi)) where
    pub may_count : Counts (with_queue s p (behind (s.queue p))) e.number p e.mode
    may_count = ∥∥₁_elim sound (counts_prop (with_queue s p (behind (s.queue p))) e.number p e.mode) (λ (h : Sounds s). go h)
      where
        apart : From ≡ Upto → ⊥
        apart z = let c : ◌≡◌ {A = ℕ} 0 1 = cc in omega arith

        open_end : From ≡ Between → ⊥
        open_end z = let c : ◌≡◌ {A = ℕ} 0 1 = cc in omega arith

        shut_end : Upto ≡ Between → ⊥
        shut_end z = let c : ◌≡◌ {A = ℕ} 0 1 = cc in omega arith

        go : Sounds s → Counts (with_queue s p (behind (s.queue p))) e.number p e.mode
        go h =
            let v = freed h.facts p e q line in (
              λ side f m' is own. joins (count_joiner w v lo hi num side m' own f is),
              λ f g left right own. joins (joiner_again (count_joiner w v lo hi num on_left From (inr own) f left) Upto g
                  (λ same. v.mover.sounds.sides p f left (right ∙ ap leads (sym same)))
                  apart open_end shut_end (count_joiner w v lo hi num on_right Upto (inr own) g right)),
              λ gate. ap (λ m. same_mode m Between) (v.from_gate gate),
            )
