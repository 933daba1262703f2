-- What single steps leave of the invariant: what the proofs about calls rest on. Rests on Holds and MovedBy.
use Rattle.std.proofs.Common.{◌≡◌, ℕ, suc, ◌<◌, Bool, true, false, List, [], ◌∷◌, ◌++◌, is_some, Some, None}
use Rattle.requests.specs.declared.request.Request.{Request}
use Rattle.rules.specs.declared.mode.Mode.TheVariants.{Between}
use Rattle.rules.specs.declared.note.Note.TheVariants as note
use Rattle.rules.specs.Kinds.{Kinds, same}
use Rattle.rules.specs.States.{State, Waiter, Desk, empty, holds, leads, opening}
use Rattle.rules.specs.Queues.{numbered, given}
use Rattle.rules.specs.Changes.{with_request, with_waiter, with_uncollected, with_desk, with_decision}
use Rattle.rules.specs.Moves.{slot_for, moved}
use Rattle.rules.specs.Carries.{sought, last_word}
use Rattle.rules.proofs.Befores.{was}
use Rattle.rules.proofs.Trees.{Tree, bare}
use Rattle.rules.proofs.Holds.{Walks, Holds}
use Rattle.rules.proofs.MovedBy.{MovedBy}

-- each step of the rules keeps the invariant, and what a walk reads is right
pub record Stepper {K T : Type 0} (w : Kinds K T) : Type 0 where
  pub opens : (cells : ℕ) → Holds w [] (opening w cells) bare 1
  pub submits : (rs : List (Request K)) (x : Tree K T) (time : ℕ) (s : State K T) → Holds w rs s x time → (n : ℕ) (r : Request K)
      → Holds w (rs ++ (r ∷ [])) (with_uncollected (with_waiter (with_request s (suc (given s)) n r) 0 (suc (given s)) Between) n (Some (suc (given s)))) x time
  pub desks : (rs : List (Request K)) (x : Tree K T) (time : ℕ) (s : State K T) → Holds w rs s x time → (n : ℕ) (d : Desk)
      → ((t p : ℕ) → d.note ≡ note.Walk t p → s.decision t ≡ None → Walks w rs t p time x) → Holds w rs (with_desk s n d) x time
  pub decides : (rs : List (Request K)) (x : Tree K T) (time : ℕ) (s : State K T) → Holds w rs s x time → (t : ℕ) (r : Request K) (k : K) (d : Bool)
      → numbered rs t ≡ Some r → sought r ≡ Some k → d ≡ was w rs t k → Holds w rs (with_decision s t d) x time
  pub moves_tree : (rs : List (Request K)) (x : Tree K T) (time : ℕ) (s : State K T) → Holds w rs s x time → (p : ℕ) (e : Waiter) (q : List Waiter) (r : Request K)
      → s.queue (suc p) ≡ e ∷ q → numbered rs e.number ≡ Some r
      → (y : Tree K T) × Holds w rs (moved w s (suc p) e r) y time × MovedBy s (moved w s (suc p) e r) x y time time (suc p) e.number
  pub moves_gate : (rs : List (Request K)) (x : Tree K T) (time : ℕ) (s : State K T) → Holds w rs s x time → (e : Waiter) (q : List Waiter) (r : Request K)
      → s.queue 0 ≡ e ∷ q → numbered rs e.number ≡ Some r → ((k : K) → sought r ≡ Some k → is_some (s.decision e.number) ≡ true)
      → (y : Tree K T) × Holds w rs (moved w s 0 e r) y (suc time) × MovedBy s (moved w s 0 e r) x y time (suc time) 0 e.number
  pub reads_gate : (rs : List (Request K)) (x : Tree K T) (time : ℕ) (s : State K T) → Holds w rs s x time → (r : Request K) (k : K)
      → numbered rs time ≡ Some r → sought r ≡ Some k
      → (s.slot ≡ empty → was w rs time k ≡ false) × ((j : K) → s.slot ≡ holds j → same w j k ≡ was w rs time k) × ((f : ℕ) → s.slot ≡ leads f → Walks w rs time f time x)
  pub reads_walk : (rs : List (Request K)) (x : Tree K T) (time : ℕ) (s : State K T) → Holds w rs s x time → (t p : ℕ) (walk : Walks w rs t p time x)
      → ((d : Bool) → last_word w rs walk.key (s.queue p) ≡ Some d → d ≡ was w rs t walk.key)
      × (last_word w rs walk.key (s.queue p) ≡ None
      → (slot_for w s p walk.key ≡ empty → was w rs t walk.key ≡ false)
      × ((j : K) → slot_for w s p walk.key ≡ holds j → same w j walk.key ≡ was w rs t walk.key)
      × ((f : ℕ) → slot_for w s p walk.key ≡ leads f → Walks w rs t f time x × (p < f)))
