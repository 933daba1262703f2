-- What a request that has just left a queue may do next: which queues it may join.
use Rattle.std.specs.Prelude.{◌≡◌, ℕ, true, ◌⊎◌}
use Rattle.rules.specs.declared.mode.Mode.{Mode}
use Rattle.rules.specs.declared.mode.Mode.TheVariants.{Between, From, Upto}
use Rattle.rules.specs.Changes.{with_waiter}
use Rattle.rules.specs.Kinds.{Kinds}
use Rattle.rules.specs.Moves.{Side, on_left, on_right, slot_for}
use Rattle.rules.specs.Sound.{same_mode, slot_at}
use Rattle.rules.specs.States.{State, leads}
use Rattle.cells.specs.Joins.{Joinable}

module _ {K T : Type 0} where
  -- an enter or a withdraw of a key may join the place on the key's side
  abbrev pub Passes : Kinds K T → State K T → ℕ → ℕ → K → Type 0
  Passes w s t p k = (f : ℕ) → slot_for w s p k ≡ leads f → Joinable s t f Between

  -- a count may join the places below in its own mode, from mode Between in any, and both as its halves;
  -- at the gate it is in mode Between
  abbrev pub Counts : State K T → ℕ → ℕ → Mode → Type 0
  Counts s t p m =
      ((side : Side) (f : ℕ) (m' : Mode) → slot_at s p side ≡ leads f → (m' ≡ m) ⊎ (m ≡ Between) → Joinable s t f m')
      × ((f g : ℕ) → slot_at s p on_left ≡ leads f → slot_at s p on_right ≡ leads g → m ≡ Between → Joinable (with_waiter s f t From) t g Upto)
      × (p ≡ 0 → same_mode m Between ≡ true)
