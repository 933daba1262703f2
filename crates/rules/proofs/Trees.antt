-- The tree that hangs under a slot, and what it means that places and queues are drawn from it. Assumes nothing.
use Rattle.std.proofs.Common.{◌≡◌, ℕ, Bool, true, false, ◌||◌, eqb, List, Some, Option, ◌∙◌, arith}
use Rattle.rules.specs.States.{Slot, Place, Waiter, empty, holds, leads}

-- what hangs under a slot
pub data Tree (K T : Type 0) : Type 0 where
  bare : Tree K T
  leaf : K → Tree K T
  node : ℕ → K → T → List Waiter → Tree K T → Tree K T → Tree K T

module _ {K T : Type 0} where
  abbrev pub slot_of : Tree K T → Slot K
  slot_of bare = empty
  slot_of (leaf k) = holds k
  slot_of (node p s t q a b) = leads p

  -- whether a place hangs there
  abbrev pub inside : ℕ → Tree K T → Bool
  inside i bare = false
  inside i (leaf k) = false
  inside i (node p s t q a b) = eqb i p || (inside i a || inside i b)

  -- the place of a node
  abbrev pub drawn_place : K → T → Tree K T → Tree K T → Place K T
  drawn_place s t a b = record { split = s; left = slot_of a; right = slot_of b; tally = t }

  -- places and queues are those of the tree's nodes
  abbrev pub Drawn : (ℕ → Option (Place K T)) → (ℕ → List Waiter) → Tree K T → Type 0
  Drawn place queue bare = Unit {0}
  Drawn place queue (leaf k) = Unit {0}
  Drawn place queue (node p s t q a b) =
      (place p ≡ Some (drawn_place s t a b)) × (queue p ≡ q) × Drawn place queue a × Drawn place queue b

  -- a tree whose own places are left alone stays drawn
  pub drawn_frame : (place new-place : ℕ → Option (Place K T)) (queue new-queue : ℕ → List Waiter) (x : Tree K T)
      → ((i : ℕ) → inside i x ≡ true → (new-place i ≡ place i) × (new-queue i ≡ queue i)) → Drawn place queue x → Drawn new-place new-queue x
  drawn_frame pl pl' qu qu' bare h d = tt
  drawn_frame pl pl' qu qu' (leaf k) h d = tt
  drawn_frame pl pl' qu qu' (node p s t q a b) h d =
      let here = h p (grind arith) in
      let one = drawn_frame pl pl' qu qu' a (λ i e. h i (grind arith)) d.2 in
      let two = drawn_frame pl pl' qu qu' b (λ i e. h i (grind arith)) d.3 in
      (here.0 ∙ d.0, here.1 ∙ d.1, one, two)
