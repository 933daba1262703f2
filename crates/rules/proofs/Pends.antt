-- Who waits in a tree, what a count still has to add there, and the way of a key. Rests on Goods.
use Rattle.std.proofs.Common.{◌≡◌, ℕ, Bool, false, cond, ◌&&◌, ◌||◌, eqb, ◌⊎◌, List, [], ◌∷◌, None}
use Rattle.requests.specs.declared.request.Request.{Request}
use Rattle.rules.specs.Kinds.{Kinds, before}
use Rattle.rules.specs.Plain.{set_before, weight_of}
use Rattle.rules.specs.States.{Waiter}
use Rattle.rules.specs.Queues.{stands}
use Rattle.rules.specs.Moves.{wanted}
use Rattle.rules.specs.Carries.{last_word}
use Rattle.rules.proofs.Trees.{Tree, bare, leaf, node}
use Rattle.rules.proofs.Goods.{left_of, right_of}

module _ {K T : Type 0} where
  -- whether a request waits at a place of the tree
  abbrev pub waiting : ℕ → Tree K T → Bool
  waiting i bare = false
  waiting i (leaf k) = false
  waiting i (node p s t q a b) = stands i q || (waiting i a || waiting i b)

module _ {K T : Type 0} (w : Kinds K T) (rs : List (Request K)) where
  -- what count i from lo to hi adds where it waits in a mode: the weights that it wants of the region
  abbrev pub share : ℕ → K → K → (K → Bool) → Waiter → T
  share i lo hi R e = cond (eqb e.number i) (weight_of w (λ k. R k && wanted w lo hi e.mode k) (set_before w rs i)) w.none

  abbrev pub queue_share : ℕ → K → K → (K → Bool) → List Waiter → T
  queue_share i lo hi R [] = w.none
  queue_share i lo hi R (e ∷ q) = w.joined (share i lo hi R e) (queue_share i lo hi R q)

  -- all that it still adds in a tree
  abbrev pub pending : ℕ → K → K → (K → Bool) → Tree K T → T
  pending i lo hi R bare = w.none
  pending i lo hi R (leaf k) = w.none
  pending i lo hi R (node p s t q a b) =
      w.joined (queue_share i lo hi R q) (w.joined (pending i lo hi (left_of w R s) a) (pending i lo hi (right_of w R s) b))

  -- place p lies on the way of k, and no queue on the way before it holds an enter or withdraw of k
  abbrev pub OnWay : K → ℕ → Tree K T → Type 0
  OnWay k p bare = ⊥
  OnWay k p (leaf j) = ⊥
  OnWay k p (node f s t q a b) =
      (p ≡ f) ⊎ ((last_word w rs k q ≡ None) × cond (before w k s) (OnWay k p a) (OnWay k p b))
