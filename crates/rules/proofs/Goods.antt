-- What is true of a tree in its region, just before a request: the invariant of the places. Rests on Befores.
use Rattle.std.proofs.Common.{◌≡◌, ℕ, ◌<◌, ◌≤◌, Bool, true, false, ◌&&◌, List, [], ◌∷◌, Some, None, Option}
use Rattle.requests.specs.declared.request.Request.{Request}
use Rattle.requests.specs.declared.request.Request.TheVariants.{Enter, Withdraw, LookUp, Count}
use Rattle.rules.specs.declared.mode.Mode.{Mode}
use Rattle.rules.specs.declared.mode.Mode.TheVariants.{Between, From, Upto}
use Rattle.rules.specs.Kinds.{Kinds, same, before}
use Rattle.rules.specs.States.{Waiter}
use Rattle.rules.specs.Queues.{numbered, stands}
use Rattle.rules.proofs.Befores.{was, weight_before, Unmoved}
use Rattle.rules.proofs.Trees.{Tree, bare, leaf, node}

-- the time of what hangs below a queue: just before its head, or as above where it is empty
abbrev pub below : List Waiter → ℕ → ℕ
below [] t = t
below (e ∷ q) t = e.number

-- numbers rise from above lo to below hi
abbrev pub Lined : ℕ → List Waiter → ℕ → Type 0
Lined lo [] hi = lo < hi
Lined lo (e ∷ q) hi = (lo < e.number) × Lined e.number q hi

-- a child's place has a higher number
abbrev pub Over : {K T : Type 0} → ℕ → Tree K T → Type 0
Over p bare = Unit {0}
Over p (leaf k) = Unit {0}
Over p (node f s t q a b) = p < f

module _ {K T : Type 0} (w : Kinds K T) where
  -- the regions left and right of a split
  abbrev pub left_of : (K → Bool) → K → K → Bool
  left_of R s k = R k && before w k s

  abbrev pub right_of : (K → Bool) → K → K → Bool
  right_of R s k = R k && w.le s k

  -- what a count in a mode may rely on in a region: it has the ends of the count's range that are still to be met
  abbrev pub ModeFits : (K → Bool) → K → K → Mode → Type 0
  ModeFits R lo hi Between = (R lo ≡ true) × (w.le lo hi ≡ true → R hi ≡ true)
  ModeFits R lo hi From = (R lo ≡ true) × ((k : K) → R k ≡ true → w.le k hi ≡ true)
  ModeFits R lo hi Upto = (R hi ≡ true) × ((k : K) → R k ≡ true → w.le lo k ≡ true)

  -- a request that waits at a place: its key belongs there and it will change the set, or it is a count
  abbrev pub WaiterFits : List (Request K) → (K → Bool) → ℕ → Mode → Option (Request K) → Type 0
  WaiterFits rs R t m None = ⊥
  WaiterFits rs R t m (Some (Enter k)) = (R k ≡ true) × (was w rs t k ≡ false)
  WaiterFits rs R t m (Some (Withdraw k)) = (R k ≡ true) × (was w rs t k ≡ true)
  WaiterFits rs R t m (Some (LookUp k)) = ⊥
  WaiterFits rs R t m (Some (Count lo hi)) = ModeFits R lo hi m

  abbrev pub QueueFits : List (Request K) → (K → Bool) → List Waiter → Type 0
  QueueFits rs R [] = Unit {0}
  QueueFits rs R (e ∷ q) = WaiterFits rs R e.number e.mode (numbered rs e.number) × QueueFits rs R q

  -- requests from the head's number up to the time above that do not wait here change no key of the region
  abbrev pub StillBut : List (Request K) → (K → Bool) → List Waiter → ℕ → Type 0
  StillBut rs R q t =
      (i : ℕ) → below q t ≤ i → i < t → stands i q ≡ false → (k : K) → R k ≡ true → Unmoved w rs i k

  -- a place in its region R, at the time t above it
  pub record PlaceGood (rs : List (Request K)) (R : K → Bool) (t : ℕ) (p : ℕ) (s : K) (tally : T) (q : List Waiter) : Type 0 where
    -- the request that made the place entered a key of the region
    pub maker : K
    pub made : numbered rs p ≡ Some (Enter maker)
    pub maker_here : R maker ≡ true
    pub split_here : R s ≡ true
    pub weighs : tally ≡ weight_before w R rs t
    pub lined : Lined p q t
    pub fits : QueueFits rs R q
    pub still : StillBut rs R q t

  abbrev pub Good : List (Request K) → (K → Bool) → ℕ → Tree K T → Type 0
  Good rs R t bare = (k : K) → R k ≡ true → was w rs t k ≡ false
  Good rs R t (leaf j) = (R j ≡ true) × ((k : K) → R k ≡ true → was w rs t k ≡ same w k j)
  Good rs R t (node p s tally q a b) =
      PlaceGood rs R t p s tally q × (Over p a × Over p b)
      × Good rs (left_of R s) (below q t) a × Good rs (right_of R s) (below q t) b
