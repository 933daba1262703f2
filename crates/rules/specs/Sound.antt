-- What holds of every register by its numbers alone, whatever its keys' comparisons say: who waits where, and which place hangs where.
use Rattle.std.specs.Prelude.{◌≡◌, ℕ, zero, suc, ◌<◌, ◌≤◌, Bool, true, false, ◌&&◌, ◌||◌, ◌⊎◌, List, [], ◌∷◌, is_some, Some, None, ◌==◌, ◌≢◌}
use Rattle.requests.specs.Stations.{is_station}
use Rattle.requests.specs.declared.request.Request.{Request}
use Rattle.rules.specs.declared.mode.Mode.{Mode}
use Rattle.rules.specs.declared.mode.Mode.TheVariants.{Between, From, Upto}
use Rattle.rules.specs.States.{State, Slot, Waiter, empty, leads}
use Rattle.rules.specs.Queues.{given, numbered, stands}
use Rattle.rules.specs.Moves.{Side, on_left, on_right, slot_on}
use Rattle.rules.specs.Carries.{sought}

-- whether two modes are one
abbrev pub same_mode : Mode → Mode → Bool
same_mode Between Between = true
same_mode Between From = false
same_mode Between Upto = false
same_mode From Between = false
same_mode From From = true
same_mode From Upto = false
same_mode Upto Between = false
same_mode Upto From = false
same_mode Upto Upto = true

-- whether a request stands in a queue in this mode
abbrev pub stands_in : ℕ → Mode → List Waiter → Bool
stands_in t m [] = false
stands_in t m (e ∷ q) = (e.number == t && same_mode e.mode m) || stands_in t m q

-- the numbers of a queue rise, the first from above lo
abbrev pub Rises : ℕ → List Waiter → Type 0
Rises lo [] = Unit {0}
Rises lo (e ∷ q) = (lo < e.number) × Rises e.number q

module _ {K T : Type 0} (s : State K T) where
  -- the slot of a place on a side; the gate's only slot is its left one, and a place not made has empty ones
  abbrev pub slot_at : ℕ → Side → Slot K
  slot_at zero on_left = s.slot
  slot_at zero on_right = empty
  slot_at (suc p) side = elim (s.place (suc p)) [ None ↦ empty | Some f ↦ slot_on f side ]

  -- whether a place is made
  abbrev pub is_made : ℕ → Bool
  is_made p = is_some (s.place p)

  -- `last p` is the highest number that ever joined p's queue, or made p; `above f` is the place whose slot leads to f
  pub record SoundsBy (last above : ℕ → ℕ) : Type 0 where
    -- every queue ascends
    pub rises : (p : ℕ) → Rises 0 (s.queue p)
    -- who waits was given a number, and joined no later than the last
    pub among : (p x : ℕ) → stands x (s.queue p) ≡ true → (0 < x) × (x ≤ given s) × (x ≤ last p)
    pub lasts : (p : ℕ) → last p ≤ given s
    -- requests wait only at the gate and at places that are made
    pub at_places : (p x : ℕ) → stands x (s.queue p) ≡ true → (p ≡ 0) ⊎ (is_made p ≡ true)
    -- who waits has made no place
    pub unmade : (p x : ℕ) → stands x (s.queue p) ≡ true → s.place x ≡ None
    -- places have the numbers of requests
    pub made : (f : ℕ) → is_made f ≡ true → (0 < f) × (f ≤ given s)
    -- a place that a slot of p leads to is made, hangs at p only, and whoever came there came before all who wait at p
    pub down : (p : ℕ) (side : Side) (f : ℕ) → slot_at p side ≡ leads f
        → (is_made f ≡ true) × (above f ≡ p) × (last f ≤ last p) × ((x : ℕ) → stands x (s.queue p) ≡ true → last f < x)
    -- the two slots of a place lead to different places
    pub sides : (p f : ℕ) → slot_at p on_left ≡ leads f → slot_at p on_right ≢ leads f
    -- a request waits in each mode at one place
    pub modes : (p q x : ℕ) (m : Mode) → stands_in x m (s.queue p) ≡ true → stands_in x m (s.queue q) ≡ true → p ≡ q
    -- who waits in mode Between waits in no other; at the gate all do, and everywhere all that are no counts
    pub between : (p q x : ℕ) (m : Mode) → stands_in x Between (s.queue p) ≡ true → stands_in x m (s.queue q) ≡ true → m ≡ Between
    pub at_gate : (x : ℕ) (m : Mode) → stands_in x m (s.queue 0) ≡ true → m ≡ Between
    pub plain : (p x : ℕ) (m : Mode) (r : Request K) → stands_in x m (s.queue p) ≡ true → numbered s.requests x ≡ Some r → is_some (sought r) ≡ true
        → m ≡ Between
    -- who waits is held by its station
    pub held : (p x : ℕ) → stands x (s.queue p) ≡ true → (is_station (s.asker x) ≡ true) × ((s.desk (s.asker x)).uncollected ≡ Some x)
    -- what a station holds is its own request
    pub hands : (n t : ℕ) → (s.desk n).uncollected ≡ Some t → (is_station n ≡ true) × (s.asker t ≡ n) × (0 < t) × (t ≤ given s)

  -- a sound state, with the numbers that no register keeps
  pub record Sounds : Type 0 where
    pub last : ℕ → ℕ
    pub above : ℕ → ℕ
    pub facts : SoundsBy last above

  -- the state is sound, by whichever numbers
  abbrev pub Sound : Type 0
  Sound = ∥ Sounds ∥₁
