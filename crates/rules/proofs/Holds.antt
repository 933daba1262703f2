-- What is true of every state that calls lead to: the invariant of a register. Rests on Goods and Pends.
use Rattle.std.proofs.Common.{◌≡◌, ℕ, suc, ◌<◌, ◌≤◌, Bool, true, false, ◌⊎◌, List, [], ◌∷◌, length, Some, None}
use Rattle.requests.specs.declared.request.Request.{Request}
use Rattle.requests.specs.declared.request.Request.TheVariants.{Enter, Withdraw, LookUp, Count}
use Rattle.rules.specs.declared.note.Note.TheVariants as note
use Rattle.rules.specs.Kinds.{Kinds}
use Rattle.rules.specs.Plain.{answered, set_before, weight_of, within}
use Rattle.rules.specs.States.{State, Waiter}
use Rattle.rules.specs.Queues.{numbered}
use Rattle.rules.specs.Carries.{sought}
use Rattle.rules.proofs.Befores.{was}
use Rattle.rules.proofs.Trees.{Tree, slot_of, inside, Drawn}
use Rattle.rules.proofs.Goods.{Over, Good}
use Rattle.rules.proofs.Pends.{waiting, pending, OnWay}

-- the numbers from lo up to and without hi, one after another
abbrev pub InTurn : ℕ → List Waiter → ℕ → Type 0
InTurn lo [] hi = lo ≡ hi
InTurn lo (e ∷ q) hi = (e.number ≡ lo) × InTurn (suc lo) q hi

module _ {K T : Type 0} (w : Kinds K T) (rs : List (Request K)) where
  -- every key
  abbrev pub Everywhere : K → Bool
  Everywhere k = true

  -- a request that is no count bears the plain set's answer
  abbrev pub Bears : State K T → ℕ → Request K → Type 0
  Bears s t (Enter k) = s.answer t ≡ Some (answered w (Enter k) (set_before w rs t))
  Bears s t (Withdraw k) = s.answer t ≡ Some (answered w (Withdraw k) (set_before w rs t))
  Bears s t (LookUp k) = s.answer t ≡ Some (answered w (LookUp k) (set_before w rs t))
  Bears s t (Count lo hi) = Unit {0}

  -- a walk for request t, next at place p, is on the right way
  pub record Walks (t p time : ℕ) (x : Tree K T) : Type 0 where
    pub head : t ≡ time
    pub request : Request K
    pub key : K
    pub asked : numbered rs t ≡ Some request
    pub seeks : sought request ≡ Some key
    pub way : OnWay w rs key p x

  -- the requests rs were submitted, those before `time` have passed the gate, and x hangs under it
  pub record Holds (s : State K T) (x : Tree K T) (time : ℕ) : Type 0 where
    pub requests : s.requests ≡ rs
    pub rooted : s.slot ≡ slot_of x
    pub drawn : Drawn s.place s.queue x
    -- numbers that are no places of the tree have no place, and nobody waits there
    pub others : (i : ℕ) → inside i x ≡ false → (s.place i ≡ None) × (0 < i → s.queue i ≡ [])
    pub over : Over 0 x
    -- at the gate wait all requests from `time` on, in turn
    pub gate : InTurn time (s.queue 0) (suc (length rs))
    pub started : 0 < time
    pub good : Good w rs Everywhere time x
    -- a decision says what was, and only requests at the gate have none
    pub decided : (i : ℕ) (r : Request K) (k : K) → numbered rs i ≡ Some r → sought r ≡ Some k → (s.decision i ≡ Some (was w rs i k)) ⊎ ((s.decision i ≡ None) × (time ≤ i))
    pub unasked : (i : ℕ) → length rs < i → s.decision i ≡ None
    -- who has passed the gate and waits no more is answered
    pub answers : (i : ℕ) (r : Request K) → numbered rs i ≡ Some r → i < time → waiting i x ≡ false → Bears s i r
    -- a count has added all that it does not still have to add
    pub counts : (i : ℕ) (lo hi : K) → numbered rs i ≡ Some (Count lo hi) → i < time → w.joined (s.counted i) (pending w rs i lo hi Everywhere x) ≡ weight_of w (within w lo hi) (set_before w rs i)
    pub uncounted : (i : ℕ) → time ≤ i → s.counted i ≡ w.none
    -- every walk for an undecided request is on the right way
    pub walks : (n t p : ℕ) → (s.desk n).note ≡ note.Walk t p → s.decision t ≡ None → Walks t p time x
