-- The plain set: it starts empty and does each request whole, by number. Sets are ascending rows of keys, each key once.
use Rattle.std.specs.Prelude.{◌≡◌, ℕ, pred, Bool, true, false, cond, ◌&&◌, ◌||◌, List, [], ◌∷◌, take}
use Rattle.requests.specs.declared.answer.Answer.{Answer}
use Rattle.requests.specs.declared.answer.Answer.TheVariants.{Changed, Unchanged, Present, Absent, Counted}
use Rattle.requests.specs.declared.request.Request.{Request}
use Rattle.requests.specs.declared.request.Request.TheVariants.{Enter, Withdraw, LookUp, Count}
use Rattle.rules.specs.Kinds.{Kinds, same, before}

module _ {K T : Type 0} (w : Kinds K T) where
  -- each key comes before all keys behind it, so that a row ascends and has each key once
  abbrev pub AllBehind : K → List K → Type 0
  AllBehind k [] = Unit {0}
  AllBehind k (j ∷ js) = (before w k j ≡ true) × AllBehind k js

  abbrev pub Ascends : List K → Type 0
  Ascends [] = Unit {0}
  Ascends (k ∷ ks) = AllBehind k ks × Ascends ks

  abbrev pub has : K → List K → Bool
  has k [] = false
  has k (j ∷ js) = same w k j || has k js

  -- the set with k, which keeps its place in the order
  abbrev pub with_key : K → List K → List K
  with_key k [] = k ∷ []
  with_key k (j ∷ js) = cond (w.le k j) (cond (w.le j k) (j ∷ js) (k ∷ (j ∷ js))) (j ∷ with_key k js)

  abbrev pub without_key : K → List K → List K
  without_key k [] = []
  without_key k (j ∷ js) = cond (same w k j) js (j ∷ without_key k js)

  -- the joined weights of the keys that pass a test
  abbrev pub weight_of : (K → Bool) → List K → T
  weight_of test [] = w.none
  weight_of test (k ∷ ks) = w.joined (cond (test k) (w.weighed k) w.none) (weight_of test ks)

  -- from lo to hi, both included
  abbrev pub within : K → K → K → Bool
  within lo hi k = w.le lo k && w.le k hi

  -- what a request makes of the set
  abbrev pub done : Request K → List K → List K
  done (Enter k) ks = with_key k ks
  done (Withdraw k) ks = without_key k ks
  done (LookUp k) ks = ks
  done (Count lo hi) ks = ks

  -- what the set answers to a request
  abbrev pub answered : Request K → List K → Answer T
  answered (Enter k) ks = cond (has k ks) Unchanged Changed
  answered (Withdraw k) ks = cond (has k ks) Changed Unchanged
  answered (LookUp k) ks = cond (has k ks) Present Absent
  answered (Count lo hi) ks = Counted (weight_of (within lo hi) ks)

  abbrev pub done_all : List (Request K) → List K → List K
  done_all [] ks = ks
  done_all (r ∷ rs) ks = done_all rs (done r ks)

  -- the set after all of these requests, from the empty one
  abbrev pub set_after : List (Request K) → List K
  set_after rs = done_all rs []

  -- the set just before the request of that number
  abbrev pub set_before : List (Request K) → ℕ → List K
  set_before rs t = set_after (take (pred t) rs)
