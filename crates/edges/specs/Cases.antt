-- The cases at the edges of the rules, for every kind of key and of tally. Each is a statement of its own;
-- `Edge-cases` lists them, and a new case is a new line there.
use Rattle.std.specs.Prelude.{◌≡◌, ℕ, ◌≤◌, true, false, List, [], ◌∷◌, ◌++◌, Some, Ok}
use Rattle.requests.specs.declared.answer.Answer.TheVariants.{Changed, Unchanged, Absent, Counted}
use Rattle.requests.specs.declared.request.Request.{Request}
use Rattle.requests.specs.declared.request.Request.TheVariants.{Enter, Withdraw, LookUp, Count}
use Rattle.rules.specs.declared.carried.Carried.TheVariants.{Late, Decided, Moved}
use Rattle.rules.specs.Kinds.{Kinds, before}
use Rattle.rules.specs.Plain.{answered}
use Rattle.rules.specs.States.{State, Place, holds, leads}
use Rattle.rules.specs.Queues.{numbered, finished, final_answer}
use Rattle.rules.specs.Carries.{sought}
use Rattle.rules.specs.Calls.{Call, submit, follow, carry, run, carry_answer}
use Rattle.rules.specs.Laws.{Serves, calls_of, enough}

-- a station follows a request, and carries what it saw
abbrev pub help : {K : Type 0} → ℕ → ℕ → List (Call K)
help n t = follow n t ∷ carry n ∷ []

-- it does so twice: over a slot without a place, the first carry decides the request and the second moves it
abbrev pub help_twice : {K : Type 0} → ℕ → ℕ → List (Call K)
help_twice n t = follow n t ∷ carry n ∷ follow n t ∷ carry n ∷ []

-- a key is entered twice and counted from itself to itself
abbrev pub twice : {K : Type 0} → K → List (Call K)
twice k =
    submit 1 (Enter k) ∷ submit 2 (Enter k) ∷ submit 3 (Count k k) ∷ (help_twice 1 1 ++ (help_twice 1 2 ++ help 1 3))

-- a key is entered, withdrawn and looked up
abbrev pub in_and_out : {K : Type 0} → K → List (Call K)
in_and_out k =
    submit 1 (Enter k) ∷ submit 2 (Withdraw k) ∷ submit 3 (LookUp k) ∷ (help_twice 1 1 ++ (help_twice 1 2 ++ help_twice 1 3))

-- two keys are entered, one after the other
abbrev pub both : {K : Type 0} → K → K → List (Call K)
both first second = submit 1 (Enter first) ∷ submit 2 (Enter second) ∷ (help_twice 1 1 ++ help_twice 1 2)

-- two stations see request 1 at the gate before either of them carries
abbrev pub both_see : {K : Type 0} → List (Call K)
both_see = follow 1 1 ∷ follow 2 1 ∷ []

-- they see it once a carry has decided it
abbrev pub both_see_decided : {K : Type 0} → List (Call K)
both_see_decided = follow 1 1 ∷ carry 1 ∷ both_see

module _ {K T : Type 0} (w : Kinds K T) where
  -- A fresh register counts zero.
  abbrev pub FreshCountsZero : Type 0
  FreshCountsZero =
      (cells : ℕ) (lo hi : K) → 1 ≤ cells
      → final_answer (run w cells (submit 1 (Count lo hi) ∷ help 1 1)) 1 ≡ Some (Counted w.none)

  -- A count whose upper key comes before its lower is zero, whatever the set has.
  abbrev pub EmptyRangeIsZero : Type 0
  EmptyRangeIsZero =
      (lo hi : K) (ks : List K) → before w hi lo ≡ true → answered w (Count lo hi) ks ≡ Counted w.none

  -- The same of every register, whatever was called: such a count, once finished, bears zero.
  abbrev pub EmptyRangeCountsZero : Type 0
  EmptyRangeCountsZero =
      (cells : ℕ) (cs : List (Call K)) (t : ℕ) (lo hi : K) → numbered (run w cells cs).requests t ≡ Some (Count lo hi)
      → before w hi lo ≡ true → finished (run w cells cs) t ≡ true → final_answer (run w cells cs) t ≡ Some (Counted w.none)

  -- The first enter changes the register, the second does not, and the count has the key once.
  abbrev pub EnteredTwice : Type 0
  EnteredTwice =
      (cells : ℕ) (k : K) → 3 ≤ cells
      → (final_answer (run w cells (twice k)) 1 ≡ Some Changed)
      × (final_answer (run w cells (twice k)) 2 ≡ Some Unchanged)
      × (final_answer (run w cells (twice k)) 3 ≡ Some (Counted (w.weighed k)))

  -- Both change the register, and the key is absent afterwards.
  abbrev pub InAndOut : Type 0
  InAndOut =
      (cells : ℕ) (k : K) → 3 ≤ cells
      → (final_answer (run w cells (in_and_out k)) 1 ≡ Some Changed)
      × (final_answer (run w cells (in_and_out k)) 2 ≡ Some Changed)
      × (final_answer (run w cells (in_and_out k)) 3 ≡ Some Absent)

  -- the gate leads to place 2, which is this one, with an empty queue
  abbrev pub MakesPlace : State K T → Place K T → Type 0
  MakesPlace s f = (s.slot ≡ leads 2) × (s.place 2 ≡ Some f) × (s.queue 2 ≡ [])

  -- The second enter makes place 2. The greater key is its split and stands right, the lesser stands left,
  -- whichever came first.
  abbrev pub LesserSecond : Type 0
  LesserSecond =
      (cells : ℕ) (j k : K) → 2 ≤ cells → before w j k ≡ true
      → MakesPlace (run w cells (both k j))
      (record { split = k; left = holds j; right = holds k; tally = w.joined (w.weighed k) (w.weighed j) })

  abbrev pub GreaterSecond : Type 0
  GreaterSecond =
      (cells : ℕ) (j k : K) → 2 ≤ cells → before w j k ≡ true
      → MakesPlace (run w cells (both j k))
      (record { split = k; left = holds j; right = holds k; tally = w.joined (w.weighed j) (w.weighed k) })

  -- Undecided, as a request is that seeks a key: the first carry decides it, the second moves it.
  abbrev pub SeenUndecided : Type 0
  SeenUndecided =
      (cells : ℕ) (r : Request K) (k : K) → 1 ≤ cells → sought r ≡ Some k
      → (carry_answer w (run w cells (submit 1 r ∷ both_see)) 1 ≡ Ok Decided)
      × (carry_answer w (run w cells (submit 1 r ∷ (both_see ++ (carry 1 ∷ [])))) 2 ≡ Ok Moved)

  -- Decided: the first carry moves it, the second is late.
  abbrev pub SeenDecided : Type 0
  SeenDecided =
      (cells : ℕ) (r : Request K) (k : K) → 1 ≤ cells → sought r ≡ Some k
      → (carry_answer w (run w cells (submit 1 r ∷ both_see_decided)) 1 ≡ Ok Moved)
      × (carry_answer w (run w cells (submit 1 r ∷ (both_see_decided ++ (carry 1 ∷ [])))) 2 ≡ Ok Late)

  -- Request 1, an enter, needs the four calls that suffice for it: these are the station's turns,
  -- after three of them it is unfinished, after the fourth finished.
  abbrev pub FirstNeedsFour : Type 0
  FirstNeedsFour =
      (cells : ℕ) (k : K) → 1 ≤ cells
      → Serves w 2 1 (run w cells (submit 1 (Enter k) ∷ [])) (help_twice 2 1)
      × (calls_of w 2 (help_twice 2 1) ≡ 4)
      × (enough w 1 ≡ 4)
      × (finished (run w cells (submit 1 (Enter k) ∷ follow 2 1 ∷ carry 2 ∷ follow 2 1 ∷ [])) 1 ≡ false)
      × (finished (run w cells (submit 1 (Enter k) ∷ help_twice 2 1)) 1 ≡ true)

  -- all of them
  pub record EdgeCases : Type 0 where
    pub fresh_counts_zero : FreshCountsZero
    pub empty_range_is_zero : EmptyRangeIsZero
    pub empty_range_counts_zero : EmptyRangeCountsZero
    pub entered_twice : EnteredTwice
    pub in_and_out : InAndOut
    pub lesser_second : LesserSecond
    pub greater_second : GreaterSecond
    pub seen_undecided : SeenUndecided
    pub seen_decided : SeenDecided
    pub first_needs_four : FirstNeedsFour
