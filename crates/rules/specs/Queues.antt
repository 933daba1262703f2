-- Waiting, heads, and finishing.
use Rattle.std.specs.Prelude.{ℕ, zero, suc, Bool, false, cond, not, ◌||◌, List, [], ◌∷◌, length, is_some, Some, None, Option, ◌==◌}
use Rattle.requests.specs.declared.answer.Answer.{Answer}
use Rattle.requests.specs.declared.answer.Answer.TheVariants.{Counted}
use Rattle.requests.specs.declared.request.Request.{Request}
use Rattle.requests.specs.declared.request.Request.TheVariants.{Enter, Withdraw, LookUp, Count}
use Rattle.rules.specs.States.{State, Waiter}

-- the request of that number, from 1
abbrev pub numbered : {X : Type 0} → List X → ℕ → Option X
numbered [] t = None
numbered (x ∷ xs) zero = None
numbered (x ∷ xs) (suc zero) = Some x
numbered (x ∷ xs) (suc (suc t)) = numbered xs (suc t)

-- the lowest number below a bound that passes a test
abbrev pub lowest : (ℕ → Bool) → ℕ → Option ℕ
lowest test zero = None
lowest test (suc b) = elim (lowest test b) [ Some p ↦ Some p | None ↦ cond (test b) (Some b) None ]

-- whether a request stands in a queue
abbrev pub stands : ℕ → List Waiter → Bool
stands t [] = false
stands t (e ∷ q) = e.number == t || stands t q

-- the request at the head of a queue
abbrev pub head_of : List Waiter → Option ℕ
head_of [] = None
head_of (e ∷ q) = Some e.number

-- whether a request heads a queue
abbrev pub heads : ℕ → List Waiter → Bool
heads t [] = false
heads t (e ∷ q) = e.number == t

-- a queue without its head
abbrev pub behind : List Waiter → List Waiter
behind [] = []
behind (e ∷ q) = q

module _ {K T : Type 0} (s : State K T) where
  -- how many requests were submitted; they have the numbers from 1 to this
  abbrev pub given : ℕ
  given = length s.requests

  -- a request waits at a place, the gate included, if it stands in the place's queue
  abbrev pub waits : ℕ → ℕ → Bool
  waits t p = stands t (s.queue p)

  -- the lowest-numbered place where a request waits; no place has a higher number than the last request
  abbrev pub waiting_place : ℕ → Option ℕ
  waiting_place t = lowest (waits t) (suc given)

  -- a request is finished when it waits in no queue
  abbrev pub finished : ℕ → Bool
  finished t = not (is_some (waiting_place t))

  -- the answer that a request bears: a count's is its tally so far
  abbrev pub bears : ℕ → Request K → Option (Answer T)
  bears t (Enter k) = s.answer t
  bears t (Withdraw k) = s.answer t
  bears t (LookUp k) = s.answer t
  bears t (Count lo hi) = Some (Counted (s.counted t))

  -- the answer of a finished request, none before
  abbrev pub final_answer : ℕ → Option (Answer T)
  final_answer t =
      cond (finished t) (elim (numbered s.requests t) [ None ↦ None | Some r ↦ bears t r ]) None
