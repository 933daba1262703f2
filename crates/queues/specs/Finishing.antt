-- How many requests are unfinished.
use Rattle.std.specs.Prelude.{ℕ, zero, suc, ◌+◌, Bool, false, cond, not, Some, None}
use Rattle.rules.specs.Queues.{given, finished}
use Rattle.rules.specs.States.{State}

-- how many numbers from 1 to n pass a test
abbrev pub count_of : (ℕ → Bool) → ℕ → ℕ
count_of test zero = 0
count_of test (suc n) = count_of test n + cond (test (suc n)) 1 0

module _ {K T : Type 0} (s : State K T) where
  -- whether the request that station n holds is unfinished
  abbrev pub unfinished_held : ℕ → Bool
  unfinished_held n = elim (s.desk n).uncollected [ None ↦ false | Some t ↦ not (finished s t) ]

  -- how many requests are unfinished
  abbrev pub unfinished_in : ℕ
  unfinished_in = count_of (λ t. not (finished s t)) (given s)
