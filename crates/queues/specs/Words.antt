-- What requests say of a key.
use Rattle.std.specs.Prelude.{ℕ, Bool, cond, List, is_some, Some, None, Option}
use Rattle.requests.specs.declared.request.Request.{Request}
use Rattle.rules.specs.Carries.{says}
use Rattle.rules.specs.Kinds.{Kinds}
use Rattle.rules.specs.Queues.{numbered}
use Rattle.rules.specs.States.{State}
use Rattle.queues.specs.Held.{held_at}

module _ {K T : Type 0} (w : Kinds K T) where
  -- what request t says of a key that it changes
  abbrev pub word_on : List (Request K) → K → ℕ → Option Bool
  word_on rs k t = elim (numbered rs t) [ None ↦ None | Some r ↦ says w k r ]

  -- the request that station n holds, if it waits at place p and changes a key
  abbrev pub word_held : State K T → K → ℕ → ℕ → Option ℕ
  word_held s k p n = elim (held_at s p n) [ None ↦ None | Some t ↦ cond (is_some (word_on s.requests k t)) (Some t) None ]
