-- What a station holds of a queue.
use Rattle.std.specs.Prelude.{ℕ, cond, Some, None, Option}
use Rattle.rules.specs.Queues.{stands}
use Rattle.rules.specs.States.{State}

-- the request that station n holds, if it waits at place p
abbrev pub held_at : {K T : Type 0} → State K T → ℕ → ℕ → Option ℕ
held_at s p n = elim (s.desk n).uncollected [ None ↦ None | Some t ↦ cond (stands t (s.queue p)) (Some t) None ]
