-- One move, as the service bound sees it: who moved where, and what became of tree and gate. Rests on Falls and Meets.
use Rattle.std.proofs.Common.{◌≡◌, ℕ, suc, true, ◌⊎◌}
use Rattle.rules.specs.States.{State}
use Rattle.rules.specs.Queues.{heads}
use Rattle.rules.proofs.Trees.{Tree}
use Rattle.rules.proofs.Pends.{waiting}
use Rattle.rules.proofs.Falls.{Stays, Falls}
use Rattle.rules.proofs.Meets.{Rest}

module _ {K T : Type 0} where
  -- request m has moved at place p, and state, tree and time of the gate are now s', y and time'
  pub record MovedBy (s s' : State K T) (x y : Tree K T) (time time' p m : ℕ) : Type 0 where
    pub headed : heads m (s.queue p) ≡ true
    -- requests, decisions and stations are as they were
    pub rest : Rest s s'
    -- heads of other queues stay
    pub stay : (i r : ℕ) → (i ≡ p → ⊥) → heads r (s.queue i) ≡ true → heads r (s'.queue i) ≡ true
    -- all others wait as before
    pub waits : (i : ℕ) → (i ≡ m → ⊥) → waiting i y ≡ waiting i x
    -- in the tree, or from the gate
    pub down : ((time' ≡ time) × Falls m x y) ⊎ ((p ≡ 0) × (m ≡ time) × (time' ≡ suc time) × Stays m x y)
