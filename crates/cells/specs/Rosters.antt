-- Queues without lists in memory: each request says where it waits, and a queue is the ascending row of those who wait there.
use Rattle.std.specs.Prelude.{ℕ, suc, cond, List, [], ◌∷◌, ◌++◌, Some, None, Option, ◌==◌}
use Rattle.rules.specs.States.{Waiter}
use Rattle.rules.specs.declared.mode.Mode.{Mode}
use Rattle.rules.specs.declared.mode.Mode.TheVariants as mode
use Rattle.cells.specs.declared.waits.Waits.{Waits}
use Rattle.cells.specs.declared.waits.Waits.TheVariants.{Nowhere, Between, From, Upto, Halves}

-- in which mode a request waits at a place
abbrev pub mode_at : Waits → ℕ → Option Mode
mode_at Nowhere p = None
mode_at (Between q) p = cond (q == p) (Some mode.Between) None
mode_at (From q) p = cond (q == p) (Some mode.From) None
mode_at (Upto q) p = cond (q == p) (Some mode.Upto) None
mode_at (Halves from upto) p = cond (from == p) (Some mode.From) (cond (upto == p) (Some mode.Upto) None)

-- request t in a queue, if it waits in a mode
abbrev pub waiter_if : ℕ → Option Mode → List Waiter
waiter_if t None = []
waiter_if t (Some m) = record { number = t; mode = m } ∷ []

-- who of the requests numbered from t on waits at place p, ascending
abbrev pub roster : ℕ → ℕ → List Waits → List Waiter
roster p t [] = []
roster p t (x ∷ xs) = waiter_if t (mode_at x p) ++ roster p (suc t) xs

-- where a request waits once it has left a place
abbrev pub waits_without : Waits → ℕ → Waits
waits_without Nowhere p = Nowhere
waits_without (Between q) p = cond (q == p) Nowhere (Between q)
waits_without (From q) p = cond (q == p) Nowhere (From q)
waits_without (Upto q) p = cond (q == p) Nowhere (Upto q)
waits_without (Halves from upto) p = cond (from == p) (cond (upto == p) Nowhere (Upto upto)) (cond (upto == p) (From from) (Halves from upto))

-- where a request waits once it has joined a place in a mode; only the halves of a count wait at two
abbrev pub waits_with : Waits → ℕ → Mode → Waits
waits_with w p mode.Between = Between p
waits_with Nowhere p mode.From = From p
waits_with (Between q) p mode.From = From p
waits_with (From q) p mode.From = From p
waits_with (Upto q) p mode.From = Halves p q
waits_with (Halves from upto) p mode.From = Halves p upto
waits_with Nowhere p mode.Upto = Upto p
waits_with (Between q) p mode.Upto = Upto p
waits_with (From q) p mode.Upto = Halves q p
waits_with (Upto q) p mode.Upto = Upto p
waits_with (Halves from upto) p mode.Upto = Halves from p

-- a queue without a request
abbrev pub removed : ℕ → List Waiter → List Waiter
removed t [] = []
removed t (e ∷ q) = cond (e.number == t) (removed t q) (e ∷ removed t q)
