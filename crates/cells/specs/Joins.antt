-- When a request may join a queue.
use Rattle.std.specs.Prelude.{◌≡◌, ℕ, ◌<◌, true, ◌≢◌}
use Rattle.rules.specs.declared.mode.Mode.{Mode}
use Rattle.rules.specs.declared.mode.Mode.TheVariants.{Between}
use Rattle.rules.specs.States.{State}
use Rattle.rules.specs.Queues.{stands}
use Rattle.rules.specs.Sound.{stands_in}

-- request t may join p's queue in a mode: all who stand there have lower numbers,
-- and where t waits already, the two are the halves of a count
abbrev pub Joinable : {K T : Type 0} → State K T → ℕ → ℕ → Mode → Type 0
Joinable s t p m =
    ((x : ℕ) → stands x (s.queue p) ≡ true → x < t)
    × ((q : ℕ) (m' : Mode) → stands_in t m' (s.queue q) ≡ true → (m' ≢ m) × (m ≢ Between) × (m' ≢ Between))
