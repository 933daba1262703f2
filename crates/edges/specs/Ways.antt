-- Registers that keep the rules but for one thing. What a carry goes by is gathered here as a register's ways;
-- with the rules' own ways these are the rules.
use Rattle.std.specs.Prelude.{◌≡◌, ℕ, zero, suc, ◌≤◌, Bool, true, cond, List, [], ◌∷◌, Some, None, Option, Result, ◌==◌}
use Rattle.keys.specs.declared.refusal.Refusal.{Refusal}
use Rattle.requests.specs.Stations.{is_station}
use Rattle.requests.specs.declared.request.Request.{Request}
use Rattle.rules.specs.declared.carried.Carried.{Carried}
use Rattle.rules.specs.declared.carried.Carried.TheVariants.{Moved}
use Rattle.rules.specs.declared.mode.Mode.{Mode}
use Rattle.rules.specs.declared.note.Note.{Note}
use Rattle.rules.specs.declared.note.Note.TheVariants as note
use Rattle.rules.specs.Kinds.{Kinds}
use Rattle.rules.specs.States.{State, Waiter, opening}
use Rattle.rules.specs.Queues.{numbered, finished}
use Rattle.rules.specs.Changes.{with_queue}
use Rattle.rules.specs.Moves.{acted}
use Rattle.rules.specs.Carries.{sought, last_word, dropped, late, read_slot, look}
use Rattle.rules.specs.Calls.{Call, submit, follow, carry, collect, caller, answer_by, state_by, carry_refusal, after}
use Rattle.rules.specs.Laws.{ServiceEnds, turn, calls_of, enough}

-- what a carry goes by
pub record Ways (K T : Type 0) : Type 0 where
  -- what a queue says of a key
  pub word : List (Request K) → K → List Waiter → Option Bool
  -- who moves out of a queue for a station that noted request t at its head, and the queue that is left
  pub leaves : ℕ → List Waiter → Option (Waiter × List Waiter)
  -- what a request does at a place once it has left the queue there
  pub acts : State K T → ℕ → ℕ → Mode → Request K → State K T

-- the head, if it still is the request that was noted
abbrev pub if_noted : ℕ → List Waiter → Option (Waiter × List Waiter)
if_noted t [] = None
if_noted t (e ∷ q) = cond (e.number == t) (Some (e, q)) None

module _ {K T : Type 0} (w : Kinds K T) where
  -- the ways of the rules
  abbrev pub rules_ways : Ways K T
  rules_ways = record { word = last_word w; leaves = if_noted; acts = acted w }

  module _ (ways : Ways K T) where
    module _ (s : State K T) (n : ℕ) where
      -- request r leaves the queue of p as e, so that q is left, and acts
      abbrev pub move_by : ℕ → Waiter → List Waiter → Request K → Carried × State K T
      move_by p e q r = (Moved, dropped w s n (ways.acts (with_queue s p q) e.number p e.mode r))

      -- at the gate, a request that is no count is decided before it moves
      abbrev pub at_gate_by : Waiter → List Waiter → Request K → Option K → Option Bool → Carried × State K T
      at_gate_by e q r None d = move_by 0 e q r
      at_gate_by e q r (Some k) (Some d) = move_by 0 e q r
      at_gate_by e q r (Some k) None = read_slot w s n e.number k s.slot

      abbrev pub at_head_by : ℕ → Waiter → List Waiter → Request K → Carried × State K T
      at_head_by zero e q r = at_gate_by e q r (sought r) (s.decision e.number)
      at_head_by (suc p) e q r = move_by (suc p) e q r

      abbrev pub saw_by : ℕ → Option (Waiter × List Waiter) → Carried × State K T
      saw_by p None = late w s n
      saw_by p (Some (e, q)) = elim (numbered s.requests e.number) [ None ↦ late w s n | Some r ↦ at_head_by p e q r ]

      abbrev pub walk_by : ℕ → ℕ → Option Bool → Option K → Carried × State K T
      walk_by t p (Some d) k = late w s n
      walk_by t p None None = late w s n
      walk_by t p None (Some k) = look w s n t p k (ways.word s.requests k (s.queue p))

      -- a carry by the note, in these ways
      abbrev pub carried_by : Note → Carried × State K T
      carried_by note.None = late w s n
      carried_by (note.Saw t p) = saw_by p (ways.leaves t (s.queue p))
      carried_by (note.Walk t p) = walk_by t p (s.decision t) (elim (numbered s.requests t) [ None ↦ None | Some r ↦ sought r ])

    -- what a carry of such a register answers
    abbrev pub carry_answer_by : State K T → ℕ → Result Carried Refusal
    carry_answer_by s n = answer_by (carry_refusal w s n) (carried_by s n (s.desk n).note).0

    -- the state after a call of such a register; its carries alone go by these ways
    abbrev pub after_by : State K T → Call K → State K T
    after_by s (submit n r) = after w s (submit n r)
    after_by s (follow n t) = after w s (follow n t)
    after_by s (carry n) = state_by (carry_refusal w s n) s (carried_by s n (s.desk n).note).1
    after_by s (collect n) = after w s (collect n)

  -- the rules, and the law that speaks of them step by step, with any other step in place of theirs
  module _ (step : State K T → Call K → State K T) where
    -- the state after a list of calls
    abbrev pub steps : State K T → List (Call K) → State K T
    steps s [] = s
    steps s (c ∷ cs) = steps (step s c) cs

    -- the state after a list of calls from the opening, over so many cells
    abbrev pub run_of : ℕ → List (Call K) → State K T
    run_of cells cs = steps (opening w cells) cs

    -- among these calls from here on, station n makes no call but its turns for request t
    abbrev pub ServesIn : ℕ → ℕ → State K T → List (Call K) → Type 0
    ServesIn n t s [] = Unit {0}
    ServesIn n t s (c ∷ cs) = (caller c ≡ n → c ≡ turn w s n t) × ServesIn n t (step s c) cs

    -- a station that begins without a note and makes its turns for t gets t finished within so many calls
    abbrev pub ServiceEndsIn : State K T → Type 0
    ServiceEndsIn s =
        (n t : ℕ) (r : Request K) (cs : List (Call K)) → is_station n ≡ true → numbered s.requests t ≡ Some r
        → (s.desk n).note ≡ note.None → ServesIn n t s cs → enough w t ≤ calls_of w n cs → finished (steps s cs) t ≡ true

  -- With the ways of the rules every call leaves what the rules say.
  abbrev pub RulesByTheirWays : Type 0
  RulesByTheirWays = (s : State K T) (c : Call K) → after_by rules_ways s c ≡ after w s c

  -- With the rules' own step the law is theirs.
  abbrev pub ServiceByTheRules : Type 0
  ServiceByTheRules =
      (s : State K T) → (ServiceEndsIn (after w) s → ServiceEnds w s) × (ServiceEnds w s → ServiceEndsIn (after w) s)
