-- Tables: lines of calls with what each answers, of readings off, and of drawings of the state. A table holds
-- when doing its calls from the opening gives every line as it is written.
use Rattle.std.specs.Prelude.{◌≡◌, ℕ, zero, suc, List, [], ◌∷◌, Some, None, Ok, Err, Result}
use Rattle.keys.specs.declared.refusal.Refusal.{Refusal}
use Rattle.tallies.specs.declared.number.Number.{Number}
use Rattle.requests.specs.declared.answer.Answer.{Answer}
use Rattle.requests.specs.declared.answer.Answer.TheVariants.{Changed, Unchanged, Present, Absent, Counted}
use Rattle.rules.specs.declared.carried.Carried.{Carried}
use Rattle.rules.specs.Kinds.{Kinds}
use Rattle.rules.specs.States.{State, Slot, Waiter, empty, holds, leads, opening}
use Rattle.rules.specs.Queues.{given}
use Rattle.rules.specs.Calls.{Call, submit, follow, carry, collect, after, submit_answer, follow_answer, carry_answer, collect_answer}
use Rattle.rules.specs.ReadOff.{keys_listed, read_off_answer}

-- what a call answers: a number, a place and the head there, what a carry did, a number with its answer, or a refusal;
-- a tally is given by its value
pub data Reply : Type 0 where
  number : ℕ → Reply
  at : ℕ → ℕ → Reply
  did : Carried → Reply
  answer : ℕ → Answer ℕ → Reply
  refused : Refusal → Reply

-- a slot drawn with all that lies under it
pub data Drawing (K : Type 0) : Type 0 where
  nothing : Drawing K
  key : K → Drawing K
  -- the number, split, tally and queue of a place, its left and its right
  place : ℕ → K → ℕ → List Waiter → Drawing K → Drawing K → Drawing K

-- a line of a table
pub data Line (K : Type 0) : Type 0 where
  -- a call, and its answer
  ◌⟶◌ : Call K → Reply → Line K
  -- reading off over a row of so many keys and a work row of so many values: how many keys are written, and which
  reads : ℕ → ℕ → Result (ℕ × List K) Refusal → Line K
  -- the gate's queue, and its slot drawn
  shows : List Waiter → Drawing K → Line K

infix 70 ◌⟶◌
-- the calls of a table
abbrev pub calls_in : {K : Type 0} → List (Line K) → List (Call K)
calls_in [] = []
calls_in (c ⟶ a ∷ ls) = c ∷ calls_in ls
calls_in (reads row work a ∷ ls) = calls_in ls
calls_in (shows q d ∷ ls) = calls_in ls

-- an answer with the value of its tally
abbrev pub by_value : Answer Number → Answer ℕ
by_value Changed = Changed
by_value Unchanged = Unchanged
by_value Present = Present
by_value Absent = Absent
by_value (Counted tally) = Counted tally.value

module _ {K : Type 0} (w : Kinds K Number) where
  -- what the rules answer to a call
  abbrev pub reply : State K Number → Call K → Reply
  reply s (submit n r) = elim (submit_answer w s n r) [ Ok t ↦ number t | Err e ↦ refused e ]
  reply s (follow n t) = elim (follow_answer w s n t) [ Ok x ↦ at x.0 x.1 | Err e ↦ refused e ]
  reply s (carry n) = elim (carry_answer w s n) [ Ok x ↦ did x | Err e ↦ refused e ]
  reply s (collect n) = elim (collect_answer w s n) [ Ok x ↦ answer x.0 (by_value x.1) | Err e ↦ refused e ]

  -- a slot drawn, followed down so many places
  abbrev pub drawn : State K Number → ℕ → Slot K → Drawing K
  drawn s depth empty = nothing
  drawn s depth (holds k) = key k
  drawn s zero (leads p) = nothing
  drawn s (suc depth) (leads p) =
      elim (s.place p) [
        | None ↦ nothing
        | Some f ↦ place p f.split f.tally.value (s.queue p) (drawn s depth f.left) (drawn s depth f.right)
      ]

  -- a line, with what the rules give in place of what it says
  abbrev pub redone : State K Number → Line K → Line K
  redone s (c ⟶ a) = c ⟶ reply s c
  redone s (reads row work a) = reads row work (elim (read_off_answer s row work) [ Ok n ↦ Ok (n, keys_listed s) | Err e ↦ Err e ])
  redone s (shows q d) = shows (s.queue 0) (drawn s (given s) s.slot)

  -- the state behind a line
  abbrev pub past : State K Number → Line K → State K Number
  past s (c ⟶ a) = after w s c
  past s (reads row work a) = s
  past s (shows q d) = s

  -- all lines from a state on, each from where those before it lead
  abbrev pub redone_all : State K Number → List (Line K) → List (Line K)
  redone_all s [] = []
  redone_all s (l ∷ ls) = redone s l ∷ redone_all (past s l) ls

  -- the lines hold of a register over so many cells
  abbrev pub Holds : ℕ → List (Line K) → Type 0
  Holds cells lines = redone_all (opening w cells) lines ≡ lines
