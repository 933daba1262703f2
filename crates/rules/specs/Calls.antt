-- The four calls: what each answers, and the state that it leaves. A refusal leaves the state as it was.
use Rattle.std.specs.Prelude.{ℕ, zero, suc, Bool, true, false, cond, not, List, [], ◌∷◌, is_some, Some, None, Ok, Err, Option, Result, nat_le}
use Rattle.keys.specs.declared.refusal.Refusal.{Refusal}
use Rattle.keys.specs.declared.refusal.Refusal.TheVariants as no
use Rattle.requests.specs.Stations.{is_station}
use Rattle.requests.specs.declared.answer.Answer.{Answer}
use Rattle.requests.specs.declared.request.Request.{Request}
use Rattle.rules.specs.declared.carried.Carried.{Carried}
use Rattle.rules.specs.declared.mode.Mode.TheVariants.{Between}
use Rattle.rules.specs.declared.note.Note.{Note}
use Rattle.rules.specs.declared.note.Note.TheVariants as note
use Rattle.rules.specs.Kinds.{Kinds}
use Rattle.rules.specs.States.{State, opening}
use Rattle.rules.specs.Queues.{given, waiting_place, finished, final_answer, head_of}
use Rattle.rules.specs.Changes.{with_request, with_note, with_uncollected, with_waiter}
use Rattle.rules.specs.Carries.{carried}

-- the first check that fails refuses
abbrev pub check : Bool → Refusal → Option Refusal → Option Refusal
check fails e others = cond fails (Some e) others

-- the answer of a call, and the state after it, by its refusal
abbrev pub answer_by : {X : Type 0} → Option Refusal → X → Result X Refusal
answer_by None x = Ok x
answer_by (Some e) x = Err e

abbrev pub state_by : {S : Type 0} → Option Refusal → S → S → S
state_by None old new = new
state_by (Some e) old new = old

abbrev pub has_note : Note → Bool
has_note note.None = false
has_note (note.Saw t p) = true
has_note (note.Walk t p) = true

module _ {K T : Type 0} (w : Kinds K T) (s : State K T) where
  -- Submit: the request gets the next number and joins the gate's queue.
  abbrev pub submit_refusal : ℕ → Option Refusal
  submit_refusal n =
      check (not (is_station n)) no.NoStation
      (check (is_some (s.desk n).uncollected) no.Uncollected
      (check (nat_le s.capacity (given s)) no.Full None))

  abbrev pub submit_answer : ℕ → Request K → Result ℕ Refusal
  submit_answer n r = answer_by (submit_refusal n) (suc (given s))

  abbrev pub submit_after : ℕ → Request K → State K T
  submit_after n r =
      state_by (submit_refusal n) s
      (with_uncollected (with_waiter (with_request s (suc (given s)) n r) 0 (suc (given s)) Between) n (Some (suc (given s))))

  -- Follow: where request t waits, and who stands at the head there.
  abbrev pub is_given : ℕ → Bool
  is_given zero = false
  is_given (suc t) = nat_le (suc t) (given s)

  abbrev pub follow_refusal : ℕ → ℕ → Option Refusal
  follow_refusal n t =
      check (not (is_station n)) no.NoStation
      (check (not (is_given t)) no.NotGiven
      (check (finished s t) no.Finished None))

  -- the lowest-numbered place where t waits; the gate where it waits nowhere
  abbrev pub followed_place : ℕ → ℕ
  followed_place t = elim (waiting_place s t) [ None ↦ 0 | Some p ↦ p ]

  -- the head of its queue
  abbrev pub followed_head : ℕ → ℕ
  followed_head t = elim (head_of (s.queue (followed_place t))) [ None ↦ 0 | Some r ↦ r ]

  abbrev pub follow_answer : ℕ → ℕ → Result (ℕ × ℕ) Refusal
  follow_answer n t = answer_by (follow_refusal n t) (followed_place t, followed_head t)

  abbrev pub follow_after : ℕ → ℕ → State K T
  follow_after n t = state_by (follow_refusal n t) s (with_note s n (note.Saw (followed_head t) (followed_place t)))

  -- Carry: what the note says is done.
  abbrev pub carry_refusal : ℕ → Option Refusal
  carry_refusal n =
      check (not (is_station n)) no.NoStation
      (check (not (has_note (s.desk n).note)) no.NoNote None)

  abbrev pub carry_answer : ℕ → Result Carried Refusal
  carry_answer n = answer_by (carry_refusal n) (carried w s n (s.desk n).note).0

  abbrev pub carry_after : ℕ → State K T
  carry_after n = state_by (carry_refusal n) s (carried w s n (s.desk n).note).1

  -- Collect: the answer of the station's finished request; the station is free to submit.
  abbrev pub collect_by : Option ℕ → Result (ℕ × Answer T) Refusal
  collect_by None = Err no.NothingToCollect
  collect_by (Some t) = elim (final_answer s t) [ None ↦ Err no.Unfinished | Some a ↦ Ok (t, a) ]

  abbrev pub collect_answer : ℕ → Result (ℕ × Answer T) Refusal
  collect_answer n = cond (is_station n) (collect_by (s.desk n).uncollected) (Err no.NoStation)

  abbrev pub collect_after : ℕ → State K T
  collect_after n = elim (collect_answer n) [ Ok a ↦ with_uncollected s n None | Err e ↦ s ]

-- a call, with any arguments
pub data Call (K : Type 0) : Type 0 where
  submit : ℕ → Request K → Call K
  follow : ℕ → ℕ → Call K
  carry : ℕ → Call K
  collect : ℕ → Call K

-- the station that calls
abbrev pub caller : {K : Type 0} → Call K → ℕ
caller (submit n r) = n
caller (follow n t) = n
caller (carry n) = n
caller (collect n) = n

module _ {K T : Type 0} (w : Kinds K T) where
  -- the state after a call, refused or not
  abbrev pub after : State K T → Call K → State K T
  after s (submit n r) = submit_after w s n r
  after s (follow n t) = follow_after w s n t
  after s (carry n) = carry_after w s n
  after s (collect n) = collect_after w s n

  -- the state after a list of calls
  abbrev pub after_all : State K T → List (Call K) → State K T
  after_all s [] = s
  after_all s (c ∷ cs) = after_all (after s c) cs

  -- the state of a register over so many cells after a list of calls from its opening
  abbrev pub run : ℕ → List (Call K) → State K T
  run cells cs = after_all (opening w cells) cs
