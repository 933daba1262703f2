-- What is true of every register, however it came to its state.
use Rattle.std.specs.Prelude.{◌≡◌, ℕ, suc, ◌+◌, ◌*◌, ◌/◌, ◌≤◌, true, cond, List, [], ◌∷◌, Some, ◌==◌}
use Rattle.requests.specs.Stations.{is_station}
use Rattle.requests.specs.declared.request.Request.{Request}
use Rattle.rules.specs.declared.note.Note.TheVariants as note
use Rattle.rules.specs.Kinds.{Kinds}
use Rattle.rules.specs.Plain.{Ascends, answered, set_after, set_before}
use Rattle.rules.specs.States.{State}
use Rattle.rules.specs.Queues.{numbered, finished, final_answer}
use Rattle.rules.specs.Calls.{Call, follow, carry, caller, has_note, after, after_all, run}
use Rattle.rules.specs.ReadOff.{keys_listed, all_finished}

module _ {K T : Type 0} (w : Kinds K T) where
  -- (a) Every finished request bears the answer that the plain set gives
  -- when the requests are each done whole in the order of their numbers.
  abbrev pub AnswersArePlain : State K T → Type 0
  AnswersArePlain s =
      (t : ℕ) (r : Request K) → numbered s.requests t ≡ Some r → finished s t ≡ true
      → final_answer s t ≡ Some (answered w r (set_before w s.requests t))

  -- what a station that serves request t calls next: it follows t without a note, and carries with one
  abbrev pub turn : State K T → ℕ → ℕ → Call K
  turn s n t = cond (has_note (s.desk n).note) (carry n) (follow n t)

  -- among these calls from here on, station n makes no call but such turns; the others call what they like
  abbrev pub Serves : ℕ → ℕ → State K T → List (Call K) → Type 0
  Serves n t s [] = Unit {0}
  Serves n t s (c ∷ cs) = (caller c ≡ n → c ≡ turn s n t) × Serves n t (after w s c) cs

  -- how many of these calls are the station's
  abbrev pub calls_of : ℕ → List (Call K) → ℕ
  calls_of n [] = 0
  calls_of n (c ∷ cs) = cond (caller c == n) (suc (calls_of n cs)) (calls_of n cs)

  -- so many calls finish request t
  abbrev pub enough : ℕ → ℕ
  enough t = 3 * t * (t + 1) / 2 + t

  -- (b) A station that begins without a note, follows request t whenever it has none, carries whenever it has one,
  -- and makes no other call, gets t finished within so many calls, whatever the others call in between.
  abbrev pub ServiceEnds : State K T → Type 0
  ServiceEnds s =
      (n t : ℕ) (r : Request K) (cs : List (Call K)) → is_station n ≡ true → numbered s.requests t ≡ Some r
      → (s.desk n).note ≡ note.None → Serves n t s cs → enough t ≤ calls_of n cs → finished (after_all w s cs) t ≡ true

  -- (c) When no request is unfinished, reading off lists exactly the keys of the plain set after all requests,
  -- ascending, each once.
  abbrev pub ReadingIsPlain : State K T → Type 0
  ReadingIsPlain s =
      all_finished s ≡ true → (keys_listed s ≡ set_after w s.requests) × Ascends w (keys_listed s)

  -- the three of every state that calls lead to from the opening
  abbrev pub RegisterLaws : Type 0
  RegisterLaws =
      (cells : ℕ) (cs : List (Call K))
      → AnswersArePlain (run w cells cs) × ServiceEnds (run w cells cs) × ReadingIsPlain (run w cells cs)
