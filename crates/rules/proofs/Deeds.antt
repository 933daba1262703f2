-- What a carry does, by the station's note: it drops a note of no use, decides, walks on, or moves. Assumes nothing.
use Rattle.std.proofs.Common.{◌≡◌, ℕ, ◌<◌, Bool, true, false, not, ◌&&◌, leb, is_some, Some, None, Option}
use Rattle.requests.specs.declared.request.Request.{Request}
use Rattle.rules.specs.declared.note.Note.{Note}
use Rattle.rules.specs.declared.note.Note.TheVariants as note
use Rattle.rules.specs.States.{State}
use Rattle.rules.specs.Queues.{numbered, heads}
use Rattle.rules.specs.Changes.{with_note, with_decision}
use Rattle.rules.specs.Carries.{sought}
use Rattle.rules.proofs.Trees.{Tree}
use Rattle.rules.proofs.MovedBy.{MovedBy}

-- whether a number has a request, and this one wants a decision
abbrev pub wants : {K : Type 0} → Option (Request K) → Bool
wants None = false
wants (Some r) = is_some (sought r)

module _ {K T : Type 0} (s : State K T) where
  -- whether request r waits at the gate for its decision, where all before `time` have passed
  abbrev pub undecided : ℕ → ℕ → Bool
  undecided time r = leb time r && (wants (numbered s.requests r) && not (is_some (s.decision r)))

  -- a note that says nothing of use: another heads the queue, or the decision is there
  abbrev pub Lapsed : Note → Type 0
  Lapsed note.None = Unit {0}
  Lapsed (note.Saw r p) = heads r (s.queue p) ≡ true → numbered s.requests r ≡ None
  Lapsed (note.Walk r p) = is_some (s.decision r) ≡ true

  -- a note by which request r is decided
  abbrev pub Seeks : Note → ℕ → Type 0
  Seeks note.None r = ⊥
  Seeks (note.Saw t p) r = t ≡ r
  Seeks (note.Walk t p) r = t ≡ r

  -- a note by which the walk for request r comes to place f
  abbrev pub Nears : Note → ℕ → ℕ → Type 0
  Nears note.None r f = ⊥
  Nears (note.Saw t p) r f = (t ≡ r) × (0 < f)
  Nears (note.Walk t p) r f = (t ≡ r) × (p < f)

-- a carry of station n by its note, from s, x and time to s', y and time'
pub data Deed {K T : Type 0} (s s' : State K T) (x y : Tree K T) (time time' n : ℕ) (old : Note) : Type 0 where
  lapsed : s' ≡ with_note s n note.None → y ≡ x → time' ≡ time → Lapsed s old → Deed s s' x y time time' n old
  decided : (r : ℕ) (d : Bool) → s' ≡ with_note (with_decision s r d) n note.None → y ≡ x → time' ≡ time → undecided s time r ≡ true → Seeks s old r
      → Deed s s' x y time time' n old
  walked : (r f : ℕ) → s' ≡ with_note s n (note.Walk r f) → y ≡ x → time' ≡ time → undecided s time r ≡ true → Nears s old r f
      → Deed s s' x y time time' n old
  moved : (p m : ℕ) (z : State K T) → s' ≡ with_note z n note.None → old ≡ note.Saw m p → MovedBy s z x y time time' p m
      → Deed s s' x y time time' n old
