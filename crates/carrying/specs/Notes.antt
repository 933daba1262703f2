-- What a note speaks of, and what a head wants decided.
use Rattle.std.specs.Prelude.{ℕ, zero, suc, Bool, Some, None, Option}
use Rattle.rules.specs.declared.note.Note.{Note}
use Rattle.rules.specs.declared.note.Note.TheVariants as note

-- the request of a note, and its place; none where there is no note
abbrev pub note_request : Note → Option ℕ
note_request note.None = None
note_request (note.Saw t p) = Some t
note_request (note.Walk t p) = Some t

abbrev pub note_place : Note → Option ℕ
note_place note.None = None
note_place (note.Saw t p) = Some p
note_place (note.Walk t p) = Some p

-- at the gate, the key of a request that has one and no decision yet
abbrev pub gate_key : {K : Type 0} → ℕ → Option K → Option Bool → Option K
gate_key zero None d = None
gate_key zero (Some k) None = Some k
gate_key zero (Some k) (Some d) = None
gate_key (suc p) k d = None
