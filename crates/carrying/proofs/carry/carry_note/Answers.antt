-- The note's request heads the queue still, so it is carried.
use Rattle.std.proofs.Common.{◌≡◌, Some, sym, ap, ◌∙◌}
use Rattle.std.specs.Option.{option_and_then}
use Rattle.rules.specs.declared.carried.Carried.{Carried}
use Rattle.rules.specs.declared.note.Note.TheVariants as note
use Rattle.rules.specs.Carries.{carried}
use Rattle.rules.specs.Kinds.{kinds_of}
use Rattle.rules.specs.Queues.{head_of, numbered}
use Rattle.rules.specs.Sound.{Sound}
use Rattle.rules.specs.States.{State}
use Rattle.board.specs.Of.{board_state}
use Rattle.carrying.specs.Notes.{note_request, note_place}
use Rattle.carrying.proofs.Heads.{headed, seen}
use Rattle.carrying.proofs.carry.carry_note.Goals as goal

pub returns-in-Saw-Some-default-Some : goal.returns-in-Saw-Some-default-Some
returns-in-Saw-Some-default-Some g c =
    let s = board_state g.K.Key g.T.Tally c.args.board.now in
    let n = c.args.station.number in
    let t = c.in-Saw-Some-default-Some.request in
    let p = c.in-Saw-Some-default-Some.place in
    let asked = c.in-Saw-Some-default-Some.asked in
    let saw : c.note-note.result ≡ note.Saw t p = c.in-Saw-Some-default-Some.is-0 in
    let noted : (s.desk n).note ≡ note.Saw t p = sym c.note-note.ensures ∙ saw in
    let num : numbered s.requests t ≡ Some asked = sym (ap (λ v. option_and_then (numbered s.requests) (note_request v)) saw) ∙ sym c.noted_asked-asked.ensures ∙ c.in-Saw-Some-default-Some.is-3 in
    let first : Sound s → head_of (s.queue p) ≡ Some t = λ sound. sym (ap (λ v. option_and_then (λ i. head_of (s.queue i)) (note_place v)) saw) ∙ sym (c.noted_head-first.ensures sound) ∙ c.in-Saw-Some-default-Some.is-1 ∙ ap Some c.if-first-request.true in
    record {
      answer = λ sound.
          let h = headed (kinds_of g.K.Key g.T.Tally) s n (s.queue p) t (first sound) in
          c.carry_head.ensures.answer h.0 h.3
          ∙ ap (λ (v : Carried × State g.row.K.Denot g.row.T.Denot). v.0) (seen (kinds_of g.K.Key g.T.Tally) s n t p h.0 h.1 asked h.2 h.3 num ∙ ap (carried (kinds_of g.K.Key g.T.Tally) s n) (sym noted));
      turns = record {
        after = λ sound.
            let h = headed (kinds_of g.K.Key g.T.Tally) s n (s.queue p) t (first sound) in
            c.carry_head.ensures.turns.after sound h.0 h.1 h.2 h.3 num
            ∙ ap (λ (v : Carried × State g.row.K.Denot g.row.T.Denot). v.1) (seen (kinds_of g.K.Key g.T.Tally) s n t p h.0 h.1 asked h.2 h.3 num ∙ ap (carried (kinds_of g.K.Key g.T.Tally) s n) (sym noted));
        row = c.carry_head.ensures.turns.row;
      };
    }
