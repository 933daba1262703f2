-- A station that serves a request gets it finished within so many calls. Rests on Turns and Finishes.
use Rattle.std.proofs.Common.{◌≡◌, ℕ, zero, suc, ◌≤◌, Bool, true, false, cond, eqb, leb, List, [], ◌∷◌, Some, None, sym, refl, ap, ◌∙◌, subst, ⊎_elim, true≢false, arith}
use Rattle.std.proofs.lemmas.Bool.{eqb-true, eqb-false, le-leb, cases_Bool}
use Rattle.requests.specs.Stations.{is_station}
use Rattle.requests.specs.declared.request.Request.{Request}
use Rattle.rules.specs.declared.note.Note.{Note}
use Rattle.rules.specs.declared.note.Note.TheVariants as note
use Rattle.rules.specs.Kinds.{Kinds}
use Rattle.rules.specs.States.{State}
use Rattle.rules.specs.Queues.{head_of, heads, given, finished}
use Rattle.rules.specs.Changes.{with_note}
use Rattle.rules.specs.Carries as rule
use Rattle.rules.specs.Calls.{Call, follow, carry, caller, has_note, state_by, follow_refusal, carry_refusal, followed_place, followed_head, after, after_all, run}
use Rattle.rules.specs.Laws.{turn, Serves, calls_of, ServiceEnds}
use Rattle.rules.proofs.Times.{numbered_within}
use Rattle.rules.proofs.Trees.{Tree}
use Rattle.rules.proofs.Visits.{visits}
use Rattle.rules.proofs.Holds.{Holds}
use Rattle.rules.proofs.Interface.{Stepper}
use Rattle.rules.proofs.Deeds.{undecided}
use Rattle.rules.proofs.Carrying.{carries}
use Rattle.rules.proofs.Runs.{call_does, Held, run_holds}
use Rattle.rules.proofs.Lessens.{at_start, at_least}
use Rattle.rules.proofs.Finishes.{unfinished_place, unfinished_visits, finished-visits, visits-finished, visits-short, head_sooner}
use Rattle.rules.proofs.Measures.{measure, deed_gentle, call_gentle, note_kept}
use Rattle.rules.proofs.Turns.{Within, Lowered, others_bear, deed_lowers, follow_lowers}

note-none : (old : Note) → has_note old ≡ false → old ≡ note.None
note-none note.None e = refl
note-none (note.Saw r p) e = absurd (true≢false e)
note-none (note.Walk r p) e = absurd (true≢false e)

module _ {K T : Type 0} (w : Kinds K T) (step : Stepper w) where
  -- a finished request stays finished
  pub stays_finished : (t : ℕ) → 1 ≤ t → (cs : List (Call K)) (rs : List (Request K)) (s : State K T) (x : Tree K T) (time : ℕ) → Holds w rs s x time → t ≤ given s
      → finished s t ≡ true → finished (after_all w s cs) t ≡ true
  stays_finished t pos [] rs s x time h le e = e
  stays_finished t pos (c ∷ cs) rs s x time h le e =
      let d = call_does w step rs s x time h c in
      let ok = call_gentle w rs s (after w s c) x d.1 time d.2 t h d.0 (caller c) le d.3 d.4 in
      let none = finished-visits w rs s x time h t (rw (← h.requests) le) e in
      let less = ok.fewer t pos (omega arith) in
      let more = ok.more in
      stays_finished t pos cs d.0 (after w s c) d.1 d.2 d.3 (omega arith)
      (visits-finished w d.0 (after w s c) d.1 d.2 d.3 t pos (omega arith))

  module _ (n t : ℕ) (station : is_station n ≡ true) (pos : 1 ≤ t) where
    module _ (rs : List (Request K)) (s : State K T) (x : Tree K T) (time : ℕ) (h : Holds w rs s x time) (le : t ≤ given s) where
      -- what a turn of the station leaves
      abbrev Turned : Note → State K T → Type 0
      Turned old s' = (y : Tree K T) × (time' : ℕ) × Holds w rs s' y time' × (t ≤ given s') × Lowered w rs s x time h s' y time' n t old

      -- it carries with a note
      with_a_note : (old : Note) → (s.desk n).note ≡ old → has_note old ≡ true → Within t old → Turned old (after w s (carry n))
      with_a_note old desk has v =
          subst (Turned old) (sym (ap (λ o. state_by o s (rule.carried w s n (s.desk n).note).1) free ∙ ap (λ u. (rule.carried w s n u).1) desk))
          (let c = carries w step rs s x time h n old desk in
          let ok = deed_gentle w rs s (rule.carried w s n old).1 x c.0 time c.1 t h n old c.2 c.3 in
          let more = ok.more in
          (c.0, c.1, c.2, omega arith, deed_lowers w rs s x time h n t le (rule.carried w s n old).1 c.0 c.1 old c.2 desk has v c.3))
        where
          free : carry_refusal w s n ≡ None
          free = rw (station, desk, has)

      -- it follows without one
      without_a_note : (s.desk n).note ≡ note.None → finished s t ≡ false → Turned note.None (after w s (follow n t))
      without_a_note desk e =
          let u = unfinished_place w rs s x time h t e in
          let v = head_sooner w rs s x time h t u.0 u.2 in
          let place : followed_place w s t ≡ u.0 = ap (λ o. elim o as (λ _. ℕ) [ None ↦ 0 | Some p ↦ p ]) u.1 in
          let first : followed_head w s t ≡ v.0 =
          ap (λ p. elim (head_of (s.queue p)) as (λ _. ℕ) [ None ↦ 0 | Some r ↦ r ]) place ∙ ap (λ o. elim o as (λ _. ℕ) [ None ↦ 0 | Some r ↦ r ]) v.1 in
          subst (Turned note.None)
          (sym (ap (λ o. state_by o s (with_note s n (note.Saw (followed_head w s t) (followed_place w s t)))) (free t pos le e)
          ∙ ap (λ r. with_note s n (note.Saw r (followed_place w s t))) first ∙ ap (λ p. with_note s n (note.Saw v.0 p)) place)) (
            x,
            time,
            step.desks rs x time s h n _ (λ i p f. absurd cc),
            le,
            follow_lowers w rs s x time h n t le v.0 u.0 v.2 v.3 v.4,
          )
        where
          free : (i : ℕ) → 1 ≤ i → i ≤ given s → finished s i ≡ false → follow_refusal w s n i ≡ None
          free zero low high f = absurd (omega arith)
          free (suc i) low high f = let g : leb (suc i) (given s) ≡ true = le-leb (suc i) (given s) high in rw (station, g, f)

      turns : (old : Note) → (s.desk n).note ≡ old → finished s t ≡ false → Within t old → Turned old (after w s (turn w s n t))
      turns old desk e v = go (has_note old) refl
        where
          go : (b : Bool) → has_note old ≡ b → Turned old (after w s (turn w s n t))
          go true has =
              subst (λ b. Turned old (after w s (cond b (carry n) (follow n t)))) (sym (ap has_note desk ∙ has)) (with_a_note old desk has v)
          go false has =
              let none = note-none old has in
              subst (λ b. Turned old (after w s (cond b (carry n) (follow n t)))) (sym (ap has_note desk ∙ has))
              (subst (λ u. Turned u (after w s (follow n t))) (sym none) (without_a_note (desk ∙ none) e))

    -- the potential bounds how many turns the station still takes
    abbrev Serving : List (Call K) → Type 0
    Serving cs = (rs : List (Request K)) (s : State K T) (x : Tree K T) (time : ℕ) → Holds w rs s x time → t ≤ given s
        → (old : Note) → (s.desk n).note ≡ old → Within t old → Serves w n t s cs → measure s x time old t ≤ suc (calls_of w n cs) → finished (after_all w s cs) t ≡ true

    -- a call of its own
    own : (c : Call K) (cs : List (Call K)) → Serving cs → (rs : List (Request K)) (s : State K T) (x : Tree K T) (time : ℕ) → Holds w rs s x time → t ≤ given s
        → (old : Note) → (s.desk n).note ≡ old → Within t old → Serves w n t s (c ∷ cs) → measure s x time old t ≤ suc (calls_of w n (c ∷ cs))
        → finished s t ≡ false → eqb (caller c) n ≡ true → finished (after_all w s (c ∷ cs)) t ≡ true
    own c cs ih rs s x time h le old desk v all bound e mine =
        let is : c ≡ turn w s n t = all.0 (eqb-true (caller c) n mine) in
        let d = subst (λ u. Turned rs s x time h le old (after w s u)) (sym is) (turns rs s x time h le old desk e v) in
        let one : calls_of w n (c ∷ cs) ≡ suc (calls_of w n cs) = rw mine in
        let less = d.4.3 in
        ih rs (after w s c) d.0 d.1 d.2 d.3 d.4.0 d.4.1 d.4.2 all.1 (omega arith)

    -- a call of another station
    other : (c : Call K) (cs : List (Call K)) → Serving cs → (rs : List (Request K)) (s : State K T) (x : Tree K T) (time : ℕ) → Holds w rs s x time → t ≤ given s
        → (old : Note) → (s.desk n).note ≡ old → Within t old → Serves w n t s (c ∷ cs) → measure s x time old t ≤ suc (calls_of w n (c ∷ cs))
        → eqb (caller c) n ≡ false → finished (after_all w s (c ∷ cs)) t ≡ true
    other c cs ih rs s x time h le old desk v all bound theirs =
        let d = call_does w step rs s x time h c in
        let ok = call_gentle w rs s (after w s c) x d.1 time d.2 t h d.0 (caller c) le d.3 d.4 in
        let same : ((after w s c).desk n).note ≡ (s.desk n).note = note_kept w rs s (after w s c) x d.1 time d.2 t h (caller c) n (λ u. eqb-false (caller c) n theirs (sym u)) d.4 in
        let none : calls_of w n (c ∷ cs) ≡ calls_of w n cs = rw theirs in
        let kept = others_bear w rs s x time h (after w s c) d.1 d.2 t ok n old desk v in
        let more = ok.more in
        ih d.0 (after w s c) d.1 d.2 d.3 (omega arith) old (same ∙ desk) v all.1 (omega arith)

    pub serve : (cs : List (Call K)) → Serving cs
    serve [] rs s x time h le old desk v all bound =
        ⊎_elim
        (λ e. e)
        (λ (e : finished s t ≡ false).
        let some = unfinished_visits w rs s x time h t pos e in
        let two = at_least (λ i. visits time i x) (undecided s time) (λ r p. heads r (s.queue p)) old t pos some in
        absurd (omega arith))
        (cases_Bool (finished s t))
    serve (c ∷ cs) rs s x time h le old desk v all bound =
        ⊎_elim
        (λ (e : finished s t ≡ true). stays_finished t pos (c ∷ cs) rs s x time h le e)
        (λ (e : finished s t ≡ false).
        ⊎_elim
        (own c cs (serve cs) rs s x time h le old desk v all bound e)
        (other c cs (serve cs) rs s x time h le old desk v all bound)
        (cases_Bool (eqb (caller c) n)))
        (cases_Bool (finished s t))

  -- the service ends in every state that has the invariant
  pub service_ends : (s : State K T) → Held w s → ServiceEnds w s
  service_ends s held n t r cs station num desk all many =
      let b = numbered_within s.requests t r num in
      let start = at_start (λ i. visits held.2 i held.1) (undecided s held.2) (λ r p. heads r (s.queue p)) t (visits-short w held.0 s held.1 held.2 held.3) in
      serve n t station b.0 cs held.0 s held.1 held.2 held.3 b.1 note.None desk tt all (omega arith)

  -- and so in every state that calls lead to from the opening
  pub run_service_ends : (cells : ℕ) (cs : List (Call K)) → ServiceEnds w (run w cells cs)
  run_service_ends cells cs = service_ends (run w cells cs) (run_holds w step cells cs)
