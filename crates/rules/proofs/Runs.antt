-- Every call keeps the invariant, so every run of calls has it. Rests on Carrying.
use Rattle.std.proofs.Common.{◌≡◌, ℕ, suc, List, [], ◌∷◌, ◌++◌, Some, None, Ok, Err, Option, Result, sym, refl, subst}
use Rattle.keys.specs.declared.refusal.Refusal.{Refusal}
use Rattle.requests.specs.declared.answer.Answer.{Answer}
use Rattle.requests.specs.declared.request.Request.{Request}
use Rattle.rules.specs.declared.mode.Mode.TheVariants.{Between}
use Rattle.rules.specs.declared.note.Note.TheVariants as note
use Rattle.rules.specs.Kinds.{Kinds}
use Rattle.rules.specs.States.{State, Desk, opening}
use Rattle.rules.specs.Queues.{given}
use Rattle.rules.specs.Changes.{with_request, with_waiter, with_uncollected, with_desk, with_note}
use Rattle.rules.specs.Carries as rule
use Rattle.rules.specs.Calls.{Call, submit, follow, carry, collect, caller, state_by, submit_refusal, follow_refusal, carry_refusal, collect_answer, followed_head, followed_place, after, after_all, run}
use Rattle.rules.proofs.Trees.{Tree, bare}
use Rattle.rules.proofs.Holds.{Holds}
use Rattle.rules.proofs.Interface.{Stepper}
use Rattle.rules.proofs.Deeds.{Deed}
use Rattle.rules.proofs.Carrying.{carries}

module _ {K T : Type 0} where
  -- the state after a submit that is not refused
  abbrev pub joined_by : State K T → ℕ → Request K → State K T
  joined_by s n r = with_uncollected (with_waiter (with_request s (suc (given s)) n r) 0 (suc (given s)) Between) n (Some (suc (given s)))

  -- what a call of station n does: nothing, it is refused; a submit; a change of the station's desk; or a carry
  pub data Doing (n : ℕ) (s s' : State K T) (x y : Tree K T) (time time' : ℕ) : Type 0 where
    refused : s' ≡ s → y ≡ x → time' ≡ time → Doing n s s' x y time time'
    submitted : (r : Request K) → s' ≡ joined_by s n r → y ≡ x → time' ≡ time → Doing n s s' x y time time'
    desked : (d : Desk) → s' ≡ with_desk s n d → y ≡ x → time' ≡ time → Doing n s s' x y time time'
    carried : Deed s s' x y time time' n (s.desk n).note → Doing n s s' x y time time'

module _ {K T : Type 0} (w : Kinds K T) where
  -- a state with the invariant, of the requests that were submitted in it
  abbrev pub Held : State K T → Type 0
  Held s = (rs : List (Request K)) × (x : Tree K T) × (time : ℕ) × Holds w rs s x time

  -- the requests of the invariant are those of the state
  pub own_requests : (s : State K T) → Held s → (x : Tree K T) × (time : ℕ) × Holds w s.requests s x time
  own_requests s h = (h.1, h.2, subst (λ rs. Holds w rs s h.1 h.2) (sym h.3.requests) h.3)

module _ {K T : Type 0} (w : Kinds K T) (step : Stepper w) where
  module _ (rs : List (Request K)) (s : State K T) (x : Tree K T) (time : ℕ) (h : Holds w rs s x time) where
    -- the invariant of the state that a call of station n leaves, and what the call does
    abbrev pub CalledWell : ℕ → State K T → Type 0
    CalledWell n s' = (rs' : List (Request K)) × (y : Tree K T) × (time' : ℕ) × Holds w rs' s' y time' × Doing n s s' x y time time'

    stays : (n : ℕ) → CalledWell n s
    stays n = (rs, x, time, h, refused refl refl refl)

    desks : (n : ℕ) (d : Desk) → ((t p : ℕ) → d.note ≡ note.Walk t p → (s.desk n).note ≡ note.Walk t p) → CalledWell n (with_desk s n d)
    desks n d same =
        (rs, x, time, step.desks rs x time s h n d (λ t p e. h.walks n t p (same t p e)), desked d refl refl refl)

    submits : (n : ℕ) (r : Request K) (o : Option Refusal) → CalledWell n (state_by o s (joined_by s n r))
    submits n r None = (rs ++ (r ∷ []), x, time, step.submits rs x time s h n r, submitted r refl refl refl)
    submits n r (Some e) = stays n

    follows : (n : ℕ) (i p : ℕ) (o : Option Refusal) → CalledWell n (state_by o s (with_note s n (note.Saw i p)))
    follows n i p None = desks n _ (λ t q e. absurd cc)
    follows n i p (Some e) = stays n

    by_note : (n : ℕ) (o : Option Refusal) → CalledWell n (state_by o s (rule.carried w s n (s.desk n).note).1)
    by_note n None =
        let c = carries w step rs s x time h n (s.desk n).note refl in
        (rs, c.0, c.1, c.2, carried c.3)
    by_note n (Some e) = stays n

    collects : (n : ℕ) (a : Result (ℕ × Answer T) Refusal) → CalledWell n (elim a as (λ _. State K T) [ Ok u ↦ with_uncollected s n None | Err e ↦ s ])
    collects n (Ok u) = desks n _ (λ t p e. e)
    collects n (Err e) = stays n

    -- every call keeps the invariant
    pub call_does : (c : Call K) → CalledWell (caller c) (after w s c)
    call_does (submit n r) = submits n r (submit_refusal w s n)
    call_does (follow n t) = follows n (followed_head w s t) (followed_place w s t) (follow_refusal w s n t)
    call_does (carry n) = by_note n (carry_refusal w s n)
    call_does (collect n) = collects n (collect_answer w s n)

  pub holds_after : (s : State K T) → Held w s → (c : Call K) → Held w (after w s c)
  holds_after s h c =
      let d = call_does h.0 s h.1 h.2 h.3 c in (d.0, d.1, d.2, d.3)

  pub holds-after_all : (s : State K T) → Held w s → (cs : List (Call K)) → Held w (after_all w s cs)
  holds-after_all s h [] = h
  holds-after_all s h (c ∷ cs) = holds-after_all (after w s c) (holds_after s h c) cs

  -- every state that calls lead to from the opening has the invariant
  pub run_holds : (cells : ℕ) (cs : List (Call K)) → Held w (run w cells cs)
  run_holds cells cs = holds-after_all (opening w cells) ([], bare, 1, step.opens cells) cs
