-- Shortcuts that break no law, since they come to no state that the rules do not come to.
use Rattle.std.proofs.Common.{◌≡◌, ℕ, zero, suc, Bool, true, false, cond, not, leb, List, [], ◌∷◌, ◌++◌, Some, None, Ok, Err, Option, Result, sym, refl, ap, ◌∙◌, subst, arith}
use Rattle.keys.specs.declared.refusal.Refusal.{Refusal}
use Rattle.keys.specs.declared.refusal.Refusal.TheVariants as no
use Rattle.requests.specs.Stations.{is_station}
use Rattle.requests.specs.declared.answer.Answer.{Answer}
use Rattle.rules.specs.declared.note.Note.TheVariants as note
use Rattle.rules.specs.Kinds.{Kinds}
use Rattle.rules.specs.States.{State, opening}
use Rattle.rules.specs.Queues.{given, numbered, finished}
use Rattle.rules.specs.Changes.{with_note, with_uncollected}
use Rattle.rules.specs.Calls.{Call, submit, follow, carry, collect, check, state_by, submit_refusal, followed_place, followed_head, after, after_all}
use Rattle.rules.specs.Laws.{AnswersArePlain, ReadingIsPlain, turn, enough}
use Rattle.edges.specs.Ways.{steps, run_of, ServiceEndsIn}
use Rattle.edges.specs.Shortcuts.{always_full, turns, at_once}
use Rattle.edges.specs.Worked.{routes_by_number}
use Rattle.edges.specs.Teeth.{AlwaysFullDiffers, AtOnceDiffers}
use Rattle.edges.proofs.Pieces.{after_both}

-- a call that is refused in any case leaves the state
refused : {S : Type 0} (b : Bool) (e f : Refusal) (old new : S) → state_by (check b e (Some f)) old new ≡ old
refused true e f old new = refl
refused false e f old new = refl

no_request : {X : Type 0} (t : ℕ) (x : X) → numbered [] t ≡ Some x → ⊥
no_request t x e = absurd cc

none-given : (t : ℕ) → leb (suc t) 0 ≡ false
none-given t = grind arith

module _ {K T : Type 0} (w : Kinds K T) where
  module _ (cells : ℕ) where
    -- nobody has anything to collect at the opening
    uncollected : (n : ℕ) (b : Bool)
        → elim (cond {A = Result (ℕ × Answer T) Refusal} b (Err no.NothingToCollect) (Err no.NoStation)) as (λ _. State K T) [
          | Ok a ↦ with_uncollected (opening w cells) n None
          | Err e ↦ opening w cells
        ]
        ≡ opening w cells
    uncollected n true = refl
    uncollected n false = refl

    -- at the opening, an always full register refuses every call
    stays : (c : Call K) → always_full w (opening w cells) c ≡ opening w cells
    stays (submit n r) = refused (not (is_station n)) _ _ _ _
    stays (follow n zero) = refused (not (is_station n)) _ _ _ _
    stays (follow n (suc t)) =
        ap
        (λ b. state_by
        (check (not (is_station n)) no.NoStation (check (not b) no.NotGiven (check (finished (opening w cells) (suc t)) no.Finished None)))
        (opening w cells)
        (with_note (opening w cells) n (note.Saw (followed_head w (opening w cells) (suc t)) (followed_place w (opening w cells) (suc t)))))
        (none-given t)
        ∙ refused (not (is_station n)) _ _ _ _
    stays (carry n) = refused (not (is_station n)) _ _ _ _
    stays (collect n) = uncollected n (is_station n)

    pub always_full_stays : (cs : List (Call K)) → run_of w (always_full w) cells cs ≡ opening w cells
    always_full_stays [] = refl
    always_full_stays (c ∷ cs) = ap (λ s. steps w (always_full w) s cs) (stays c) ∙ always_full_stays cs

    -- there are no requests at the opening, and no keys
    full_laws : AnswersArePlain w (opening w cells) × ServiceEndsIn w (always_full w) (opening w cells) × ReadingIsPlain w (opening w cells)
    full_laws = (
      (λ t r e. absurd (no_request t r e)),
      (λ n t r cs a e. absurd (no_request t r e)),
      (λ e. (refl, tt)),
    )

  -- calls that lead from a state to another by the rules
  abbrev Leads : State K T → State K T → Type 0
  Leads s a = (more : List (Call K)) × (a ≡ after_all w s more)

  turns_lead : (m : ℕ) (s : State K T) (n t : ℕ) → Leads s (turns w m s n t)
  turns_lead zero s n t = ([], refl)
  turns_lead (suc m) s n t =
      let rest = turns_lead m (after w s (turn w s n t)) n t in
      (turn w s n t ∷ rest.0, rest.1)

  submit-leads : (o : Option Refusal) (s : State K T) (c : Call K) (m n t : ℕ) → Leads s (state_by o s (turns w m (after w s c) n t))
  submit-leads None s c m n t =
      let rest = turns_lead m (after w s c) n t in
      (c ∷ rest.0, rest.1)
  submit-leads (Some e) s c m n t = ([], refl)

  call_leads : (s : State K T) (c : Call K) → Leads s (at_once w s c)
  call_leads s (submit n r) = submit-leads (submit_refusal w s n) s (submit n r) (enough w (suc (given s))) n (suc (given s))
  call_leads s (follow n t) = (follow n t ∷ [], refl)
  call_leads s (carry n) = (carry n ∷ [], refl)
  call_leads s (collect n) = (collect n ∷ [], refl)

  at_once-leads : (s : State K T) (cs : List (Call K)) → Leads s (steps w (at_once w) s cs)
  at_once-leads s [] = ([], refl)
  at_once-leads s (c ∷ cs) =
      let first = call_leads s c in
      let rest = at_once-leads (at_once w s c) cs in
      (first.0 ++ rest.0, rest.1 ∙ ap (λ a. after_all w a rest.0) first.1 ∙ sym (after_both w s first.0 rest.0))

pub always_full_differs : AlwaysFullDiffers
always_full_differs = (
  (λ cells cs.
      let stays = sym (always_full_stays routes_by_number cells cs) in
      let laws = full_laws routes_by_number cells in (
        sym stays,
        subst (AnswersArePlain routes_by_number) stays laws.0,
        subst (ServiceEndsIn routes_by_number (always_full routes_by_number)) stays laws.1,
        subst (ReadingIsPlain routes_by_number) stays laws.2,
      )),
  refl,
  refl,
)

pub at_once_differs : AtOnceDiffers
at_once_differs = ((λ cells cs. at_once-leads routes_by_number (opening routes_by_number cells) cs), refl, refl)
