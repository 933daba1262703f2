-- A finished request stays finished and keeps its answer, whatever is called. Rests on Runs and Finals.
use Rattle.std.proofs.Common.{◌≡◌, ℕ, zero, suc, ◌<◌, true, false, eqb, ◌⊎◌, List, [], ◌∷◌, ◌++◌, length, Some, sym, ap, ◌∙◌, inl, inr, ⊎_elim, true≢false, arith}
use Rattle.std.proofs.lemmas.Bool.{cases_Bool, or_left}
use Rattle.requests.specs.declared.request.Request.{Request}
use Rattle.rules.specs.Kinds.{Kinds, Lawful}
use Rattle.rules.specs.Plain.{answered, set_before}
use Rattle.rules.specs.States.{State, Waiter}
use Rattle.rules.specs.Queues.{numbered, stands, heads, waits, finished}
use Rattle.rules.specs.Calls.{caller, after}
use Rattle.rules.specs.Facts.{FinishedStays}
use Rattle.rules.proofs.Times.{numbered_within, numbered_append}
use Rattle.rules.proofs.Befores.{before_append}
use Rattle.rules.proofs.Trees.{Tree}
use Rattle.rules.proofs.Pends.{waiting}
use Rattle.rules.proofs.Holds.{Holds}
use Rattle.rules.proofs.MovedBy.{MovedBy}
use Rattle.rules.proofs.Deeds.{Deed, lapsed, decided, walked, moved}
use Rattle.rules.proofs.Standings.{turn-between, drawn-waits}
use Rattle.rules.proofs.Finishes.{stands_inside, unfinished_place}
use Rattle.rules.proofs.Runs.{Doing, refused, submitted, desked, carried, Held, call_does, own_requests}
use Rattle.rules.proofs.Instance.{stepper}
use Rattle.rules.proofs.Finals.{finished_out, answers-plain}

-- who heads a queue stands in it
heads-stands : (t : ℕ) (q : List Waiter) → heads t q ≡ true → stands t q ≡ true
heads-stands t [] e = e
heads-stands t (x ∷ q) e = or_left (eqb x.number t) (stands t q) e

module _ {K T : Type 0} where
  -- a request has passed the gate and waits nowhere in the tree
  abbrev pub Out : ℕ → Tree K T → ℕ → Type 0
  Out t x time = (t < time) × (waiting t x ≡ false)

  -- the requests are as they were, or one more
  abbrev pub AsksOn : State K T → State K T → Type 0
  AsksOn s s' = (s'.requests ≡ s.requests) ⊎ ((r : Request K) × (s'.requests ≡ s.requests ++ (r ∷ [])))

module _ {K T : Type 0} (w : Kinds K T) (rs : List (Request K)) (s : State K T) (x : Tree K T) (time : ℕ) (h : Holds w rs s x time) where
  -- who is out stands in no queue
  out_nowhere : (t : ℕ) → Out t x time → (p : ℕ) → waits s t p ≡ true → ⊥
  out_nowhere t out zero e =
      let u = turn-between t time (s.queue 0) (suc (length rs)) h.gate e in omega (arith, u.0, out.0)
  out_nowhere t out (suc p) e =
      true≢false (sym (drawn-waits w rs s.place s.queue x t (suc p) h.drawn (stands_inside w rs s x time h t p e) e) ∙ out.1)

  -- so it is finished
  out_finished : (t : ℕ) → Out t x time → finished s t ≡ true
  out_finished t out =
      ⊎_elim (λ u. u)
      (λ u. let at = unfinished_place w rs s x time h t u in absurd (out_nowhere t out at.0 at.2))
      (cases_Bool (finished s t))

  module _ (t : ℕ) (out : Out t x time) where
    -- a move is another's
    moved_out : (s' : State K T) (y : Tree K T) (time' p m : ℕ) → MovedBy s s' x y time time' p m → Out t y time'
    moved_out s' y time' p m by = (
      ⊎_elim (λ d. omega (arith, d.0, out.0)) (λ d. omega (arith, d.2, out.0)) by.down,
      by.waits t (λ same. out_nowhere t out p (ap (λ j. stands j (s.queue p)) same ∙ heads-stands m (s.queue p) by.headed)) ∙ out.1,
    )

    same_out : (y : Tree K T) (time' : ℕ) → y ≡ x → time' ≡ time → Out t y time'
    same_out y time' e f = (omega (arith, out.0), ap (waiting t) e ∙ out.1)

    deed_out : (s' : State K T) (y : Tree K T) (time' n : ℕ) → Deed s s' x y time time' n (s.desk n).note → Out t y time'
    deed_out s' y time' n (lapsed e f g v) = same_out y time' f g
    deed_out s' y time' n (decided r d e f g v u) = same_out y time' f g
    deed_out s' y time' n (walked r p e f g v u) = same_out y time' f g
    deed_out s' y time' n (moved p m z e f by) = moved_out z y time' p m by

    -- no call brings it back
    doing_out : (s' : State K T) (y : Tree K T) (time' n : ℕ) → Doing n s s' x y time time' → Out t y time'
    doing_out s' y time' n (refused e f g) = same_out y time' f g
    doing_out s' y time' n (submitted r e f g) = same_out y time' f g
    doing_out s' y time' n (desked d e f g) = same_out y time' f g
    doing_out s' y time' n (carried d) = deed_out s' y time' n d

module _ {K T : Type 0} where
  deed_asks : (s s' : State K T) (x y : Tree K T) (time time' n : ℕ) → Deed s s' x y time time' n (s.desk n).note → s'.requests ≡ s.requests
  deed_asks s s' x y time time' n (lapsed e f g v) = ap (λ z. z.requests) e
  deed_asks s s' x y time time' n (decided r d e f g v u) = ap (λ z. z.requests) e
  deed_asks s s' x y time time' n (walked r p e f g v u) = ap (λ z. z.requests) e
  deed_asks s s' x y time time' n (moved p m z e f by) = ap (λ z. z.requests) e ∙ by.rest.requests

  doing_asks : (s s' : State K T) (x y : Tree K T) (time time' n : ℕ) → Doing n s s' x y time time' → AsksOn s s'
  doing_asks s s' x y time time' n (refused e f g) = inl (ap (λ z. z.requests) e)
  doing_asks s s' x y time time' n (submitted r e f g) = inr (r, ap (λ z. z.requests) e)
  doing_asks s s' x y time time' n (desked d e f g) = inl (ap (λ z. z.requests) e)
  doing_asks s s' x y time time' n (carried d) = inl (deed_asks s s' x y time time' n d)

module _ {K T : Type 0} (w : Kinds K T) (l : Lawful w) where
  -- an older request has its number still, and the set just before it is the same
  asks_same : (s s' : State K T) → AsksOn s s' → (t : ℕ) (r : Request K) → numbered s.requests t ≡ Some r
      → (numbered s'.requests t ≡ Some r) × (set_before w s'.requests t ≡ set_before w s.requests t)
  asks_same s s' (inl e) t r num = (ap (λ rs. numbered rs t) e ∙ num, ap (λ rs. set_before w rs t) e)
  asks_same s s' (inr e) t r num =
      let known = numbered_within s.requests t r num in (
        ap (λ rs. numbered rs t) e.1 ∙ numbered_append s.requests e.0 t known.1 ∙ num,
        ap (λ rs. set_before w rs t) e.1 ∙ before_append w l s.requests e.0 t (omega (arith, known.1)),
      )

  pub finished_stays : (s : State K T) → Held w s → FinishedStays w s
  finished_stays s held c t r num done =
      let own = own_requests w s held in
      let known = numbered_within s.requests t r num in
      let out = finished_out w l s own.0 own.1 own.2 t known.1 done in
      let does = call_does w (stepper w l) s.requests s own.0 own.1 own.2 c in
      let s' : State K T = after w s c in
      let still = doing_out w s.requests s own.0 own.1 own.2 t out s' does.1 does.2 (caller c) does.4 in
      let done' = out_finished w does.0 s' does.1 does.2 does.3 t still in
      let new = own_requests w s' (does.0, does.1, does.2, does.3) in
      let same = asks_same s s' (doing_asks s s' own.0 does.1 own.1 does.2 (caller c) does.4) t r num in (
        done',
        answers-plain w l s' new.0 new.1 new.2 t r same.0 done'
            ∙ ap (λ ks. Some (answered w r ks)) same.1
            ∙ sym (answers-plain w l s own.0 own.1 own.2 t r num done),
      )
