-- The potential of a state, and what no call does to it: raise visits, reopen decisions, or take a head away that has not moved. Rests on Falls and Runs.
use Rattle.std.proofs.Common.{◌≡◌, ℕ, suc, ◌≤◌, Bool, true, false, cond, not, ◌&&◌, eqb, leb, ◌⊎◌, List, [], ◌∷◌, ◌++◌, length, is_some, Some, Option, sym, ap, ◌∙◌, subst, inl, inr, ⊎_elim, true≢false, arith, length-append}
use Rattle.std.proofs.lemmas.Bool.{eqb-true, ne_eqb, eq-eqb, leb-true, le-leb, and_parts, cases_eq}
use Rattle.requests.specs.declared.request.Request.{Request}
use Rattle.rules.specs.declared.note.Note.{Note}
use Rattle.rules.specs.declared.note.Note.TheVariants as note
use Rattle.rules.specs.Kinds.{Kinds}
use Rattle.rules.specs.States.{State, Waiter}
use Rattle.rules.specs.Queues.{numbered, heads, given}
use Rattle.rules.specs.Changes.{put, with_note, with_decision}
use Rattle.rules.proofs.Bools.{both_true}
use Rattle.rules.proofs.Times.{numbered_append}
use Rattle.rules.proofs.Trees.{Tree}
use Rattle.rules.proofs.Goods.{Over, Good}
use Rattle.rules.proofs.Puts.{put_other}
use Rattle.rules.proofs.Visits.{visits}
use Rattle.rules.proofs.Falls.{Stays, Falls, visits_others, visits_mover, gate_others, gate_mover}
use Rattle.rules.proofs.Holds.{Everywhere, Holds}
use Rattle.rules.proofs.MovedBy.{MovedBy}
use Rattle.rules.proofs.Deeds.{wants, undecided, Deed, lapsed, decided, walked, moved}
use Rattle.rules.proofs.Runs.{joined_by, Doing, refused, submitted, desked, carried}
use Rattle.rules.proofs.Potentials.{potential, NoMore, NoneOpens}

-- only the first in a queue heads it
pub one_head : (q : List Waiter) (r m : ℕ) → heads r q ≡ true → heads m q ≡ true → r ≡ m
one_head [] r m e f = absurd (true≢false (sym e))
one_head (a ∷ q) r m e f = sym (eqb-true a.number r e) ∙ eqb-true a.number m f

-- who heads a queue heads it after another has joined
heads_append : (q : List Waiter) (r : ℕ) (e : Waiter) → heads r q ≡ true → heads r (q ++ (e ∷ [])) ≡ true
heads_append [] r e f = absurd (true≢false (sym f))
heads_append (a ∷ q) r e f = f

-- a decision that is open after one was written was open before
open_still : (b : Bool) (o : Option Bool) (d : Bool) → not (is_some (cond b (Some d) o)) ≡ true → not (is_some o) ≡ true
open_still true o d e = absurd (true≢false (sym e))
open_still false o d e = e

module _ {K T : Type 0} where
  -- the potential of a state for the requests up to t, by a note
  abbrev pub measure : State K T → Tree K T → ℕ → Note → ℕ → ℕ
  measure s x time old t = potential (λ i. visits time i x) (undecided s time) (λ r p. heads r (s.queue p)) old t

  -- what every call does to the requests up to t
  pub record Gentle (s s' : State K T) (x y : Tree K T) (time time' t : ℕ) : Type 0 where
    pub more : given s ≤ given s'
    pub fewer : NoMore t (λ i. visits time i x) (λ i. visits time' i y)
    pub opens : NoneOpens t (undecided s time) (undecided s' time')
    -- a head stays or has moved
    pub head : (r p : ℕ) → heads r (s.queue p) ≡ true → (heads r (s'.queue p) ≡ true) ⊎ (suc (visits time' r y) ≤ visits time r x)

  -- a decision is open by time, request and decision
  pub undecided_from : (s s' : State K T) (time time' i : ℕ) → time ≤ time' → numbered s'.requests i ≡ numbered s.requests i
      → (not (is_some (s'.decision i)) ≡ true → not (is_some (s.decision i)) ≡ true) → undecided s' time' i ≡ true → undecided s time i ≡ true
  undecided_from s s' time time' i le num dec e =
      let a = and_parts (leb time' i) (wants (numbered s'.requests i) && not (is_some (s'.decision i))) e in
      let b = and_parts (wants (numbered s'.requests i)) (not (is_some (s'.decision i))) a.1 in
      let late = leb-true time' i a.0 in
      both_true {a = leb time i} (le-leb time i (omega arith)) (both_true {a = wants (numbered s.requests i)} (ap wants (sym num) ∙ b.0) (dec b.1))

  -- a call that leaves requests, decisions, queues and tree
  calm : (s s' : State K T) (x y : Tree K T) (time time' t : ℕ) → s'.requests ≡ s.requests → s'.decision ≡ s.decision → s'.queue ≡ s.queue → y ≡ x → time' ≡ time
      → Gentle s s' x y time time' t
  calm s s' x y time time' t req dec que tree now = record {
    more = let u = ap length req in omega arith;
    fewer = λ i lo hi. rw (tree, now) (omega arith);
    opens = λ i lo hi. undecided_from s s' time time' i (omega arith) (ap (λ u. numbered u i) req) (λ e. ap (λ f. not (is_some (f i))) (sym dec) ∙ e);
    head = λ r p e. inl (ap (λ f. heads r (f p)) que ∙ e);
  }

  -- a request more
  joins : (s s' : State K T) (x y : Tree K T) (time time' t n : ℕ) (r : Request K) → t ≤ given s → s' ≡ joined_by s n r → y ≡ x → time' ≡ time → Gentle s s' x y time time' t
  joins s s' x y time time' t n r le is tree now = record {
    more = let u : length s'.requests ≡ length (s.requests ++ (r ∷ [])) = ap (λ z. length z.requests) is in let v = length-append s.requests (r ∷ []) in omega arith;
    fewer = λ i lo hi. rw (tree, now) (omega arith);
    opens = λ i lo hi. undecided_from s s' time time' i (omega arith)
        (ap (λ z. numbered z.requests i) is ∙ numbered_append s.requests r i (omega arith)) (λ e. ap (λ z. not (is_some (z.decision i))) (sym is) ∙ e);
    head = λ i p e. inl (ap (λ z. heads i (z.queue p)) is ∙ one i p e);
  }
    where
      one : (i p : ℕ) → heads i (s.queue p) ≡ true → heads i ((joined_by s n r).queue p) ≡ true
      one i p e =
          ⊎_elim
          (λ (u : p ≡ 0). let v : eqb p 0 ≡ true = eq-eqb p 0 u in rw v (heads_append (s.queue 0) i _ (ap (λ j. heads i (s.queue j)) (sym u) ∙ e)))
          (λ (u : p ≡ 0 → ⊥). let v : eqb p 0 ≡ false = ne_eqb p 0 u in rw v e)
          (cases_eq p 0)

  -- a decision written
  decides : (s s' : State K T) (x y : Tree K T) (time time' t n r : ℕ) (d : Bool) → s' ≡ with_note (with_decision s r d) n note.None → y ≡ x → time' ≡ time → Gentle s s' x y time time' t
  decides s s' x y time time' t n r d is tree now = record {
    more = let u : length s'.requests ≡ length s.requests = ap (λ z. length z.requests) is in omega arith;
    fewer = λ i lo hi. rw (tree, now) (omega arith);
    opens = λ i lo hi. undecided_from s s' time time' i (omega arith) (ap (λ z. numbered z.requests i) is) (λ e. one i (ap (λ z. not (is_some (z.decision i))) (sym is) ∙ e));
    head = λ i p e. inl (ap (λ z. heads i (z.queue p)) is ∙ e);
  }
    where
      one : (i : ℕ) → not (is_some (put s.decision r (Some d) i)) ≡ true → not (is_some (s.decision i)) ≡ true
      one i e = open_still (eqb i r) (s.decision i) d e

module _ {K T : Type 0} (w : Kinds K T) (rs : List (Request K)) (s z : State K T) (x y : Tree K T) (time time' p m : ℕ) (h : Holds w rs s x time)
    (good : Good w rs (Everywhere w rs) time' y) (over : Over 0 y) (by : MovedBy s z x y time time' p m) where
  -- the mover has a visit less, and no other request has more
  abbrev pub Fall : ℕ → ℕ → Type 0
  Fall old new = (suc (visits new m y) ≤ visits old m x) × ((i : ℕ) → (i ≡ m → ⊥) → visits new i y ≤ visits old i x)

  pub move-visits : Fall time time'
  move-visits = ⊎_elim down out by.down
    where
      down : (time' ≡ time) × Falls m x y → Fall time time'
      down d = subst (Fall time) (sym d.0) (
        visits_mover w rs (Everywhere w rs) time time' m x y h.good h.over good over d.1,
        visits_others w rs (Everywhere w rs) time time' m x y h.good h.over good over by.waits d.1.others time,
      )

      out : (p ≡ 0) × (m ≡ time) × (time' ≡ suc time) × Stays m x y → Fall time time'
      out d =
          let pos : 1 ≤ m = let u = h.started in let v = d.1 in omega arith in
          subst (Fall time) (ap suc d.1 ∙ sym d.2) (subst (λ u. Fall u (suc m)) d.1 (
            gate_mover w rs (Everywhere w rs) time time' m x y h.good h.over good over pos,
            gate_others w rs (Everywhere w rs) time time' m x y h.good h.over good over by.waits d.3,
          ))

  later_time : time ≤ time'
  later_time = ⊎_elim (λ d. let u = d.0 in omega arith) (λ d. let u = d.2 in omega arith) by.down

  -- a request moved
  moves : (s' : State K T) (t n : ℕ) → s' ≡ with_note z n note.None → Gentle s s' x y time time' t
  moves s' t n is = record {
    more = let u : length s'.requests ≡ length z.requests = ap (λ u. length u.requests) is in let v = ap length by.rest.requests in omega arith;
    fewer = λ i lo hi. ⊎_elim
        (λ (e : i ≡ m). let u = move-visits.0 in subst (λ j. visits time' j y ≤ visits time j x) (sym e) (omega arith))
        (λ (ne : i ≡ m → ⊥). move-visits.1 i ne)
        (cases_eq i m);
    opens = λ i lo hi. undecided_from s s' time time' i later_time
        (ap (λ u. numbered u.requests i) is ∙ ap (λ u. numbered u i) by.rest.requests)
        (λ e. ap (λ f. not (is_some (f i))) (sym by.rest.decision) ∙ ap (λ u. not (is_some (u.decision i))) (sym is) ∙ e);
    head = λ r i e. ⊎_elim
        (λ (here : i ≡ p). let same : r ≡ m = one_head (s.queue p) r m (ap (λ j. heads r (s.queue j)) (sym here) ∙ e) by.headed in
        inr (subst (λ j. suc (visits time' j y) ≤ visits time j x) (sym same) move-visits.0))
        (λ (away : i ≡ p → ⊥). inl (ap (λ u. heads r (u.queue i)) is ∙ by.stay i r away e))
        (cases_eq i p);
  }

module _ {K T : Type 0} (w : Kinds K T) (rs : List (Request K)) (s s' : State K T) (x y : Tree K T) (time time' t : ℕ) (h : Holds w rs s x time) where
  -- no carry raises visits, reopens a decision, or takes a head away that has not moved
  pub deed_gentle : (n : ℕ) (old : Note) → Holds w rs s' y time' → Deed s s' x y time time' n old → Gentle s s' x y time time' t
  deed_gentle n old g (lapsed is tree now v) =
      calm s s' x y time time' t (ap (λ z. z.requests) is) (ap (λ z. z.decision) is) (ap (λ z. z.queue) is) tree now
  deed_gentle n old g (decided r d is tree now u v) = decides s s' x y time time' t n r d is tree now
  deed_gentle n old g (walked r f is tree now u v) =
      calm s s' x y time time' t (ap (λ z. z.requests) is) (ap (λ z. z.decision) is) (ap (λ z. z.queue) is) tree now
  deed_gentle n old g (moved p m z is seen by) = moves w rs s z x y time time' p m h g.good g.over by s' t n is

  -- nor does any call
  pub call_gentle : (rs' : List (Request K)) (n : ℕ) → t ≤ given s → Holds w rs' s' y time' → Doing n s s' x y time time' → Gentle s s' x y time time' t
  call_gentle rs' n le g (refused is tree now) =
      calm s s' x y time time' t (ap (λ z. z.requests) is) (ap (λ z. z.decision) is) (ap (λ z. z.queue) is) tree now
  call_gentle rs' n le g (submitted r is tree now) = joins s s' x y time time' t n r le is tree now
  call_gentle rs' n le g (desked d is tree now) =
      calm s s' x y time time' t (ap (λ z. z.requests) is) (ap (λ z. z.decision) is) (ap (λ z. z.queue) is) tree now
  call_gentle rs' n le g (carried d) =
      deed_gentle n (s.desk n).note (subst (λ u. Holds w u s' y time') (sym g.requests ∙ deed_requests d ∙ h.requests) g) d
    where
      deed_requests : Deed s s' x y time time' n (s.desk n).note → s'.requests ≡ s.requests
      deed_requests (lapsed is tree now v) = ap (λ z. z.requests) is
      deed_requests (decided r d is tree now u v) = ap (λ z. z.requests) is
      deed_requests (walked r f is tree now u v) = ap (λ z. z.requests) is
      deed_requests (moved p m z is seen by) = ap (λ z. z.requests) is ∙ by.rest.requests

  -- and none changes the note of another station
  pub note_kept : (m n : ℕ) → (n ≡ m → ⊥) → Doing m s s' x y time time' → (s'.desk n).note ≡ (s.desk n).note
  note_kept m n ne (refused is tree now) = ap (λ z. (z.desk n).note) is
  note_kept m n ne (submitted r is tree now) = ap (λ z. (z.desk n).note) is ∙ ap (λ d. d.note) (put_other s.desk m _ n (ne_eqb n m ne))
  note_kept m n ne (desked d is tree now) = ap (λ z. (z.desk n).note) is ∙ ap (λ d. d.note) (put_other s.desk m d n (ne_eqb n m ne))
  note_kept m n ne (carried d) = by d
    where
      by : Deed s s' x y time time' m (s.desk m).note → (s'.desk n).note ≡ (s.desk n).note
      by (lapsed is tree now v) = ap (λ z. (z.desk n).note) is ∙ ap (λ d. d.note) (put_other s.desk m _ n (ne_eqb n m ne))
      by (decided r d is tree now u v) = ap (λ z. (z.desk n).note) is ∙ ap (λ d. d.note) (put_other s.desk m _ n (ne_eqb n m ne))
      by (walked r f is tree now u v) = ap (λ z. (z.desk n).note) is ∙ ap (λ d. d.note) (put_other s.desk m _ n (ne_eqb n m ne))
      by (moved p i z is seen b) = ap (λ z. (z.desk n).note) is ∙ ap (λ d. d.note) (put_other z.desk m _ n (ne_eqb n m ne)) ∙ ap (λ f. (f n).note) b.rest.desk
