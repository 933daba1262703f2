-- A turn of the serving station lowers the potential, and no call of another raises it. Rests on Measures and Lessens.
use Rattle.std.proofs.Common.{◌≡◌, ℕ, suc, ◌<◌, ◌≤◌, Bool, true, false, not, ◌&&◌, leb, List, is_some, Some, None, Option, sym, refl, ap, ◌∙◌, subst, true≢false, arith}
use Rattle.std.proofs.lemmas.Bool.{and_parts, and_right, false_from_ne_true}
use Rattle.requests.specs.declared.request.Request.{Request}
use Rattle.rules.specs.declared.note.Note.{Note}
use Rattle.rules.specs.declared.note.Note.TheVariants as note
use Rattle.rules.specs.Kinds.{Kinds}
use Rattle.rules.specs.States.{State}
use Rattle.rules.specs.Queues.{numbered, heads, given}
use Rattle.rules.specs.Changes.{with_note, with_decision}
use Rattle.rules.specs.Calls.{has_note}
use Rattle.rules.proofs.Times.{numbered_some}
use Rattle.rules.proofs.Trees.{Tree}
use Rattle.rules.proofs.Puts.{put-here}
use Rattle.rules.proofs.Visits.{visits}
use Rattle.rules.proofs.Holds.{Holds}
use Rattle.rules.proofs.Ways.{walk-place}
use Rattle.rules.proofs.Deeds.{wants, undecided, Lapsed, Seeks, Nears, Deed, lapsed, decided, walked, moved}
use Rattle.rules.proofs.Potentials.{NoneOpens, Bearable, others_keep}
use Rattle.rules.proofs.Lessens.{note-taken, saw_lapses, walk_lapses, walk_begins, walk_goes, saw_decides, walk_decides, saw_moves}
use Rattle.rules.proofs.Measures.{measure, Gentle, deed_gentle, move-visits}

-- a note speaks of a request up to t
abbrev pub Within : ℕ → Note → Type 0
Within t note.None = Unit {0}
Within t (note.Saw r p) = (1 ≤ r) × (r ≤ t)
Within t (note.Walk r p) = (1 ≤ r) × (r ≤ t)

open_none : (o : Option Bool) → not (is_some o) ≡ true → o ≡ None
open_none None e = refl
open_none (Some d) e = absurd (true≢false (sym e))

module _ {K T : Type 0} (w : Kinds K T) (rs : List (Request K)) (s : State K T) (x : Tree K T) (time : ℕ) (h : Holds w rs s x time) where
  -- a request whose decision is open has none
  undecided_none : (r : ℕ) → undecided s time r ≡ true → s.decision r ≡ None
  undecided_none r e =
      open_none (s.decision r)
      (and_parts (wants (numbered s.requests r)) (not (is_some (s.decision r)))
      (and_parts (leb time r) (wants (numbered s.requests r) && not (is_some (s.decision r))) e).1).1

  -- one that has its decision is not open
  decided_shut : (z : State K T) (r : ℕ) → is_some (z.decision r) ≡ true → undecided z time r ≡ false
  decided_shut z r e =
      and_right (leb time r) (wants (numbered z.requests r) && not (is_some (z.decision r)))
      (and_right (wants (numbered z.requests r)) (not (is_some (z.decision r))) (ap not e))

  -- a walk for a decision that is open stands at a place made before the request
  walk-low : (n r p : ℕ) → (s.desk n).note ≡ note.Walk r p → undecided s time r ≡ true → p < r
  walk-low n r p desk e = (walk-place w rs s x time h r p (h.walks n r p desk (undecided_none r e))).1

  module _ (s' : State K T) (y : Tree K T) (time' t : ℕ) (ok : Gentle s s' x y time time' t) where
    -- no call of another station raises the potential
    pub others_bear : (n : ℕ) (old : Note) → (s.desk n).note ≡ old → Within t old → measure s' y time' old t ≤ measure s x time old t
    others_bear n old desk v =
        others_keep (λ i. visits time i x) (λ i. visits time' i y) (undecided s time) (undecided s' time') (λ r p. heads r (s.queue p)) (λ r p. heads r (s'.queue p)) old t
        ok.fewer ok.opens (bears old desk v)
      where
        bears : (old : Note) → (s.desk n).note ≡ old → Within t old
            → Bearable t (λ i. visits time i x) (λ i. visits time' i y) (undecided s time) (λ r p. heads r (s.queue p)) (λ r p. heads r (s'.queue p)) old
        bears note.None desk v = tt
        bears (note.Saw r p) desk v = (v.0, v.1, ok.head r p)
        bears (note.Walk r p) desk v = (v.0, v.1, walk-low n r p desk)

  -- what a turn leaves: a note of a request up to t, and a lower potential
  abbrev pub Lowered : State K T → Tree K T → ℕ → ℕ → ℕ → Note → Type 0
  Lowered s' y time' n t old = (new : Note) × ((s'.desk n).note ≡ new) × Within t new × (suc (measure s' y time' new t) ≤ measure s x time old t)

  module _ (n t : ℕ) (le : t ≤ given s) where
    note-here : (z : State K T) (new : Note) → ((with_note z n new).desk n).note ≡ new
    note-here z new = ap (λ d. d.note) (put-here z.desk n _)

    -- a note of no use is dropped
    lapse_lowers : (old : Note) → has_note old ≡ true → Within t old → Lapsed s old → Lowered (with_note s n note.None) x time n t old
    lapse_lowers note.None has v e = absurd (true≢false (sym has))
    lapse_lowers (note.Saw r p) has v e = (
      note.None,
      note-here s note.None,
      tt,
      saw_lapses (λ i. visits time i x) (undecided s time) (λ r p. heads r (s.queue p)) (λ r p. heads r (s.queue p)) t r p
          (false_from_ne_true (heads r (s.queue p)) (λ u.
          let num = numbered_some s.requests r v.0 (omega (arith, v.1)) in
          let none = e u in
          let some = num.1 in
          absurd cc)),
    )
    lapse_lowers (note.Walk r p) has v e = (
      note.None,
      note-here s note.None,
      tt,
      walk_lapses (λ i. visits time i x) (undecided s time) (λ r p. heads r (s.queue p)) (λ r p. heads r (s.queue p)) t r p v.0 v.1 (decided_shut s r e),
    )

    -- a decision is written
    decide_lowers : (old : Note) → (s.desk n).note ≡ old → Within t old → (r : ℕ) (d : Bool) → undecided s time r ≡ true → Seeks s old r
        → NoneOpens t (undecided s time) (undecided (with_decision s r d) time) → Lowered (with_note (with_decision s r d) n note.None) x time n t old
    decide_lowers note.None desk v r d e seeks kept = absurd seeks
    decide_lowers (note.Saw u p) desk v r d e seeks kept = (
      note.None,
      note-here (with_decision s r d) note.None,
      tt,
      saw_decides (λ i. visits time i x) (undecided s time) (λ r p. heads r (s.queue p)) (λ r p. heads r (s.queue p)) t u p (undecided (with_decision s r d) time) kept
          v.0 v.1 (ap (undecided s time) seeks ∙ e) (ap (undecided (with_decision s r d) time) seeks ∙ decided_shut (with_decision s r d) r (ap is_some (put-here s.decision r (Some d)))),
    )
    decide_lowers (note.Walk u p) desk v r d e seeks kept = (
      note.None,
      note-here (with_decision s r d) note.None,
      tt,
      walk_decides (λ i. visits time i x) (undecided s time) (λ r p. heads r (s.queue p)) (λ r p. heads r (s.queue p)) t u p (undecided (with_decision s r d) time) kept
          v.0 v.1 (ap (undecided s time) seeks ∙ e) (ap (undecided (with_decision s r d) time) seeks ∙ decided_shut (with_decision s r d) r (ap is_some (put-here s.decision r (Some d))))
          (walk-low n u p desk (ap (undecided s time) seeks ∙ e)),
    )

    -- a walk goes one place on
    walk_lowers : (old : Note) → (s.desk n).note ≡ old → Within t old → (r f : ℕ) → undecided s time r ≡ true → Nears s old r f → Lowered (with_note s n (note.Walk r f)) x time n t old
    walk_lowers note.None desk v r f e nears = absurd nears
    walk_lowers (note.Saw u p) desk v r f e nears =
        subst (λ i. Lowered (with_note s n (note.Walk i f)) x time n t (note.Saw u p)) nears.0 (
          note.Walk u f,
          note-here s (note.Walk u f),
          v,
          walk_begins (λ i. visits time i x) (undecided s time) (λ r p. heads r (s.queue p)) (λ r p. heads r (s.queue p)) t u p f v.0 v.1 (ap (undecided s time) nears.0 ∙ e) nears.1,
        )
    walk_lowers (note.Walk u p) desk v r f e nears =
        subst (λ i. Lowered (with_note s n (note.Walk i f)) x time n t (note.Walk u p)) nears.0 (
          note.Walk u f,
          note-here s (note.Walk u f),
          v,
          walk_goes (λ i. visits time i x) (undecided s time) (λ r p. heads r (s.queue p)) (λ r p. heads r (s.queue p)) t u p f v.0 v.1 (ap (undecided s time) nears.0 ∙ e)
              (walk-low n u p desk (ap (undecided s time) nears.0 ∙ e)) nears.1,
        )

    same_tree : (S s' : State K T) (y : Tree K T) (time' : ℕ) (old : Note) → s' ≡ S → y ≡ x → time' ≡ time → Lowered S x time n t old → Lowered s' y time' n t old
    same_tree S s' y time' old is tree now l =
        subst (λ u. Lowered u y time' n t old) (sym is) (subst (λ u. Lowered S u time' n t old) (sym tree) (subst (λ u. Lowered S x u n t old) (sym now) l))

    -- a carry with a note lowers the potential
    pub deed_lowers : (s' : State K T) (y : Tree K T) (time' : ℕ) (old : Note) → Holds w rs s' y time' → (s.desk n).note ≡ old → has_note old ≡ true → Within t old
        → Deed s s' x y time time' n old → Lowered s' y time' n t old
    deed_lowers s' y time' old g desk has v (lapsed is tree now e) = same_tree (with_note s n note.None) s' y time' old is tree now (lapse_lowers old has v e)
    deed_lowers s' y time' old g desk has v (decided r d is tree now e seeks) =
        same_tree (with_note (with_decision s r d) n note.None) s' y time' old is tree now
        (decide_lowers old desk v r d e seeks
        (subst (λ u. NoneOpens t (undecided s time) (undecided u time)) is
        (subst (λ u. NoneOpens t (undecided s time) (undecided s' u)) now (deed_gentle w rs s s' x y time time' t h n old g (decided r d is tree now e seeks)).opens)))
    deed_lowers s' y time' old g desk has v (walked r f is tree now e nears) = same_tree (with_note s n (note.Walk r f)) s' y time' old is tree now (walk_lowers old desk v r f e nears)
    deed_lowers s' y time' old g desk has v (moved p m z is seen by) =
        let ok = deed_gentle w rs s s' x y time time' t h n old g (moved p m z is seen by) in
        let u : Within t (note.Saw m p) = subst (Within t) seen v in (
          note.None,
          ap (λ z. (z.desk n).note) is ∙ note-here z note.None,
          tt,
          subst (λ o. suc (measure s' y time' note.None t) ≤ measure s x time o t) (sym seen)
              (saw_moves (λ i. visits time i x) (undecided s time) (λ r p. heads r (s.queue p)) (λ r p. heads r (s'.queue p)) t m p (undecided s' time') ok.opens
              (λ i. visits time' i y) u.0 u.1 ok.fewer (move-visits w rs s z x y time time' p m h g.good g.over by).0),
        )

    -- a follow without a note lowers it too, if it answers the head of a queue, a request up to t
    pub follow_lowers : (r p : ℕ) → heads r (s.queue p) ≡ true → 1 ≤ r → r ≤ t → Lowered (with_note s n (note.Saw r p)) x time n t note.None
    follow_lowers r p e lo hi = (
      note.Saw r p,
      note-here s (note.Saw r p),
      (lo, hi),
      note-taken (λ i. visits time i x) (undecided s time) (λ r p. heads r (s.queue p)) (λ r p. heads r (s.queue p)) t r p e,
    )
