-- A carry keeps the invariant, and does one of four deeds. Rests on Interface and Deeds.
use Rattle.std.proofs.Common.{◌≡◌, ℕ, zero, suc, ◌≤◌, Bool, true, false, not, eqb, leb, List, [], ◌∷◌, length, is_some, Some, None, Option, sym, refl, ap, ◌∙◌, subst, true≢false, arith}
use Rattle.std.proofs.lemmas.Bool.{eqb-true, le-leb}
use Rattle.requests.specs.declared.request.Request.{Request}
use Rattle.rules.specs.declared.carried.Carried.{Carried}
use Rattle.rules.specs.declared.note.Note.{Note}
use Rattle.rules.specs.declared.note.Note.TheVariants as note
use Rattle.rules.specs.Kinds.{Kinds, same}
use Rattle.rules.specs.States.{State, Slot, Waiter, empty, holds, leads}
use Rattle.rules.specs.Queues.{numbered, heads}
use Rattle.rules.specs.Changes.{with_note, with_decision}
use Rattle.rules.specs.Moves.{slot_for}
use Rattle.rules.specs.Moves as moves
use Rattle.rules.specs.Carries.{sought, last_word, carried, late, saw, walk, look, at_head, at_gate, read_slot}
use Rattle.rules.proofs.Bools.{both_true}
use Rattle.rules.proofs.Befores.{was}
use Rattle.rules.proofs.Trees.{Tree}
use Rattle.rules.proofs.Holds.{Walks, Holds}
use Rattle.rules.proofs.Interface.{Stepper}
use Rattle.rules.proofs.Ways.{walk-place}
use Rattle.rules.proofs.Standings.{turn_head}
use Rattle.rules.proofs.Deeds.{wants, undecided, Lapsed, Seeks, Nears, Deed, lapsed, decided, walked, moved}

-- no note is no walk
still_none : (t p : ℕ) → note.None ≡ note.Walk t p → ⊥
still_none t p e = absurd cc

module _ {K T : Type 0} (w : Kinds K T) (step : Stepper w) (rs : List (Request K)) (s : State K T) (x : Tree K T) (time : ℕ) (h : Holds w rs s x time) (n : ℕ) where
  -- the invariant of the state that a carry by a note leaves, and its deed
  abbrev pub CarriedWell : Note → State K T → Type 0
  CarriedWell old s' = (y : Tree K T) × (time' : ℕ) × Holds w rs s' y time' × Deed s s' x y time time' n old

  -- the numbers of the state are those of the invariant
  asks : (t : ℕ) (o : Option (Request K)) → numbered s.requests t ≡ o → numbered rs t ≡ o
  asks t o e = ap (λ v. numbered v t) (sym h.requests) ∙ e

  drops : (s' : State K T) (y : Tree K T) (time' : ℕ) → Holds w rs s' y time' → Holds w rs (with_note s' n note.None) y time'
  drops s' y time' g = step.desks rs y time' s' g n _ (λ t p e. absurd (still_none t p e))

  lapses : (old : Note) → Lapsed s old → CarriedWell old (with_note s n note.None)
  lapses old v = (x, time, drops s x time h, lapsed refl refl refl v)

  waits_on : (t : ℕ) (r : Request K) (k : K) → time ≤ t → numbered s.requests t ≡ Some r → sought r ≡ Some k → s.decision t ≡ None → undecided s time t ≡ true
  waits_on t r k le num key none =
      both_true {a = leb time t} (le-leb time t le)
      (both_true {a = wants (numbered s.requests t)} (ap wants num ∙ ap is_some key) (ap (λ o. not (is_some o)) none))

  decides : (old : Note) (t : ℕ) (r : Request K) (k : K) (d : Bool) → time ≤ t → numbered s.requests t ≡ Some r → sought r ≡ Some k → s.decision t ≡ None
      → d ≡ was w rs t k → Seeks s old t → CarriedWell old (with_note (with_decision s t d) n note.None)
  decides old t r k d le num key none right seeks = (
    x,
    time,
    drops (with_decision s t d) x time (step.decides rs x time s h t r k d (asks t (Some r) num) key right),
    decided t d refl refl refl (waits_on t r k le num key none) seeks,
  )

  -- a slot read for request t
  reads : (old : Note) (t : ℕ) (r : Request K) (k : K) → time ≤ t → numbered s.requests t ≡ Some r → sought r ≡ Some k → s.decision t ≡ None → Seeks s old t
      → (slot : Slot K) → (slot ≡ empty → was w rs t k ≡ false) → ((j : K) → slot ≡ holds j → same w j k ≡ was w rs t k)
      → ((f : ℕ) → slot ≡ leads f → Walks w rs t f time x × Nears s old t f) → CarriedWell old (read_slot w s n t k slot).1
  reads old t r k le num key none seeks empty one two three = decides old t r k false le num key none (sym (one refl)) seeks
  reads old t r k le num key none seeks (holds j) one two three = decides old t r k (same w j k) le num key none (two j refl) seeks
  reads old t r k le num key none seeks (leads f) one two three = (
    x,
    time,
    step.desks rs x time s h n _ (λ u p e z. let a : t ≡ u = cc in let b : f ≡ p = cc in rw (← a, ← b) (three f refl).0),
    walked t f refl refl refl (waits_on t r k le num key none) (three f refl).1,
  )

  -- the head e of p's queue moves
  head_moves : (t p : ℕ) (e : Waiter) (q : List Waiter) (r : Request K) → s.queue p ≡ e ∷ q → e.number ≡ t → numbered s.requests e.number ≡ Some r
      → (p ≡ 0 → (k : K) → sought r ≡ Some k → is_some (s.decision e.number) ≡ true) → CarriedWell (note.Saw t p) (with_note (moves.moved w s p e r) n note.None)
  head_moves t zero e q r queue is num ready =
      let m = step.moves_gate rs x time s h e q r queue (asks e.number (Some r) num) (ready refl) in (
        m.0,
        suc time,
        drops (moves.moved w s 0 e r) m.0 (suc time) m.1,
        moved 0 e.number (moves.moved w s 0 e r) refl (ap (λ i. note.Saw i 0) (sym is)) m.2,
      )
  head_moves t (suc p) e q r queue is num ready =
      let m = step.moves_tree rs x time s h p e q r queue (asks e.number (Some r) num) in (
        m.0,
        time,
        drops (moves.moved w s (suc p) e r) m.0 time m.1,
        moved (suc p) e.number (moves.moved w s (suc p) e r) refl (ap (λ i. note.Saw i (suc p)) (sym is)) m.2,
      )

  gates : (t : ℕ) (e : Waiter) (q : List Waiter) (r : Request K) → s.queue 0 ≡ e ∷ q → e.number ≡ t → numbered s.requests e.number ≡ Some r
      → (k : Option K) (d : Option Bool) → sought r ≡ k → s.decision e.number ≡ d → CarriedWell (note.Saw t 0) (at_gate w s n e r k d).1
  gates t e q r queue is num None d key dec =
      head_moves t 0 e q r queue is num (λ z k u. let v : ◌≡◌ {A = ℕ} 0 1 = cc in absurd (omega arith))
  gates t e q r queue is num (Some k) (Some d) key dec =
      head_moves t 0 e q r queue is num (λ z j u. ap is_some dec)
  gates t e q r queue is num (Some k) None key dec =
      let first : e.number ≡ time = turn_head time (s.queue 0) (suc (length rs)) e q h.gate queue in
      let right = step.reads_gate rs x time s h r k (subst (λ i. numbered rs i ≡ Some r) first (asks e.number (Some r) num)) key in
      reads (note.Saw t 0) e.number r k (omega arith) num key dec (sym is) s.slot
      (λ u. ap (λ i. was w rs i k) first ∙ right.0 u)
      (λ j u. right.1 j u ∙ ap (λ i. was w rs i k) (sym first))
      (λ f u. let v = right.2 f u in
      (subst (λ i. Walks w rs i f time x) (sym first) v, (sym is, (walk-place w rs s x time h time f v).0)))

  heads_act : (t p : ℕ) (e : Waiter) (q : List Waiter) (r : Request K) → s.queue p ≡ e ∷ q → e.number ≡ t → numbered s.requests e.number ≡ Some r
      → CarriedWell (note.Saw t p) (at_head w s n p e r).1
  heads_act t zero e q r queue is num = gates t e q r queue is num (sought r) (s.decision e.number) refl refl
  heads_act t (suc p) e q r queue is num =
      head_moves t (suc p) e q r queue is num (λ z. absurd (omega arith))

  saws : (t p : ℕ) (q : List Waiter) → s.queue p ≡ q → CarriedWell (note.Saw t p) (saw w s n t p q).1
  saws t p [] queue = lapses (note.Saw t p) (λ u. absurd (true≢false (sym u ∙ ap (heads t) queue)))
  saws t p (e ∷ q) queue = go (eqb e.number t) refl
    where
      by : (o : Option (Request K)) → numbered s.requests t ≡ o → e.number ≡ t
          → CarriedWell (note.Saw t p) (elim o as (λ _. Carried × State K T) [ None ↦ late w s n | Some r ↦ at_head w s n p e r ]).1
      by None num is = lapses (note.Saw t p) (λ u. num)
      by (Some r) num is = heads_act t p e q r queue is (ap (numbered s.requests) is ∙ num)

      go : (b : Bool) → eqb e.number t ≡ b → CarriedWell (note.Saw t p) (saw w s n t p (e ∷ q)).1
      go true f = rw f (by (numbered s.requests t) refl (eqb-true e.number t f))
      go false f = rw f (lapses (note.Saw t p) (λ u. absurd (true≢false (sym u ∙ ap (heads t) queue ∙ f))))

  -- the walk for request t looks at place p
  looks : (t p : ℕ) (v : Walks w rs t p time x) → s.decision t ≡ None → (d : Option Bool) → last_word w s.requests v.key (s.queue p) ≡ d
      → CarriedWell (note.Walk t p) (look w s n t p v.key d).1
  looks t p v none d word = go d (ap (λ u. last_word w u v.key (s.queue p)) (sym h.requests) ∙ word)
    where
      num : numbered s.requests t ≡ Some v.request
      num = ap (λ u. numbered u t) h.requests ∙ v.asked

      here : time ≤ t
      here = let e = v.head in omega arith

      go : (d : Option Bool) → last_word w rs v.key (s.queue p) ≡ d → CarriedWell (note.Walk t p) (look w s n t p v.key d).1
      go (Some d) e = decides (note.Walk t p) t v.request v.key d here num v.seeks none ((step.reads_walk rs x time s h t p v).0 d e) refl
      go None e =
          let slots = (step.reads_walk rs x time s h t p v).1 e in
          reads (note.Walk t p) t v.request v.key here num v.seeks none refl (slot_for w s p v.key) slots.0 slots.1
          (λ f u. let b = slots.2 f u in (b.0, (refl, b.1)))

  walks : (t p : ℕ) → (s.desk n).note ≡ note.Walk t p → (d : Option Bool) → s.decision t ≡ d
      → CarriedWell (note.Walk t p) (walk w s n t p d (elim (numbered s.requests t) [ None ↦ None | Some r ↦ sought r ])).1
  walks t p desk (Some d) dec = lapses (note.Walk t p) (ap is_some dec)
  walks t p desk None dec =
      subst (λ k. CarriedWell (note.Walk t p) (walk w s n t p None k).1) (sym sought-key)
      (looks t p v dec (last_word w s.requests v.key (s.queue p)) refl)
    where
      v : Walks w rs t p time x
      v = h.walks n t p desk dec

      sought-key : elim (numbered s.requests t) [ None ↦ None | Some r ↦ sought r ] ≡ Some v.key
      sought-key = ap (λ o. elim o [ None ↦ None | Some r ↦ sought r ]) (ap (λ u. numbered u t) h.requests ∙ v.asked) ∙ v.seeks

  -- a carry by the note that the station has
  pub carries : (old : Note) → (s.desk n).note ≡ old → CarriedWell old (carried w s n old).1
  carries note.None desk = lapses note.None tt
  carries (note.Saw t p) desk = saws t p (s.queue p) refl
  carries (note.Walk t p) desk = walks t p desk (s.decision t) refl
