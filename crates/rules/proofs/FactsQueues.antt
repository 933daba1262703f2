-- Queues rise, and places are older than all that waits there and all that hangs below. Rests on Standings.
use Rattle.std.proofs.Common.{◌≡◌, ℕ, zero, suc, ◌<◌, ◌≤◌, Bool, true, List, [], ◌∷◌, length, Some, None, Option, sym, ap, ◌∙◌, subst, ⊎_elim, true≢false, arith}
use Rattle.std.proofs.lemmas.Bool.{cases_Bool}
use Rattle.requests.specs.declared.request.Request.{Request}
use Rattle.rules.specs.Kinds.{Kinds}
use Rattle.rules.specs.States.{State, Place, Waiter, leads}
use Rattle.rules.specs.Moves.{Side, on_left, on_right, slot_on}
use Rattle.rules.specs.Facts.{BelowAll, Rises, QueuesRise, OlderThanQueue, OlderThanBelow, GateOldest, PlacesOlder}
use Rattle.rules.proofs.Trees.{Tree, bare, leaf, node, slot_of, inside, drawn_place, Drawn}
use Rattle.rules.proofs.Goods.{below, Lined, Over, left_of, right_of, Good}
use Rattle.rules.proofs.Insides.{inside_cases, inside_over}
use Rattle.rules.proofs.Holds.{InTurn, Everywhere, Holds}
use Rattle.rules.proofs.Standings.{drawn_lined}

-- rows of numbers from above a number rise, and are all above it
lined_over : (n lo : ℕ) (q : List Waiter) (hi : ℕ) → n ≤ lo → Lined lo q hi → BelowAll n q
lined_over n lo [] hi h d = tt
lined_over n lo (e ∷ q) hi h d = (omega (arith, d.0), lined_over n e.number q hi (omega (arith, d.0)) d.1)

lined_rises : (lo : ℕ) (q : List Waiter) (hi : ℕ) → Lined lo q hi → Rises q
lined_rises lo [] hi d = tt
lined_rises lo (e ∷ q) hi d = (lined_over e.number e.number q hi (omega arith) d.1, lined_rises e.number q hi d.1)

-- and so do numbers in turn
turn_over : (n lo : ℕ) (q : List Waiter) (hi : ℕ) → n < lo → InTurn lo q hi → BelowAll n q
turn_over n lo [] hi h d = tt
turn_over n lo (e ∷ q) hi h d = (omega (arith, d.0), turn_over n (suc lo) q hi (omega arith) d.1)

turn-rises : (lo : ℕ) (q : List Waiter) (hi : ℕ) → InTurn lo q hi → Rises q
turn-rises lo [] hi d = tt
turn-rises lo (e ∷ q) hi d = (turn_over e.number (suc lo) q hi (omega (arith, d.0)) d.1, turn-rises (suc lo) q hi d.1)

module _ {K T : Type 0} where
  -- a slot leads to the place on top of its tree
  over_leads : (p q : ℕ) (x : Tree K T) → Over p x → slot_of x ≡ leads q → p < q
  over_leads p q bare o e = absurd cc
  over_leads p q (leaf k) o e = absurd cc
  over_leads p q (node f s t r a b) o e = let same : f ≡ q = cc in omega arith

module _ {K T : Type 0} (w : Kinds K T) (rs : List (Request K)) where
  -- numbers rise from a place of the tree to those that its slots lead to
  drawn_over : (place : ℕ → Option (Place K T)) (queue : ℕ → List Waiter) (R : K → Bool) (now : ℕ) (x : Tree K T) (p q : ℕ) (f : Place K T) (side : Side)
      → Good w rs R now x → Drawn place queue x → inside p x ≡ true → place p ≡ Some f → slot_on f side ≡ leads q → p < q
  drawn_over pl qu R now bare p q f side g d e made to = absurd (true≢false (sym e))
  drawn_over pl qu R now (leaf k) p q f side g d e made to = absurd (true≢false (sym e))
  drawn_over pl qu R now (node i s t r a b) p q f side g d e made to =
      let one = drawn_over pl qu (left_of w R s) (below r now) a p q f side g.2 d.2 in
      let two = drawn_over pl qu (right_of w R s) (below r now) b p q f side g.3 d.3 in
      inside_cases w rs p i s t r a b e
      (λ u. let both : Some f ≡ Some (drawn_place s t a b) = sym made ∙ ap pl u ∙ d.0 in
      let same : f ≡ drawn_place s t a b = cc in
      subst (λ j. j < q) (sym u) (here side (ap (λ v. slot_on v side) (sym same) ∙ to)))
      (λ u. one u made to) (λ u. two u made to)
    where
      here : (side : Side) → slot_on (drawn_place s t a b) side ≡ leads q → i < q
      here on_left to = over_leads i q a g.1.0 to
      here on_right to = over_leads i q b g.1.1 to

  module _ (s : State K T) (x : Tree K T) (time : ℕ) (h : Holds w rs s x time) where
    pub queues_rise : QueuesRise s
    queues_rise zero = turn-rises time (s.queue 0) (suc (length rs)) h.gate
    queues_rise (suc p) =
        ⊎_elim
        (λ u. let d = drawn_lined w rs s.place s.queue (Everywhere w rs) time x (suc p) h.good h.drawn u in
        lined_rises (suc p) (s.queue (suc p)) d.0 d.1)
        (λ u. subst Rises (sym ((h.others (suc p) u).1 (omega arith))) tt)
        (cases_Bool (inside (suc p) x))

    older_than_queue : OlderThanQueue s
    older_than_queue zero = turn_over 0 time (s.queue 0) (suc (length rs)) h.started h.gate
    older_than_queue (suc p) =
        ⊎_elim
        (λ u. let d = drawn_lined w rs s.place s.queue (Everywhere w rs) time x (suc p) h.good h.drawn u in
        lined_over (suc p) (suc p) (s.queue (suc p)) d.0 (omega arith) d.1)
        (λ u. subst (BelowAll (suc p)) (sym ((h.others (suc p) u).1 (omega arith))) tt)
        (cases_Bool (inside (suc p) x))

    -- a place that is made hangs in the tree
    made_inside : (p : ℕ) (f : Place K T) → s.place p ≡ Some f → inside p x ≡ true
    made_inside p f made =
        ⊎_elim (λ u. u)
        (λ u. let none = (h.others p u).0 in let z : ◌≡◌ {A = ℕ} 0 1 = clash (sym made ∙ none) in absurd (omega arith))
        (cases_Bool (inside p x))
      where
        clash : ◌≡◌ {A = Option (Place K T)} (Some f) None → ◌≡◌ {A = ℕ} 0 1
        clash c = cc

    older_than_below : OlderThanBelow s
    older_than_below p q f side made to =
        drawn_over s.place s.queue (Everywhere w rs) time x p q f side h.good h.drawn (made_inside p f made) made to

    gate_oldest : GateOldest s
    gate_oldest = (
      (λ p f made. inside_over w rs (Everywhere w rs) time x 0 p h.good h.over (made_inside p f made)),
      λ q to. over_leads 0 q x h.over (sym h.rooted ∙ to),
    )

    pub places_older : PlacesOlder s
    places_older = (older_than_queue, older_than_below, gate_oldest)
