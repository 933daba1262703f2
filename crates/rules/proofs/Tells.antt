-- A slot or a queue read for a decision tells what was: at the gate, and on the way down. Rests on Holds.
use Rattle.std.proofs.Common.{◌≡◌, ℕ, zero, suc, ◌<◌, ◌≤◌, Bool, true, false, cond, not, eqb, List, [], ◌∷◌, length, Some, None, Option, sym, refl, ap, ◌∙◌, subst, inl, inr, ⊎_elim, true≢false, arith}
use Rattle.std.proofs.lemmas.Bool.{false_from_ne_true, ne_eqb, or_from}
use Rattle.requests.specs.declared.request.Request.{Request}
use Rattle.rules.specs.Kinds.{Kinds, Lawful, same, before}
use Rattle.rules.specs.States.{State, Slot, Place, Waiter, empty, holds, leads}
use Rattle.rules.specs.Queues.{numbered, stands}
use Rattle.rules.specs.Moves.{on_left, on_right, slot_on, side_of, slot_for}
use Rattle.rules.specs.Carries.{sought, says, later, last_word}
use Rattle.rules.proofs.Bools.{both_true}
use Rattle.rules.proofs.Order.{same_sym}
use Rattle.rules.proofs.Times.{told, numbered_some}
use Rattle.rules.proofs.Befores.{was, Unmoved, was_next, was_steady}
use Rattle.rules.proofs.Trees.{Tree, bare, leaf, node, slot_of, inside, drawn_place, Drawn}
use Rattle.rules.proofs.Goods.{below, Lined, Over, left_of, right_of, PlaceGood, Good}
use Rattle.rules.proofs.Later.{lined_below}
use Rattle.rules.proofs.Pends.{OnWay}
use Rattle.rules.proofs.Effects.{slot_for-made}
use Rattle.rules.proofs.Holds.{Everywhere, Walks, Holds}
use Rattle.rules.proofs.Insides.{inside_over}
use Rattle.rules.proofs.Descents.{in_turn_end}

not_false : (b : Bool) → not b ≡ false → b ≡ true
not_false true e = refl
not_false false e = absurd (true≢false e)

-- what was, by the last word and what was before it
abbrev pub by_word : Option Bool → Bool → Bool
by_word None old = old
by_word (Some d) old = d

later_tells : {K T : Type 0} (w : Kinds K T) (last word : Option Bool) (old : Bool) → by_word last (told w word old) ≡ by_word (later last word) old
later_tells w (Some d) word old = refl
later_tells w None None old = refl
later_tells w None (Some d) old = refl

-- who is between a queue's head and the next one stands not in it
between_out : (i x : ℕ) (q : List Waiter) (t : ℕ) → Lined x q t → i ≤ x → stands i q ≡ false
between_out i x [] t d h = refl
between_out i x (y ∷ q) t d h =
    or_from (eqb y.number i) (stands i q) (ne_eqb y.number i (λ e. omega (arith, d.0))) (between_out i y.number q t d.1 (omega (arith, d.0)))

next_out : (i x : ℕ) (q : List Waiter) (t : ℕ) → Lined x q t → i < below q t → stands i q ≡ false
next_out i x [] t d h = refl
next_out i x (y ∷ q) t d h =
    or_from (eqb y.number i) (stands i q) (ne_eqb y.number i (λ e. omega arith)) (between_out i y.number q t d.1 (omega arith))

module _ {K T : Type 0} (w : Kinds K T) (l : Lawful w) (rs : List (Request K)) (k : K) where
  -- along a queue, only those who stand in it may say something of the key
  word_tells : (lo : ℕ) (q : List Waiter) (t : ℕ) → Lined lo q t → t ≤ suc (length rs)
      → ((i : ℕ) → below q t ≤ i → i < t → stands i q ≡ false → Unmoved w rs i k)
      → was w rs t k ≡ by_word (last_word w rs k q) (was w rs (below q t) k)
  word_tells lo [] t d n still = refl
  word_tells lo (e ∷ q) t d n still =
      let far = lined_below e.number q t d.1 in
      let asked = numbered_some rs e.number (omega (arith, d.0)) (omega (arith, far.0, far.1)) in
      let rest = word_tells e.number q t d.1 n (λ i lo' hi out. still i (omega (arith, far.0)) hi (or_from (eqb e.number i) (stands i q) (ne_eqb e.number i (λ z. omega (arith, far.0))) out)) in
      let steady = was_steady w l rs k (suc e.number) (below q t) (omega (arith, far.0)) (λ i lo' hi. still i (omega arith) (omega (arith, far.1)) (or_from (eqb e.number i) (stands i q) (ne_eqb e.number i (λ z. omega arith)) (next_out i e.number q t d.1 hi))) in
      rest
      ∙ ap (by_word (last_word w rs k q)) (steady ∙ was_next w l rs e.number asked.0 k asked.1)
      ∙ later_tells w (last_word w rs k q) (says w k asked.0) (was w rs e.number k)
      ∙ ap (λ o. by_word (later (last_word w rs k q) (elim o [ None ↦ None | Some r ↦ says w k r ])) (was w rs e.number k)) (sym asked.1)

  -- a place of the key's region: what was above it, by its queue and by what was below
  pub place_tells : (R : K → Bool) (now : ℕ) (p : ℕ) (s : K) (v : T) (q : List Waiter) → now ≤ suc (length rs) → R k ≡ true → PlaceGood w rs R now p s v q
      → was w rs now k ≡ by_word (last_word w rs k q) (was w rs (below q now) k)
  place_tells R now p s v q n here g = word_tells p q now g.lined n (λ i lo hi out. g.still i lo hi out k here)

  -- the tree under a slot, read for the key
  abbrev pub SlotTells : Slot K → ℕ → Type 0
  SlotTells z t = (z ≡ empty → was w rs t k ≡ false) × ((j : K) → z ≡ holds j → same w j k ≡ was w rs t k)

  slot_tells : (R : K → Bool) (t : ℕ) (x : Tree K T) → R k ≡ true → Good w rs R t x → SlotTells (slot_of x) t
  slot_tells R t bare here g = (λ e. g k here, λ j e. absurd cc)
  slot_tells R t (leaf i) here g = (
    λ e. absurd cc,
    λ j e. let is : i ≡ j = cc in same_sym w l j k ∙ ap (same w k) (sym is) ∙ sym (g.1 k here),
  )
  slot_tells R t (node f s v q a b) here g =
      (λ e. absurd cc, λ j e. absurd cc)

  -- on the way of the key down to place p: what is told there is what was above
  module _ (place : ℕ → Option (Place K T)) (queue : ℕ → List Waiter) where
    pub record ToldAt (p : ℕ) (R : K → Bool) (now : ℕ) (x : Tree K T) : Type 0 where
      pub word : (d : Bool) → last_word w rs k (queue p) ≡ Some d → d ≡ was w rs now k
      pub split : K
      pub tally : T
      pub left : Tree K T
      pub right : Tree K T
      pub made : place p ≡ Some (drawn_place split tally left right)
      pub slot : last_word w rs k (queue p) ≡ None → SlotTells (slot_on (drawn_place split tally left right) (side_of w (drawn_place split tally left right) k)) now
      pub way : last_word w rs k (queue p) ≡ None → (f : ℕ) → slot_on (drawn_place split tally left right) (side_of w (drawn_place split tally left right) k) ≡ leads f → OnWay w rs k f x × (p < f)

    top_way : (p f : ℕ) (x : Tree K T) → slot_of x ≡ leads f → Over p x → OnWay w rs k f x × (p < f)
    top_way p f bare e o = absurd cc
    top_way p f (leaf j) e o = absurd cc
    top_way p f (node i s v q a b) e o = let is : f ≡ i = cc in (inl is, omega arith)

    told_here : (R : K → Bool) (now : ℕ) (p : ℕ) (s : K) (v : T) (q : List Waiter) (a b : Tree K T) → now ≤ suc (length rs) → R k ≡ true → Good w rs R now (node p s v q a b) → Drawn place queue (node p s v q a b) → ToldAt p R now (node p s v q a b)
    told_here R now p s v q a b n here g d = record {
      word = λ x e. let tells = place_tells R now p s v q n here g.0 in sym (tells ∙ ap (λ o. by_word o (was w rs (below q now) k)) (ap (last_word w rs k) (sym d.1) ∙ e));
      split = s;
      tally = v;
      left = a;
      right = b;
      made = d.0;
      slot = λ none. side_tells none (before w k s) refl;
      way = λ none f e. let far = side_way f (before w k s) refl e in (inr (ap (last_word w rs k) (sym d.1) ∙ none, far.0), far.1);
    }
      where
        level : last_word w rs k (queue p) ≡ None → was w rs now k ≡ was w rs (below q now) k
        level none = place_tells R now p s v q n here g.0 ∙ ap (λ o. by_word o (was w rs (below q now) k)) (ap (last_word w rs k) (sym d.1) ∙ none)

        raised : (z : Slot K) → was w rs now k ≡ was w rs (below q now) k → SlotTells z (below q now) → SlotTells z now
        raised z same t = (λ e. same ∙ t.0 e, λ j e. t.1 j e ∙ sym same)

        side_tells : last_word w rs k (queue p) ≡ None → (c : Bool) → before w k s ≡ c → SlotTells (slot_on (drawn_place s v a b) (cond c on_left on_right)) now
        side_tells none true f = raised (slot_of a) (level none) (slot_tells (left_of w R s) (below q now) a (both_true here f) g.2)
        side_tells none false f = raised (slot_of b) (level none) (slot_tells (right_of w R s) (below q now) b (both_true here (not_false (w.le s k) f)) g.3)

        side_way : (f : ℕ) (c : Bool) → before w k s ≡ c → slot_on (drawn_place s v a b) (cond c on_left on_right) ≡ leads f → cond (before w k s) (OnWay w rs k f a) (OnWay w rs k f b) × (p < f)
        side_way f true u e = let t = top_way p f a e g.1.0 in (subst (λ c. cond c (OnWay w rs k f a) (OnWay w rs k f b)) (sym u) t.0, t.1)
        side_way f false u e = let t = top_way p f b e g.1.1 in (subst (λ c. cond c (OnWay w rs k f a) (OnWay w rs k f b)) (sym u) t.0, t.1)

    -- from a child to the place above it, whose queue is silent about the key
    told_up : (p : ℕ) (R S : K → Bool) (now then : ℕ) (x y : Tree K T) → was w rs then k ≡ was w rs now k → ((f : ℕ) → OnWay w rs k f x → OnWay w rs k f y) → ToldAt p R now x → ToldAt p S then y
    told_up p R S now then x y same up t = record {
      word = λ d e. t.word d e ∙ sym same;
      split = t.split;
      tally = t.tally;
      left = t.left;
      right = t.right;
      made = t.made;
      slot = λ none. let old = t.slot none in (λ e. same ∙ old.0 e, λ j e. old.1 j e ∙ sym same);
      way = λ none f e. let old = t.way none f e in (up f old.0, old.1);
    }

    pub told_on_way : (R : K → Bool) (now : ℕ) (x : Tree K T) (p : ℕ) → now ≤ suc (length rs) → R k ≡ true → Good w rs R now x → Drawn place queue x → OnWay w rs k p x → ToldAt p R now x
    told_on_way R now bare p n here g d o = absurd o
    told_on_way R now (leaf j) p n here g d o = absurd o
    told_on_way R now (node f s v q a b) p n here g d o =
        go (λ u. told_on_way (left_of w R s) (below q now) a p room u g.2 d.2) (λ u. told_on_way (right_of w R s) (below q now) b p room u g.3 d.3) (before w k s) refl
      where
        room : below q now ≤ suc (length rs)
        room = let far = lined_below f q now g.0.lined in omega (arith, far.1)

        go : (left_of w R s k ≡ true → OnWay w rs k p a → ToldAt p (left_of w R s) (below q now) a) → (right_of w R s k ≡ true → OnWay w rs k p b → ToldAt p (right_of w R s) (below q now) b) → (c : Bool) → before w k s ≡ c → ToldAt p R now (node f s v q a b)
        go one two c u =
            ⊎_elim
            (λ is. subst (λ i. ToldAt i R now (node f s v q a b)) (sym is) (told_here R now f s v q a b n here g d))
            (λ down.
            let level : was w rs now k ≡ was w rs (below q now) k = place_tells R now f s v q n here g.0 ∙ ap (λ o. by_word o (was w rs (below q now) k)) down.0 in
            side c u level down.0 (subst (λ x. cond x (OnWay w rs k p a) (OnWay w rs k p b)) u down.1))
            o
          where
            side : (c : Bool) → before w k s ≡ c → was w rs now k ≡ was w rs (below q now) k → last_word w rs k q ≡ None → cond c (OnWay w rs k p a) (OnWay w rs k p b) → ToldAt p R now (node f s v q a b)
            side true u level quiet way = told_up p (left_of w R s) R (below q now) now a (node f s v q a b) level (λ i z. inr (quiet, subst (λ x. cond x (OnWay w rs k i a) (OnWay w rs k i b)) (sym u) z)) (one (both_true here u) way)
            side false u level quiet way = told_up p (right_of w R s) R (below q now) now b (node f s v q a b) level (λ i z. inr (quiet, subst (λ x. cond x (OnWay w rs k i a) (OnWay w rs k i b)) (sym u) z)) (two (both_true here (not_false (w.le s k) u)) way)

-- the gate's slot, read for the request at its head
pub reads_gate : {K T : Type 0} (w : Kinds K T) (l : Lawful w) (rs : List (Request K)) (x : Tree K T) (time : ℕ) (s : State K T) → Holds w rs s x time → (r : Request K) (k : K) → numbered rs time ≡ Some r → sought r ≡ Some k
    → (s.slot ≡ empty → was w rs time k ≡ false) × ((j : K) → s.slot ≡ holds j → same w j k ≡ was w rs time k) × ((f : ℕ) → s.slot ≡ leads f → Walks w rs time f time x)
reads_gate w l rs x time s h r k num seeks =
    let t = slot_tells w l rs k (Everywhere w rs) time x refl h.good in (
      λ e. t.0 (sym h.rooted ∙ e),
      λ j e. t.1 j (sym h.rooted ∙ e),
      λ f e. record { head = refl; request = r; key = k; asked = num; seeks = seeks; way = (top_way w l rs k s.place s.queue 0 f x (sym h.rooted ∙ e) h.over).0 },
    )

-- a walk's place, read for its request
pub reads_walk : {K T : Type 0} (w : Kinds K T) (l : Lawful w) (rs : List (Request K)) (x : Tree K T) (time : ℕ) (s : State K T) → Holds w rs s x time → (t p : ℕ) (walk : Walks w rs t p time x)
    → ((d : Bool) → last_word w rs walk.key (s.queue p) ≡ Some d → d ≡ was w rs t walk.key)
    × (last_word w rs walk.key (s.queue p) ≡ None
    → (slot_for w s p walk.key ≡ empty → was w rs t walk.key ≡ false) × ((j : K) → slot_for w s p walk.key ≡ holds j → same w j walk.key ≡ was w rs t walk.key)
    × ((f : ℕ) → slot_for w s p walk.key ≡ leads f → Walks w rs t f time x × (p < f)))
reads_walk {K = K} {T = T} w l rs x time s h t p walk = go p walk.way
  where
    key : K
    key = walk.key

    near : time ≤ suc (length rs)
    near = in_turn_end time (s.queue 0) (suc (length rs)) h.gate

    then_now : was w rs t key ≡ was w rs time key
    then_now = ap (λ i. was w rs i key) walk.head

    no_gate : inside 0 x ≡ false
    no_gate = false_from_ne_true (inside 0 x) (λ e. let o = inside_over w rs (Everywhere w rs) time x 0 0 h.good h.over e in omega arith)

    go : (p : ℕ) → OnWay w rs key p x
        → ((d : Bool) → last_word w rs key (s.queue p) ≡ Some d → d ≡ was w rs t key)
        × (last_word w rs key (s.queue p) ≡ None
        → (slot_for w s p key ≡ empty → was w rs t key ≡ false) × ((j : K) → slot_for w s p key ≡ holds j → same w j key ≡ was w rs t key)
        × ((f : ℕ) → slot_for w s p key ≡ leads f → Walks w rs t f time x × (p < f)))
    go zero way =
        let at = told_on_way w l rs key s.place s.queue (Everywhere w rs) time x 0 near refl h.good h.drawn way in
        absurd (clash (sym at.made ∙ (h.others 0 no_gate).0))
      where
        clash : {X : Type 0} {y : X} → Some y ≡ None → ⊥
        clash c = absurd cc
    go (suc p₀) way =
        let at = told_on_way w l rs key s.place s.queue (Everywhere w rs) time x (suc p₀) near refl h.good h.drawn way in
        let read = slot_for-made w s p₀ key (drawn_place at.split at.tally at.left at.right) at.made in (
          λ d e. at.word d e ∙ sym then_now,
          λ none.
              let told-slot = at.slot none in (
                λ e. then_now ∙ told-slot.0 (sym read ∙ e),
                λ j e. told-slot.1 j (sym read ∙ e) ∙ sym then_now,
                λ f e. let on = at.way none f (sym read ∙ e) in (record { head = walk.head; request = walk.request; key = key; asked = walk.asked; seeks = walk.seeks; way = on.0 }, on.1),
              ),
        )
