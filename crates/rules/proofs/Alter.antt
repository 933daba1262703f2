-- A change at one place of a tree, and what it leaves of the whole. Rests on Insides.
use Rattle.std.proofs.Common.{◌≡◌, ℕ, suc, ◌<◌, ◌≤◌, Bool, true, false, cond, ◌||◌, eqb, ◌⊎◌, List, length, Some, Option, sym, refl, ap, ◌∙◌, subst, inl, inr, ⊎_elim, true≢false, arith}
use Rattle.std.proofs.lemmas.Bool.{false_from_ne_true, or_from, or_left, or_right, or_parts}
use Rattle.requests.specs.declared.request.Request.{Request}
use Rattle.requests.specs.declared.request.Request.TheVariants.{Count}
use Rattle.rules.specs.Kinds.{Kinds, Lawful, before}
use Rattle.rules.specs.States.{Place, Waiter}
use Rattle.rules.specs.Queues.{numbered, stands}
use Rattle.rules.proofs.Bools.{bool_map}
use Rattle.rules.proofs.Trees.{Tree, bare, leaf, node, slot_of, inside, Drawn, drawn_frame}
use Rattle.rules.proofs.Goods.{below, Over, left_of, right_of, Good}
use Rattle.rules.proofs.Later.{left_in, right_in, lined_below}
use Rattle.rules.proofs.Pends.{waiting, queue_share, pending, OnWay}
use Rattle.rules.proofs.Insides.{Maker, inside_cases, inside_maker, inside_over, makers_apart}

-- the tree with the place numbered p changed by g
abbrev pub alter : {K T : Type 0} → ℕ → (Tree K T → Tree K T) → Tree K T → Tree K T
alter p g bare = bare
alter p g (leaf k) = leaf k
alter p g (node i s t q a b) = cond (eqb i p) (g (node i s t q a b)) (node i s t q (alter p g a) (alter p g b))

pub alter_outside : {K T : Type 0} (p : ℕ) (g : Tree K T → Tree K T) (x : Tree K T) → inside p x ≡ false → alter p g x ≡ x
alter_outside p g bare e = refl
alter_outside p g (leaf k) e = refl
alter_outside p g (node i s t q a b) e =
    let one = alter_outside p g a (grind arith) in
    let two = alter_outside p g b (grind arith) in
    let other : eqb i p ≡ false = grind arith in
    rw (other, one, two)

-- a sum of which one part changed
module _ {K T : Type 0} (w : Kinds K T) (l : Lawful w) where
  first_part : (c c' q x x' y : T) → w.joined c' x' ≡ w.joined c x → w.joined c' (w.joined q (w.joined x' y)) ≡ w.joined c (w.joined q (w.joined x y))
  first_part c c' q x x' y e = pull c' x' ∙ ap (λ v. w.joined v (w.joined q y)) e ∙ sym (pull c x)
    where
      pull : (d z : T) → w.joined d (w.joined q (w.joined z y)) ≡ w.joined (w.joined d z) (w.joined q y)
      pull d z =
          let one = l.associative q z y in
          let two = l.commutative q z in
          let three = l.associative z q y in
          let four = l.associative d z (w.joined q y) in
          cc

  second_part : (c c' q x y y' : T) → w.joined c' y' ≡ w.joined c y → w.joined c' (w.joined q (w.joined x y')) ≡ w.joined c (w.joined q (w.joined x y))
  second_part c c' q x y y' e =
      ap (λ v. w.joined c' (w.joined q v)) (l.commutative x y') ∙ first_part c c' q y y' x e ∙ ap (λ v. w.joined c (w.joined q v)) (l.commutative y x)

module _ {K T : Type 0} (w : Kinds K T) (l : Lawful w) (rs : List (Request K)) (place new-place : ℕ → Option (Place K T)) (queue new-queue : ℕ → List Waiter) (counted new-counted : ℕ → T) where
  -- place and queue of a number are as they were
  abbrev pub Kept : ℕ → Type 0
  Kept i = (new-place i ≡ place i) × (new-queue i ≡ queue i)

  -- what request t, moved at place p in the region R, leaves of a tree x and makes of it, y; Done if it waits there no more
  pub record Changed (Done : Type 0) (t p : ℕ) (R : K → Bool) (now : ℕ) (x y : Tree K T) : Type 0 where
    pub good : Good w rs R now y
    pub drawn : Drawn new-place new-queue y
    pub slot : slot_of y ≡ slot_of x
    pub over : (lo : ℕ) → Over lo x → Over lo y
    -- places with lower numbers, and those whose makers' keys lie elsewhere, are as they were
    pub low : (i : ℕ) → i < p → Kept i
    pub far : (i : ℕ) → (Maker w rs R i → ⊥) → Kept i
    -- and so are all that do not hang in the new tree; none is lost
    pub out : (i : ℕ) → inside i y ≡ false → (inside i x ≡ false) × Kept i
    -- every other request waits as before, this one further down, or it is done
    pub waits : (i : ℕ) → (i ≡ t → ⊥) → waiting i y ≡ waiting i x
    pub mover : (waiting t y ≡ true) ⊎ Done
    -- a count has added what it no longer has to add
    pub pends : (i : ℕ) (lo hi : K) → numbered rs i ≡ Some (Count lo hi) → w.joined (new-counted i) (pending w rs i lo hi R y) ≡ w.joined (counted i) (pending w rs i lo hi R x)
    -- ways stay clear
    pub ways : (k : K) (i : ℕ) → OnWay w rs k i x → OnWay w rs k i y

  module _ (Done : Type 0) (t p : ℕ) (g : Tree K T → Tree K T)
      (local : (R : K → Bool) (now : ℕ) (s : K) (tally : T) (q : List Waiter) (a b : Tree K T) → now ≤ suc (length rs) → Good w rs R now (node p s tally q a b) → Drawn place queue (node p s tally q a b) → Changed Done t p R now (node p s tally q a b) (g (node p s tally q a b))) where
    in_left : (R : K → Bool) (now : ℕ) (i : ℕ) (s : K) (tally : T) (q : List Waiter) (a b c : Tree K T)
        → Good w rs R now (node i s tally q a b) → Drawn place queue (node i s tally q a b) → i < p
        → Changed Done t p (left_of w R s) (below q now) a c → Changed Done t p R now (node i s tally q a b) (node i s tally q c b)
    in_left R now i s tally q a b c gd d lt ch = record {
      good = (gd.0, (ch.over i gd.1.0, gd.1.1), ch.good, gd.3);
      drawn = ((ch.low i lt).0 ∙ d.0 ∙ ap (λ x. Some (record { split = s; left = x; right = slot_of b; tally = tally })) (sym ch.slot), (ch.low i lt).1 ∙ d.1, ch.drawn, drawn_frame place new-place queue new-queue b (λ j h. ch.far j (λ m. makers_apart w rs R s j m (inside_maker w rs (right_of w R s) (below q now) b j gd.3 h))) d.3);
      slot = refl;
      over = λ lo o. o;
      low = ch.low;
      far = λ j no. ch.far j (λ m. no (m.0, m.1, left_in w R s m.0 m.2));
      out = λ j h.
          let rest = (or_parts (eqb j i) (inside j c || inside j b) h).1 in
          let o = ch.out j (or_parts (inside j c) (inside j b) rest).0 in
          (or_from (eqb j i) (inside j a || inside j b) (or_parts (eqb j i) (inside j c || inside j b) h).0 (or_from (inside j a) (inside j b) o.0 (or_parts (inside j c) (inside j b) rest).1), o.1);
      waits = λ j no. ap (λ v. stands j q || (v || waiting j b)) (ch.waits j no);
      mover = ⊎_elim (λ h. inl (or_right (stands t q) (waiting t c || waiting t b) (or_left (waiting t c) (waiting t b) h))) (λ h. inr h) ch.mover;
      pends = λ j lo hi num. first_part w l (counted j) (new-counted j) (queue_share w rs j lo hi R q) (pending w rs j lo hi (left_of w R s) a) (pending w rs j lo hi (left_of w R s) c) (pending w rs j lo hi (right_of w R s) b) (ch.pends j lo hi num);
      ways = λ k j o. ⊎_elim inl (λ h. inr (h.0, bool_map (before w k s) (ch.ways k j) (λ v. v) h.1)) o;
    }

    in_right : (R : K → Bool) (now : ℕ) (i : ℕ) (s : K) (tally : T) (q : List Waiter) (a b c : Tree K T)
        → Good w rs R now (node i s tally q a b) → Drawn place queue (node i s tally q a b) → i < p
        → Changed Done t p (right_of w R s) (below q now) b c → Changed Done t p R now (node i s tally q a b) (node i s tally q a c)
    in_right R now i s tally q a b c gd d lt ch = record {
      good = (gd.0, (gd.1.0, ch.over i gd.1.1), gd.2, ch.good);
      drawn = ((ch.low i lt).0 ∙ d.0 ∙ ap (λ x. Some (record { split = s; left = slot_of a; right = x; tally = tally })) (sym ch.slot), (ch.low i lt).1 ∙ d.1, drawn_frame place new-place queue new-queue a (λ j h. ch.far j (λ m. makers_apart w rs R s j (inside_maker w rs (left_of w R s) (below q now) a j gd.2 h) m)) d.2, ch.drawn);
      slot = refl;
      over = λ lo o. o;
      low = ch.low;
      far = λ j no. ch.far j (λ m. no (m.0, m.1, right_in w R s m.0 m.2));
      out = λ j h.
          let rest = (or_parts (eqb j i) (inside j a || inside j c) h).1 in
          let o = ch.out j (or_parts (inside j a) (inside j c) rest).1 in
          (or_from (eqb j i) (inside j a || inside j b) (or_parts (eqb j i) (inside j a || inside j c) h).0 (or_from (inside j a) (inside j b) (or_parts (inside j a) (inside j c) rest).0 o.0), o.1);
      waits = λ j no. ap (λ v. stands j q || (waiting j a || v)) (ch.waits j no);
      mover = ⊎_elim (λ h. inl (or_right (stands t q) (waiting t a || waiting t c) (or_right (waiting t a) (waiting t c) h))) (λ h. inr h) ch.mover;
      pends = λ j lo hi num. second_part w l (counted j) (new-counted j) (queue_share w rs j lo hi R q) (pending w rs j lo hi (left_of w R s) a) (pending w rs j lo hi (right_of w R s) b) (pending w rs j lo hi (right_of w R s) c) (ch.pends j lo hi num);
      ways = λ k j o. ⊎_elim inl (λ h. inr (h.0, bool_map (before w k s) (λ v. v) (ch.ways k j) h.1)) o;
    }

    -- a change that is right at the place itself is right in the whole tree
    pub altered : (R : K → Bool) (now : ℕ) (x : Tree K T) → now ≤ suc (length rs) → Good w rs R now x → Drawn place queue x → inside p x ≡ true → Changed Done t p R now x (alter p g x)
    altered R now bare n gd d e = absurd (true≢false (sym e))
    altered R now (leaf k) n gd d e = absurd (true≢false (sym e))
    altered R now (node i s tally q a b) n gd d e =
        go (altered (left_of w R s) (below q now) a room gd.2 d.2) (altered (right_of w R s) (below q now) b room gd.3 d.3) (eqb i p) refl
      where
        room : below q now ≤ suc (length rs)
        room = let f = lined_below i q now gd.0.lined in omega (arith, f.1)

        go : (inside p a ≡ true → Changed Done t p (left_of w R s) (below q now) a (alter p g a)) → (inside p b ≡ true → Changed Done t p (right_of w R s) (below q now) b (alter p g b))
            → (c : Bool) → eqb i p ≡ c → Changed Done t p R now (node i s tally q a b) (alter p g (node i s tally q a b))
        go one two true f =
            let here : p ≡ i = grind arith in
            let there = subst (λ j. Good w rs R now (node j s tally q a b) → Drawn place queue (node j s tally q a b) → Changed Done t p R now (node j s tally q a b) (g (node j s tally q a b))) here (local R now s tally q a b n) in
            rw f (there gd d)
        go one two false f =
            inside_cases w rs p i s tally q a b e
            (λ h. let z : eqb i p ≡ true = grind arith in absurd (true≢false (sym z ∙ f)))
            (λ h. let lone : inside p b ≡ false = false_from_ne_true (inside p b) (λ k. makers_apart w rs R s p (inside_maker w rs (left_of w R s) (below q now) a p gd.2 h) (inside_maker w rs (right_of w R s) (below q now) b p gd.3 k)) in
            rw (f, alter_outside p g b lone) (in_left R now i s tally q a b (alter p g a) gd d (inside_over w rs (left_of w R s) (below q now) a i p gd.2 gd.1.0 h) (one h)))
            (λ h. let lone : inside p a ≡ false = false_from_ne_true (inside p a) (λ k. makers_apart w rs R s p (inside_maker w rs (left_of w R s) (below q now) a p gd.2 k) (inside_maker w rs (right_of w R s) (below q now) b p gd.3 h)) in
            rw (f, alter_outside p g a lone) (in_right R now i s tally q a b (alter p g b) gd d (inside_over w rs (right_of w R s) (below q now) b i p gd.3 gd.1.1 h) (two h)))
