-- A place of which one child has changed: what is drawn anew, and what is kept. Rests on Alter and Puts.
use Rattle.std.proofs.Common.{◌≡◌, ℕ, ◌<◌, Bool, true, false, ◌||◌, eqb, List, Some, Option, sym, ap, ◌∙◌, true≢false, arith}
use Rattle.std.proofs.lemmas.Bool.{false_from_ne_true, ne_eqb, or_left, or_parts}
use Rattle.requests.specs.declared.request.Request.{Request}
use Rattle.rules.specs.Kinds.{Kinds}
use Rattle.rules.specs.States.{Place, Waiter}
use Rattle.rules.specs.Queues.{numbered}
use Rattle.rules.specs.Moves.{Side, on_left, on_right, with_slot_on}
use Rattle.rules.proofs.Trees.{Tree, bare, leaf, node, slot_of, inside, drawn_place, Drawn, drawn_frame}
use Rattle.rules.proofs.Goods.{below, left_of, right_of, Good}
use Rattle.rules.proofs.Later.{left_in, right_in}
use Rattle.rules.proofs.Insides.{Maker, inside_maker, inside_over, makers_apart}

module _ {K T : Type 0} where
  -- whether a number is that of a tree's top place
  abbrev pub topped : Tree K T → ℕ → Bool
  topped bare i = false
  topped (leaf k) i = false
  topped (node f s t q a b) i = eqb i f

  pub topped_inside : (x : Tree K T) (i : ℕ) → topped x i ≡ true → inside i x ≡ true
  topped_inside bare i e = e
  topped_inside (leaf k) i e = e
  topped_inside (node f s t q a b) i e = or_left (eqb i f) (inside i a || inside i b) e

  abbrev pub picked : Side → Tree K T → Tree K T → Tree K T
  picked on_left a b = a
  picked on_right a b = b

  abbrev pub other : Side → Tree K T → Tree K T → Tree K T
  other on_left a b = b
  other on_right a b = a

  -- the place with the child on a side changed to c
  abbrev pub hung : Side → ℕ → K → T → List Waiter → Tree K T → Tree K T → Tree K T → Tree K T
  hung on_left p s t q a b c = node p s t q c b
  hung on_right p s t q a b c = node p s t q a c

module _ {K T : Type 0} (w : Kinds K T) (rs : List (Request K)) (pl pl' : ℕ → Option (Place K T)) (qu qu' : ℕ → List Waiter) where
  -- what is drawn and kept at a place, as Alter wants it
  pub record DrawnAnew (p : ℕ) (R : K → Bool) (y : Tree K T) : Type 0 where
    pub drawn : Drawn pl' qu' y
    pub low : (i : ℕ) → i < p → (pl' i ≡ pl i) × (qu' i ≡ qu i)
    pub far : (i : ℕ) → (Maker w rs R i → ⊥) → (pl' i ≡ pl i) × (qu' i ≡ qu i)
    pub out : (i : ℕ) → inside i y ≡ false → (pl' i ≡ pl i) × (qu' i ≡ qu i)

  -- only the place itself and the tops of its children were touched
  pub anew : (p : ℕ) (R : K → Bool) (now : ℕ) (s : K) (t : T) (q : List Waiter) (c d : Tree K T) → Good w rs R now (node p s t q c d)
      → pl' p ≡ Some (drawn_place s t c d) → qu' p ≡ q → Drawn pl' qu' c → Drawn pl' qu' d
      → ((i : ℕ) → eqb i p ≡ false → topped c i ≡ false → topped d i ≡ false → (pl' i ≡ pl i) × (qu' i ≡ qu i))
      → DrawnAnew p R (node p s t q c d)
  anew p R now s t q c d g place-p queue-p own-c own-d kept = record {
    drawn = (place-p, queue-p, own-c, own-d);
    low = λ i lt. kept i (ne_eqb i p (λ e. omega arith))
        (false_from_ne_true (topped c i) (λ e. let o = inside_over w rs (left_of w R s) (below q now) c p i g.2 g.1.0 (topped_inside c i e) in omega arith))
        (false_from_ne_true (topped d i) (λ e. let o = inside_over w rs (right_of w R s) (below q now) d p i g.3 g.1.1 (topped_inside d i e) in omega arith));
    far = λ i no. kept i
        (ne_eqb i p (λ e. no (g.0.maker, ap (numbered rs) e ∙ g.0.made, g.0.maker_here)))
        (false_from_ne_true (topped c i) (λ e. let m = inside_maker w rs (left_of w R s) (below q now) c i g.2 (topped_inside c i e) in no (m.0, m.1, left_in w R s m.0 m.2)))
        (false_from_ne_true (topped d i) (λ e. let m = inside_maker w rs (right_of w R s) (below q now) d i g.3 (topped_inside d i e) in no (m.0, m.1, right_in w R s m.0 m.2)));
    out = λ i h.
        let rest = (or_parts (eqb i p) (inside i c || inside i d) h).1 in
        kept i (or_parts (eqb i p) (inside i c || inside i d) h).0
        (false_from_ne_true (topped c i) (λ e. true≢false (sym (topped_inside c i e) ∙ (or_parts (inside i c) (inside i d) rest).0)))
        (false_from_ne_true (topped d i) (λ e. true≢false (sym (topped_inside d i e) ∙ (or_parts (inside i c) (inside i d) rest).1)));
  }

  -- the same with one child as it was
  pub anew_side : (σ : Side) (p : ℕ) (R : K → Bool) (now : ℕ) (s : K) (t : T) (q : List Waiter) (a b c : Tree K T) → Good w rs R now (hung σ p s t q a b c)
      → pl' p ≡ Some (with_slot_on (drawn_place s t a b) σ (slot_of c)) → qu' p ≡ q → Drawn pl' qu' c → Drawn pl qu (other σ a b)
      → ((i : ℕ) → eqb i p ≡ false → topped c i ≡ false → (pl' i ≡ pl i) × (qu' i ≡ qu i))
      → DrawnAnew p R (hung σ p s t q a b c)
  anew_side on_left p R now s t q a b c g place-p queue-p own-c own-b kept =
      anew p R now s t q c b g place-p queue-p own-c
      (drawn_frame pl pl' qu qu' b (λ i h. kept i
      (ne_eqb i p (λ e. let o = inside_over w rs (right_of w R s) (below q now) b p i g.3 g.1.1 h in omega arith))
      (false_from_ne_true (topped c i) (λ e. makers_apart w rs R s i (inside_maker w rs (left_of w R s) (below q now) c i g.2 (topped_inside c i e)) (inside_maker w rs (right_of w R s) (below q now) b i g.3 h)))) own-b)
      (λ i u v x. kept i u v)
  anew_side on_right p R now s t q a b c g place-p queue-p own-c own-a kept =
      anew p R now s t q a c g place-p queue-p
      (drawn_frame pl pl' qu qu' a (λ i h. kept i
      (ne_eqb i p (λ e. let o = inside_over w rs (left_of w R s) (below q now) a p i g.2 g.1.0 h in omega arith))
      (false_from_ne_true (topped c i) (λ e. makers_apart w rs R s i (inside_maker w rs (left_of w R s) (below q now) a i g.2 h) (inside_maker w rs (right_of w R s) (below q now) c i g.3 (topped_inside c i e))))) own-a)
      own-c
      (λ i u v x. kept i u x)
