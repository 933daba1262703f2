-- A tree stays good while nothing of its region changes, and when requests are added. Rests on Goods.
use Rattle.std.proofs.Common.{◌≡◌, ℕ, ◌<◌, ◌≤◌, Bool, true, List, [], ◌∷◌, sym, ◌∙◌, ⊎_elim, arith}
use Rattle.std.proofs.lemmas.Bool.{cases_lt}
use Rattle.requests.specs.declared.request.Request.{Request}
use Rattle.rules.specs.Kinds.{Kinds, Lawful, before}
use Rattle.rules.specs.States.{Waiter}
use Rattle.rules.proofs.Befores.{Still, was_still, weight_still, still_within}
use Rattle.rules.proofs.Trees.{Tree, bare, leaf, node}
use Rattle.rules.proofs.Goods.{below, Lined, left_of, right_of, StillBut, PlaceGood, Good}

-- the end of a row of numbers may move up
pub lined_up : (lo : ℕ) (q : List Waiter) (a b : ℕ) → a ≤ b → Lined lo q a → Lined lo q b
lined_up lo [] a b h d = omega arith
lined_up lo (e ∷ q) a b h d = (d.0, lined_up e.number q a b h d.1)

-- and its beginning down
pub lined_down : (lo low : ℕ) (q : List Waiter) (t : ℕ) → low ≤ lo → Lined lo q t → Lined low q t
lined_down lo low [] t h d = omega arith
lined_down lo low (e ∷ q) t h d = (omega (arith, d.0), d.1)

-- the first number and the end
pub lined_below : (lo : ℕ) (q : List Waiter) (t : ℕ) → Lined lo q t → (lo < below q t) × (below q t ≤ t)
lined_below lo [] t d = (d, omega arith)
lined_below lo (e ∷ q) t d = let ih = lined_below e.number q t d.1 in (d.0, omega (arith, ih.0, ih.1))

pub left_in : {K T : Type 0} (w : Kinds K T) (R : K → Bool) (s k : K) → left_of w R s k ≡ true → R k ≡ true
left_in w R s k e = grind arith

pub right_in : {K T : Type 0} (w : Kinds K T) (R : K → Bool) (s k : K) → right_of w R s k ≡ true → R k ≡ true
right_in w R s k e = grind arith

pub left_side : {K T : Type 0} (w : Kinds K T) (R : K → Bool) (s k : K) → left_of w R s k ≡ true → before w k s ≡ true
left_side w R s k e = grind arith

pub right_side : {K T : Type 0} (w : Kinds K T) (R : K → Bool) (s k : K) → right_of w R s k ≡ true → w.le s k ≡ true
right_side w R s k e = grind arith

module _ {K T : Type 0} (w : Kinds K T) (l : Lawful w) (rs : List (Request K)) where
  place-later : (R : K → Bool) (t u p : ℕ) (s : K) (tally : T) (q : List Waiter) → t ≤ u → Still w rs R t u → StillBut w rs R q u → PlaceGood w rs R t p s tally q → PlaceGood w rs R u p s tally q
  place-later R t u p s tally q h quiet still g = record {
    maker = g.maker;
    made = g.made;
    maker_here = g.maker_here;
    split_here = g.split_here;
    weighs = g.weighs ∙ sym (weight_still w l rs R t u h quiet);
    lined = lined_up p q t u h g.lined;
    fits = g.fits;
    still = still;
  }

  -- a tree stays good at a later time while nothing of its region changes
  pub good_later : (R : K → Bool) (t u : ℕ) (x : Tree K T) → t ≤ u → Still w rs R t u → Good w rs R t x → Good w rs R u x
  good_later R t u bare h q g = λ k e. was_still w l rs R t u h q k e ∙ g k e
  good_later R t u (leaf j) h q g = (g.0, λ k e. was_still w l rs R t u h q k e ∙ g.1 k e)
  good_later R t u (node p s tally [] a b) h q g = (
    place-later R t u p s tally [] h q (λ i lo hi. absurd (omega arith)) g.0,
    g.1,
    good_later (left_of w R s) t u a h (still_within w l rs R (left_of w R s) t u (left_in w R s) q) g.2,
    good_later (right_of w R s) t u b h (still_within w l rs R (right_of w R s) t u (right_in w R s) q) g.3,
  )
  good_later R t u (node p s tally (e ∷ es) a b) h q g =
      (place-later R t u p s tally (e ∷ es) h q still g.0, g.1, g.2, g.3)
    where
      still : StillBut w rs R (e ∷ es) u
      still i lo hi = ⊎_elim (λ lt. g.0.still i lo lt) (λ ge out. q i ge hi) (cases_lt i t)
