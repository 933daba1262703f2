-- A child that a request meets, drawn anew. Rests on Hangs.
use Rattle.std.proofs.Common.{◌≡◌, ℕ, Bool, false, List, [], ◌∷◌, ◌++◌, Some, Option, ap, ◌∙◌, arith}
use Rattle.std.proofs.lemmas.Bool.{false_from_ne_true}
use Rattle.requests.specs.declared.request.Request.{Request}
use Rattle.rules.specs.Kinds.{Kinds}
use Rattle.rules.specs.States.{Place, Waiter}
use Rattle.rules.specs.Changes.{put}
use Rattle.rules.proofs.Trees.{Tree, node, inside, drawn_place, Drawn}
use Rattle.rules.proofs.Goods.{below, left_of, right_of, Good}
use Rattle.rules.proofs.Insides.{inside_over}
use Rattle.rules.proofs.Puts.{put-here, drawn-put-place, drawn-put-queue}

module _ {K T : Type 0} (pl : ℕ → Option (Place K T)) (qu : ℕ → List Waiter) (f : ℕ) (s : K) (t v : T) (q : List Waiter) (e : Waiter) (a b : Tree K T) where
  -- a request joins a place's queue
  pub show_own : inside f a ≡ false → inside f b ≡ false → Drawn pl qu (node f s t q a b) → Drawn pl (put qu f (qu f ++ (e ∷ []))) (node f s t (q ++ (e ∷ [])) a b)
  show_own na nb d = (
    d.0,
    put-here qu f (qu f ++ (e ∷ [])) ∙ ap (λ x. x ++ (e ∷ [])) d.1,
    drawn-put-queue pl qu a f (qu f ++ (e ∷ [])) na d.2,
    drawn-put-queue pl qu b f (qu f ++ (e ∷ [])) nb d.3,
  )

  -- and the place's tally changes
  pub join_own : inside f a ≡ false → inside f b ≡ false → Drawn pl qu (node f s t q a b) → Drawn (put pl f (Some (drawn_place s v a b))) (put qu f (qu f ++ (e ∷ []))) (node f s v (q ++ (e ∷ [])) a b)
  join_own na nb d =
      let shown = show_own na nb d in (
        put-here pl f (Some (drawn_place s v a b)),
        shown.1,
        drawn-put-place pl (put qu f (qu f ++ (e ∷ []))) a f (Some (drawn_place s v a b)) na shown.2,
        drawn-put-place pl (put qu f (qu f ++ (e ∷ []))) b f (Some (drawn_place s v a b)) nb shown.3,
      )

-- a place hangs in neither of its own children
pub top_left : {K T : Type 0} (w : Kinds K T) (rs : List (Request K)) (R : K → Bool) (now f : ℕ) (s : K) (t : T) (q : List Waiter) (a b : Tree K T) → Good w rs R now (node f s t q a b) → inside f a ≡ false
top_left w rs R now f s t q a b g =
    false_from_ne_true (inside f a) (λ e. let o = inside_over w rs (left_of w R s) (below q now) a f f g.2 g.1.0 e in omega arith)

pub top_right : {K T : Type 0} (w : Kinds K T) (rs : List (Request K)) (R : K → Bool) (now f : ℕ) (s : K) (t : T) (q : List Waiter) (a b : Tree K T) → Good w rs R now (node f s t q a b) → inside f b ≡ false
top_right w rs R now f s t q a b g =
    false_from_ne_true (inside f b) (λ e. let o = inside_over w rs (right_of w R s) (below q now) b f f g.3 g.1.1 e in omega arith)
