-- Rows with one entry written, and trees whose own entries are not. Rests on Trees.
use Rattle.std.proofs.Common.{◌≡◌, ℕ, true, false, eqb, List, Option, sym, refl, ap, ◌∙◌, true≢false, arith}
use Rattle.std.proofs.lemmas.Bool.{ne_eqb}
use Rattle.rules.specs.States.{Place, Waiter}
use Rattle.rules.specs.Changes.{put}
use Rattle.rules.proofs.Trees.{Tree, inside, Drawn, drawn_frame}

pub put-here : {X : Type 0} (f : ℕ → X) (n : ℕ) (x : X) → put f n x n ≡ x
put-here f n x = let e : eqb n n ≡ true = grind arith in rw e

pub put_other : {X : Type 0} (f : ℕ → X) (n : ℕ) (x : X) (i : ℕ) → eqb i n ≡ false → put f n x i ≡ f i
put_other f n x i e = rw e

module _ {K T : Type 0} where
  -- who hangs in a tree is not who does not
  pub inside_apart : (x : Tree K T) (i n : ℕ) → inside i x ≡ true → inside n x ≡ false → eqb i n ≡ false
  inside_apart x i n e f = ne_eqb i n (λ h. true≢false (sym e ∙ ap (λ j. inside j x) h ∙ f))

  pub drawn-put-place : (pl : ℕ → Option (Place K T)) (qu : ℕ → List Waiter) (x : Tree K T) (n : ℕ) (v : Option (Place K T)) → inside n x ≡ false → Drawn pl qu x → Drawn (put pl n v) qu x
  drawn-put-place pl qu x n v h d =
      drawn_frame pl (put pl n v) qu qu x (λ i e. (put_other pl n v i (inside_apart x i n e h), refl)) d

  pub drawn-put-queue : (pl : ℕ → Option (Place K T)) (qu : ℕ → List Waiter) (x : Tree K T) (n : ℕ) (u : List Waiter) → inside n x ≡ false → Drawn pl qu x → Drawn pl (put qu n u) x
  drawn-put-queue pl qu x n u h d =
      drawn_frame pl pl qu (put qu n u) x (λ i e. (refl, put_other qu n u i (inside_apart x i n e h))) d
