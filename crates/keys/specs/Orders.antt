-- Orders by parts, and the questions that follow from "at most".
use Rattle.std.specs.Prelude.{ℕ, Bool, true, false, cond, not, List, [], ◌∷◌}
use Prim.Native.Nat.{compare, Ordering}

-- how a comparison of first parts and the answer for the rest make one answer
abbrev pub decide : Ordering → Bool → Bool
decide Ordering.lt rest = true
decide Ordering.eq rest = rest
decide Ordering.gt rest = false

-- at most, by the first parts, and where these are equal by the rest
abbrev pub by_first : ℕ → ℕ → Bool → Bool
by_first a b rest = decide (compare a b) rest

-- texts compared from the front; a beginning comes before its continuation
abbrev pub text_le : List ℕ → List ℕ → Bool
text_le [] ys = true
text_le (x ∷ xs) [] = false
text_le (x ∷ xs) (y ∷ ys) = by_first x y (text_le xs ys)

-- a comes before b
abbrev pub below : {K : Type 0} → (K → K → Bool) → K → K → Bool
below le a b = not (le b a)

-- the greater of two keys
abbrev pub greater : {K : Type 0} → (K → K → Bool) → K → K → K
greater le a b = cond (le a b) b a
