-- Rows by number, from 1, with one entry written. Assumes nothing.
use Rattle.std.proofs.Common.{◌≡◌, ℕ, zero, suc, ◌<◌, false, cond, eqb, List, [], ◌∷◌, ◌++◌, map, length, set, Some, None, sym, refl, ap, ◌∙◌, arith}
use Rattle.std.specs.Option.{option_map}
use Rattle.std.specs.Prelude.{slice_get}
use Rattle.rules.specs.Queues.{numbered}

-- numbers are compared without their first step
eqb_suc : (a b : ℕ) → eqb (suc a) (suc b) ≡ eqb a b
eqb_suc a b = grind arith

-- a number that has an entry is at most their number
pub numbered_bound : {X : Type 0} (xs : List X) (i : ℕ) (x : X) → numbered xs (suc i) ≡ Some x → i < length xs
numbered_bound [] i x e = absurd (let z : ◌≡◌ {A = ℕ} 0 1 = cc in omega arith)
numbered_bound (y ∷ ys) zero x e = omega arith
numbered_bound (y ∷ ys) (suc i) x e = let ih = numbered_bound ys i x e in omega arith

-- no row has a number 0
pub numbered_zero : {X : Type 0} (xs : List X) → numbered xs 0 ≡ None
numbered_zero [] = refl
numbered_zero (x ∷ xs) = refl

-- the entry of a number stands one before it
pub numbered-get : {X : Type 0} (xs : List X) (i : ℕ) → numbered xs (suc i) ≡ slice_get xs i
numbered-get [] i = refl
numbered-get (x ∷ xs) zero = refl
numbered-get (x ∷ xs) (suc i) = numbered-get xs i

-- the entry of a number after a write
pub numbered-set : {X : Type 0} (xs : List X) (i : ℕ) (y : X) (j : ℕ) → i < length xs → numbered (set xs i y) j ≡ cond (eqb j (suc i)) (Some y) (numbered xs j)
numbered-set [] i y j h = absurd (omega arith)
numbered-set (x ∷ xs) zero y zero h = let e : eqb 0 1 ≡ false = refl in refl
numbered-set (x ∷ xs) zero y (suc zero) h = refl
numbered-set (x ∷ xs) zero y (suc (suc j)) h = let e : eqb (suc (suc j)) (suc zero) ≡ false = grind arith in rw e
numbered-set (x ∷ xs) (suc i) y zero h = let e : eqb 0 (suc (suc i)) ≡ false = grind arith in rw e
numbered-set (x ∷ xs) (suc i) y (suc zero) h = let e : eqb (suc zero) (suc (suc i)) ≡ false = grind arith in rw e
numbered-set (x ∷ xs) (suc i) y (suc (suc j)) h =
    numbered-set xs i y (suc j) (omega arith) ∙ ap (λ b. cond b (Some y) (numbered xs (suc j))) (sym (eqb_suc (suc j) (suc i)))

pub numbered-map : {X Y : Type 0} (f : X → Y) (xs : List X) (j : ℕ) → numbered (map f xs) j ≡ option_map f (numbered xs j)
numbered-map f [] j = refl
numbered-map f (x ∷ xs) zero = refl
numbered-map f (x ∷ xs) (suc zero) = refl
numbered-map f (x ∷ xs) (suc (suc j)) = numbered-map f xs (suc j)

-- a write that changes nothing of what is looked at
pub map_set_same : {X Y : Type 0} (f : X → Y) (xs : List X) (i : ℕ) (x y : X) → numbered xs (suc i) ≡ Some x → f x ≡ f y → map f (set xs i y) ≡ map f xs
map_set_same f [] i x y e same = refl
map_set_same f (z ∷ zs) zero x y e same = let is : z ≡ x = cc in ap (λ v. v ∷ map f zs) (sym same ∙ ap f (sym is))
map_set_same f (z ∷ zs) (suc i) x y e same = ap (λ q. f z ∷ q) (map_set_same f zs i x y e same)

-- the same, entry by entry
pub mapped_set-same : {X Y : Type 0} (f : X → Y) (xs : List X) (i : ℕ) (x y : X) (j : ℕ) → numbered xs (suc i) ≡ Some x → f x ≡ f y → option_map f (numbered (set xs i y) j) ≡ option_map f (numbered xs j)
mapped_set-same f xs i x y j e same =
    sym (numbered-map f (set xs i y) j) ∙ ap (λ v. numbered v j) (map_set_same f xs i x y e same) ∙ numbered-map f xs j

-- one entry more
pub numbered_more : {X : Type 0} (xs : List X) (y : X) (j : ℕ) → numbered (xs ++ (y ∷ [])) j ≡ cond (eqb j (suc (length xs))) (Some y) (numbered xs j)
numbered_more [] y zero = refl
numbered_more [] y (suc zero) = refl
numbered_more [] y (suc (suc j)) = let e : eqb (suc (suc j)) (suc zero) ≡ false = grind arith in rw e
numbered_more (x ∷ xs) y zero = let e : eqb 0 (suc (suc (length xs))) ≡ false = grind arith in rw e
numbered_more (x ∷ xs) y (suc zero) = let e : eqb (suc zero) (suc (suc (length xs))) ≡ false = grind arith in rw e
numbered_more (x ∷ xs) y (suc (suc j)) =
    numbered_more xs y (suc j) ∙ ap (λ b. cond b (Some y) (numbered xs (suc j))) (sym (eqb_suc (suc j) (suc (length xs))))
