-- Sums over the requests up to one, and the sum that is enough. Assumes nothing.
use Rattle.std.proofs.Common.{◌≡◌, ℕ, zero, suc, ◌+◌, ◌*◌, ◌/◌, ◌≤◌, sym, refl, ap, ⊎_elim, arith}
use Rattle.std.proofs.lemmas.Bool.{cases_eq}

-- the terms for the numbers from 1 to t, summed
abbrev pub sum_to : (ℕ → ℕ) → ℕ → ℕ
sum_to f zero = 0
sum_to f (suc t) = sum_to f t + f (suc t)

-- terms that are no greater make a sum that is no greater
pub sum_mono : (f g : ℕ → ℕ) (t : ℕ) → ((i : ℕ) → 1 ≤ i → i ≤ t → g i ≤ f i) → sum_to g t ≤ sum_to f t
sum_mono f g zero h = omega arith
sum_mono f g (suc t) h =
    let ih = sum_mono f g t (λ i lo hi. h i lo (omega arith)) in
    let u = h (suc t) (omega arith) (omega arith) in
    omega arith

-- and if one of them is less by d, so is the sum
pub sum_fall : (f g : ℕ → ℕ) (t r d : ℕ) → 1 ≤ r → r ≤ t → ((i : ℕ) → 1 ≤ i → i ≤ t → (i ≡ r → ⊥) → g i ≤ f i) → g r + d ≤ f r → sum_to g t + d ≤ sum_to f t
sum_fall f g zero r d lo hi h u = absurd (omega arith)
sum_fall f g (suc t) r d lo hi h u =
    ⊎_elim
    (λ e. let last : g (suc t) + d ≤ f (suc t) = rw (← e) u in
    let rest = sum_mono f g t (λ i l m. h i l (omega arith) (λ same. absurd (omega arith))) in
    omega arith)
    (λ e. let ih = sum_fall f g t r d lo (omega arith) (λ i l m. h i l (omega arith)) u in
    let last = h (suc t) (omega arith) (omega arith) (λ same. e (sym same)) in
    omega arith)
    (cases_eq r (suc t))

-- one term is at most the sum
pub sum_one : (f : ℕ → ℕ) (t r : ℕ) → 1 ≤ r → r ≤ t → f r ≤ sum_to f t
sum_one f zero r lo hi = absurd (omega arith)
sum_one f (suc t) r lo hi =
    ⊎_elim
    (λ e. let same = ap f e in omega arith)
    (λ e. let ih = sum_one f t r lo (omega arith) in omega arith)
    (cases_eq r (suc t))

-- three times each number and one more, up to t
twice_all : (t : ℕ) → 2 * sum_to (λ r. 3 * r + 1) t ≡ 3 * t * (t + 1) + 2 * t
twice_all zero = refl
twice_all (suc t) = let ih = twice_all t in omega arith

pub sum_enough : (t : ℕ) → sum_to (λ r. 3 * r + 1) t ≡ 3 * t * (t + 1) / 2 + t
sum_enough t = let h = twice_all t in omega arith
