-- Queues as rosters: who joins with the highest number comes last, who has the lowest leaves first. Assumes nothing.
use Rattle.std.proofs.Common.{◌≡◌, ℕ, zero, suc, ◌+◌, List, [], ◌∷◌, ◌++◌, length, set, Some, None, sym, refl, ap, ◌∙◌, append_assoc, arith}
use Rattle.std.proofs.lemmas.List.{append-nil}
use Rattle.rules.specs.Queues.{behind, numbered}
use Rattle.rules.specs.declared.mode.Mode.{Mode}
use Rattle.cells.specs.declared.waits.Waits.{Waits}
use Rattle.cells.specs.Rosters.{mode_at, waiter_if, roster}

-- one request more
pub roster_more : (p t : ℕ) (xs : List Waits) (y : Waits) → roster p t (xs ++ (y ∷ [])) ≡ roster p t xs ++ waiter_if (t + length xs) (mode_at y p)
roster_more p t [] y = append-nil (waiter_if t (mode_at y p)) ∙ ap (λ n. waiter_if n (mode_at y p)) (omega arith)
roster_more p t (x ∷ xs) y =
    let ih = roster_more p (suc t) xs y in
    let same : suc t + length xs ≡ t + length (x ∷ xs) = omega arith in
    ap (λ q. waiter_if t (mode_at x p) ++ q) (ih ∙ ap (λ n. roster p (suc t) xs ++ waiter_if n (mode_at y p)) same)
    ∙ sym (append_assoc (waiter_if t (mode_at x p)) (roster p (suc t) xs) (waiter_if (t + length (x ∷ xs)) (mode_at y p)))

-- a request that waits at p neither before nor after leaves p's queue as it is
pub roster-same : (p t : ℕ) (xs : List Waits) (i : ℕ) (x y : Waits) → numbered xs (suc i) ≡ Some x → mode_at x p ≡ mode_at y p → roster p t (set xs i y) ≡ roster p t xs
roster-same p t [] i x y e same = refl
roster-same p t (z ∷ zs) zero x y e same =
    let is : z ≡ x = cc in ap (λ m. waiter_if t m ++ roster p (suc t) zs) (sym same ∙ ap (λ v. mode_at v p) (sym is))
roster-same p t (z ∷ zs) (suc i) x y e same = ap (λ q. waiter_if t (mode_at z p) ++ q) (roster-same p (suc t) zs i x y e same)

-- nobody from t on waits at p
abbrev pub Nobody : ℕ → List Waits → Type 0
Nobody p [] = Unit {0}
Nobody p (x ∷ xs) = (mode_at x p ≡ None) × Nobody p xs

nobody_roster : (p t : ℕ) (xs : List Waits) → Nobody p xs → roster p t xs ≡ []
nobody_roster p t [] h = refl
nobody_roster p t (x ∷ xs) h = ap (λ m. waiter_if t m ++ roster p (suc t) xs) h.0 ∙ nobody_roster p (suc t) xs h.1

-- the requests behind index i, and those before it
abbrev pub behind_index : ℕ → List Waits → List Waits
behind_index i [] = []
behind_index zero (x ∷ xs) = xs
behind_index (suc i) (x ∷ xs) = behind_index i xs

abbrev pub before_index : ℕ → List Waits → List Waits
before_index i [] = []
before_index zero (x ∷ xs) = []
before_index (suc i) (x ∷ xs) = x ∷ before_index i xs

-- who did not wait at p and joins it, with nobody of a higher number there, comes last
pub roster_joins : (p t : ℕ) (xs : List Waits) (i : ℕ) (x y : Waits) (m : Mode) → numbered xs (suc i) ≡ Some x → mode_at x p ≡ None → mode_at y p ≡ Some m → Nobody p (behind_index i xs)
    → roster p t (set xs i y) ≡ roster p t xs ++ (record { number = t + i; mode = m } ∷ [])
roster_joins p t [] i x y m e out now h = absurd (let z : ◌≡◌ {A = ℕ} 0 1 = cc in omega arith)
roster_joins p t (z ∷ zs) zero x y m e out now h =
    let is : z ≡ x = cc in
    let none = nobody_roster p (suc t) zs h in
    let first : t ≡ t + 0 = omega arith in
    ap (λ o. waiter_if t o ++ roster p (suc t) zs) now
    ∙ ap (λ q. record { number = t; mode = m } ∷ q) none
    ∙ ap (λ n. record { number = n; mode = m } ∷ []) first
    ∙ sym (ap (λ o. (waiter_if t o ++ roster p (suc t) zs) ++ (record { number = t + 0; mode = m } ∷ [])) (ap (λ v. mode_at v p) is ∙ out) ∙ ap (λ q. q ++ (record { number = t + 0; mode = m } ∷ [])) none)
roster_joins p t (z ∷ zs) (suc i) x y m e out now h =
    let ih = roster_joins p (suc t) zs i x y m e out now h in
    let same : suc t + i ≡ t + suc i = omega arith in
    ap (λ q. waiter_if t (mode_at z p) ++ q) (ih ∙ ap (λ n. roster p (suc t) zs ++ (record { number = n; mode = m } ∷ [])) same)
    ∙ sym (append_assoc (waiter_if t (mode_at z p)) (roster p (suc t) zs) (record { number = t + suc i; mode = m } ∷ []))

-- who waits at p with nobody of a lower number there is its head, and leaves it
pub roster-leaves : (p t : ℕ) (xs : List Waits) (i : ℕ) (x y : Waits) (m : Mode) → numbered xs (suc i) ≡ Some x → mode_at x p ≡ Some m → mode_at y p ≡ None → Nobody p (before_index i xs)
    → roster p t (set xs i y) ≡ behind (roster p t xs)
roster-leaves p t [] i x y m e was out h = refl
roster-leaves p t (z ∷ zs) zero x y m e was out h =
    let is : z ≡ x = cc in
    ap (λ o. waiter_if t o ++ roster p (suc t) zs) out
    ∙ sym (ap (λ o. behind (waiter_if t o ++ roster p (suc t) zs)) (ap (λ v. mode_at v p) is ∙ was))
roster-leaves p t (z ∷ zs) (suc i) x y m e was out h =
    let ih = roster-leaves p (suc t) zs i x y m e was out h.1 in
    ap (λ o. waiter_if t o ++ roster p (suc t) (set zs i y)) h.0 ∙ ih ∙ sym (ap (λ o. behind (waiter_if t o ++ roster p (suc t) zs)) h.0)
