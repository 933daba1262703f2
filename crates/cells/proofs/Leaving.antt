-- A request leaves a queue or joins one: what its cell's waits make of every queue. Rests on Rosters.
use Rattle.std.proofs.Common.{◌≡◌, ℕ, zero, suc, ◌+◌, ◌<◌, ◌≤◌, Bool, true, false, cond, ◌&&◌, ◌||◌, eqb, List, [], ◌∷◌, ◌++◌, set, Some, None, Option, sym, refl, ap, ◌∙◌, true≢false, arith}
use Rattle.std.proofs.lemmas.Bool.{eqb-true}
use Rattle.rules.specs.Queues.{behind, heads, numbered, stands}
use Rattle.rules.specs.Sound.{stands_in, same_mode, Rises}
use Rattle.rules.specs.States.{Waiter}
use Rattle.rules.specs.declared.mode.Mode.{Mode}
use Rattle.rules.proofs.SoundQueues.{mode_self}
use Rattle.cells.specs.declared.waits.Waits.{Waits}
use Rattle.cells.specs.declared.waits.Waits.TheVariants.{Nowhere, Between, From, Upto, Halves}
use Rattle.cells.specs.Rosters.{mode_at, waiter_if, roster, waits_without, removed}
use Rattle.cells.proofs.Rosters.{Nobody, behind_index}

-- a request that left p waits there no more, and elsewhere as before
pub without_mode : (w : Waits) (p q : ℕ) → mode_at (waits_without w p) q ≡ cond (eqb q p) None (mode_at w q)
without_mode Nowhere p q = grind arith
without_mode (Between a) p q = grind arith
without_mode (From a) p q = grind arith
without_mode (Upto a) p q = grind arith
without_mode (Halves a b) p q = grind arith

-- all who stand in a roster have numbers from its start on
pub roster_from : (p t : ℕ) (xs : List Waits) (x : ℕ) → stands x (roster p t xs) ≡ true → t ≤ x
roster_from p t [] x st = absurd (true≢false (sym st))
roster_from p t (y ∷ ys) x st = go (roster_from p (suc t) ys x) (mode_at y p) st
  where
    split : (stands x (roster p (suc t) ys) ≡ true → suc t ≤ x) → (b : Bool) → eqb t x ≡ b → (b || stands x (roster p (suc t) ys)) ≡ true → t ≤ x
    split ih true is v = let e = eqb-true t x is in omega arith
    split ih false is v = let l = ih v in omega arith

    go : (stands x (roster p (suc t) ys) ≡ true → suc t ≤ x) → (o : Option Mode) → stands x (waiter_if t o ++ roster p (suc t) ys) ≡ true → t ≤ x
    go ih None u = let l = ih u in omega arith
    go ih (Some m) u = split ih (eqb t x) refl u

-- rosters rise
pub roster-rises : (lo p t : ℕ) (xs : List Waits) → lo < t → Rises lo (roster p t xs)
roster-rises lo p t [] h = tt
roster-rises lo p t (y ∷ ys) h = go (roster-rises lo p (suc t) ys (omega arith)) (roster-rises t p (suc t) ys (omega arith)) (mode_at y p)
  where
    go : Rises lo (roster p (suc t) ys) → Rises t (roster p (suc t) ys) → (o : Option Mode) → Rises lo (waiter_if t o ++ roster p (suc t) ys)
    go far near None = far
    go far near (Some m) = (h, near)

-- a queue where a request does not stand
removed-none : (t lo : ℕ) (q : List Waiter) → Rises lo q → t ≤ lo → removed t q ≡ q
removed-none t lo [] r h = refl
removed-none t lo (e ∷ q) r h =
    let ne : eqb e.number t ≡ false = let l = r.0 in grind arith in
    ap (λ b. cond b (removed t q) (e ∷ removed t q)) ne ∙ ap (λ v. e ∷ v) (removed-none t e.number q r.1 (let l = r.0 in omega arith))

-- the head leaves: the rest stands behind it
pub removed_head : (t lo : ℕ) (q : List Waiter) → Rises lo q → heads t q ≡ true → removed t q ≡ behind q
removed_head t lo [] r h = refl
removed_head t lo (e ∷ q) r h =
    let is = eqb-true e.number t h in
    ap (λ b. cond b (removed t q) (e ∷ removed t q)) h ∙ removed-none t e.number q r.1 (omega arith)

-- leaving p in the cell is leaving p's queue
pub roster-removed : (p t : ℕ) (xs : List Waits) (i : ℕ) (x : Waits) → numbered xs (suc i) ≡ Some x → roster p t (set xs i (waits_without x p)) ≡ removed (t + i) (roster p t xs)
roster-removed p t [] i x e = refl
roster-removed p t (z ∷ zs) zero x e =
    let is : z ≡ x = cc in
    let here : t + 0 ≡ t = omega arith in
    let own : eqb p p ≡ true = grind arith in
    ap (λ o. waiter_if t o ++ roster p (suc t) zs) (without_mode x p p ∙ ap (λ b. cond b None (mode_at x p)) own)
    ∙ sym (ap (λ n. removed n (waiter_if t (mode_at z p) ++ roster p (suc t) zs)) here ∙ go (mode_at z p))
  where
    rest : removed t (roster p (suc t) zs) ≡ roster p (suc t) zs
    rest = removed-none t t (roster p (suc t) zs) (roster-rises t p (suc t) zs (omega arith)) (omega arith)

    go : (o : Option Mode) → removed t (waiter_if t o ++ roster p (suc t) zs) ≡ roster p (suc t) zs
    go None = rest
    go (Some m) = let own : eqb t t ≡ true = grind arith in ap (λ b. cond b (removed t (roster p (suc t) zs)) (record { number = t; mode = m } ∷ removed t (roster p (suc t) zs))) own ∙ rest
roster-removed p t (z ∷ zs) (suc i) x e =
    let ih = roster-removed p (suc t) zs i x e in
    let far : suc t + i ≡ t + suc i = omega arith in
    ap (λ q. waiter_if t (mode_at z p) ++ q) (ih ∙ ap (λ n. removed n (roster p (suc t) zs)) far) ∙ sym (go (mode_at z p))
  where
    go : (o : Option Mode) → removed (t + suc i) (waiter_if t o ++ roster p (suc t) zs) ≡ waiter_if t o ++ removed (t + suc i) (roster p (suc t) zs)
    go None = refl
    go (Some m) = let ne : eqb t (t + suc i) ≡ false = grind arith in ap (λ b. cond b (removed (t + suc i) (roster p (suc t) zs)) (record { number = t; mode = m } ∷ removed (t + suc i) (roster p (suc t) zs))) ne

-- who waits at p by its cell stands in p's roster
pub roster_in : (p t : ℕ) (xs : List Waits) (i : ℕ) (x : Waits) (m : Mode) → numbered xs (suc i) ≡ Some x → mode_at x p ≡ Some m → stands_in (t + i) m (roster p t xs) ≡ true
roster_in p t [] i x m e w = absurd (let z : ◌≡◌ {A = ℕ} 0 1 = cc in omega arith)
roster_in p t (z ∷ zs) zero x m e w =
    let is : z ≡ x = cc in
    let own : eqb t (t + 0) ≡ true = grind arith in
    ap (λ o. stands_in (t + 0) m (waiter_if t o ++ roster p (suc t) zs)) (ap (λ v. mode_at v p) is ∙ w)
    ∙ ap (λ b. (b && same_mode m m) || stands_in (t + 0) m (roster p (suc t) zs)) own
    ∙ ap (λ b. b || stands_in (t + 0) m (roster p (suc t) zs)) (mode_self m)
roster_in p t (z ∷ zs) (suc i) x m e w = go (ap (λ n. stands_in n m (roster p (suc t) zs)) far ∙ roster_in p (suc t) zs i x m e w) (mode_at z p)
  where
    far : t + suc i ≡ suc t + i
    far = omega arith

    go : stands_in (t + suc i) m (roster p (suc t) zs) ≡ true → (o : Option Mode) → stands_in (t + suc i) m (waiter_if t o ++ roster p (suc t) zs) ≡ true
    go ih None = ih
    go ih (Some v) = ap (λ b. (eqb t (t + suc i) && same_mode v m) || b) ih ∙ either (eqb t (t + suc i) && same_mode v m)
      where
        either : (b : Bool) → (b || true) ≡ true
        either true = refl
        either false = refl

-- who stands further on in a roster stands in it
later : (z : Waits) (p t : ℕ) (zs : List Waits) (x : ℕ) → stands x (roster p (suc t) zs) ≡ true → stands x (roster p t (z ∷ zs)) ≡ true
later z p t zs x st = go (mode_at z p)
  where
    go : (o : Option Mode) → stands x (waiter_if t o ++ roster p (suc t) zs) ≡ true
    go None = st
    go (Some m) = ap (λ b. eqb t x || b) st ∙ either (eqb t x)
      where
        either : (b : Bool) → (b || true) ≡ true
        either true = refl
        either false = refl

-- an empty roster has nobody
all : (p t : ℕ) (zs : List Waits) → ((x : ℕ) → stands x (roster p t zs) ≡ true → ⊥) → Nobody p zs
all p t [] h = tt
all p t (z ∷ zs) h = (here (mode_at z p) refl, all p (suc t) zs (λ x st. h x (later z p t zs x st)))
  where
    here : (o : Option Mode) → mode_at z p ≡ o → mode_at z p ≡ None
    here None e = e
    here (Some m) e = absurd (h t (ap (λ o. stands t (waiter_if t o ++ roster p (suc t) zs)) e ∙ ap (λ b. b || stands t (roster p (suc t) zs)) (let own : eqb t t ≡ true = grind arith in own)))

-- where all who wait have numbers below t + i, nobody of a higher number waits
pub nobody_behind : (p t : ℕ) (xs : List Waits) (i : ℕ) → ((x : ℕ) → stands x (roster p t xs) ≡ true → x < t + i) → Nobody p (behind_index i xs)
nobody_behind p t [] i h = tt
nobody_behind p t (z ∷ zs) zero h = all p (suc t) zs (λ x st. let l = h x (later z p t zs x st) in let g = roster_from p (suc t) zs x st in omega arith)
nobody_behind p t (z ∷ zs) (suc i) h = nobody_behind p (suc t) zs i (λ x st. let l = h x (later z p t zs x st) in omega arith)
