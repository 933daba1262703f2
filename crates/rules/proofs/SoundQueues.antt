-- Rising queues, who stands in them in which mode, and rows with one entry written. Rests on Joins.
use Rattle.std.proofs.Common.{◌≡◌, ℕ, ◌<◌, ◌≤◌, Bool, true, false, ◌&&◌, eqb, ◌⊎◌, List, [], ◌∷◌, ◌++◌, sym, refl, ◌∙◌, inl, inr, true≢false, arith}
use Rattle.std.proofs.lemmas.Bool.{eqb-true, eqb-false, eq-eqb, or_left, or_right, and_parts}
use Rattle.rules.specs.declared.mode.Mode.{Mode}
use Rattle.rules.specs.declared.mode.Mode.TheVariants.{Between, From, Upto}
use Rattle.rules.specs.States.{Waiter}
use Rattle.rules.specs.Queues.{stands, behind}
use Rattle.rules.specs.Changes.{put}
use Rattle.rules.specs.Sound.{same_mode, stands_in, Rises}
use Rattle.rules.proofs.Bools.{both_true, or_cases}
use Rattle.rules.proofs.Joins.{stands_append}

-- what holds of the entry written and of the old one holds of the row's
pub put_cases : {X : Type 0} (f : ℕ → X) (n : ℕ) (x : X) (i : ℕ) (P : X → Type 0) → (i ≡ n → P x) → ((i ≡ n → ⊥) → P (f i)) → P (put f n x i)
put_cases f n x i P here there = go (eqb i n) refl
  where
    go : (b : Bool) → eqb i n ≡ b → P (put f n x i)
    go true e = rw e (here (eqb-true i n e))
    go false e = rw e (there (eqb-false i n e))

pub mode_true : (a b : Mode) → same_mode a b ≡ true → a ≡ b
mode_true Between Between e = refl
mode_true Between From e = absurd (true≢false (sym e))
mode_true Between Upto e = absurd (true≢false (sym e))
mode_true From Between e = absurd (true≢false (sym e))
mode_true From From e = refl
mode_true From Upto e = absurd (true≢false (sym e))
mode_true Upto Between e = absurd (true≢false (sym e))
mode_true Upto From e = absurd (true≢false (sym e))
mode_true Upto Upto e = refl

pub mode_self : (m : Mode) → same_mode m m ≡ true
mode_self Between = refl
mode_self From = refl
mode_self Upto = refl

-- who stands in a queue in a mode stands there
pub in_stands : (x : ℕ) (m : Mode) (q : List Waiter) → stands_in x m q ≡ true → stands x q ≡ true
in_stands x m [] h = h
in_stands x m (e ∷ q) h =
    or_cases (eqb e.number x && same_mode e.mode m) (stands_in x m q) h
    (λ u. or_left (eqb e.number x) (stands x q) (and_parts (eqb e.number x) (same_mode e.mode m) u).0)
    (λ u. or_right (eqb e.number x) (stands x q) (in_stands x m q u))

-- who stands in a queue stands there in some mode
pub stands_some : (x : ℕ) (q : List Waiter) → stands x q ≡ true → (m : Mode) × (stands_in x m q ≡ true)
stands_some x [] h = absurd (true≢false (sym h))
stands_some x (e ∷ q) h =
    or_cases {P = (m : Mode) × (stands_in x m (e ∷ q) ≡ true)} (eqb e.number x) (stands x q) h
    (λ u. (e.mode, or_left (eqb e.number x && same_mode e.mode e.mode) (stands_in x e.mode q) (both_true {a = eqb e.number x} u (mode_self e.mode))))
    (λ u. let v = stands_some x q u in (v.0, or_right (eqb e.number x && same_mode e.mode v.0) (stands_in x v.0 q) v.1))

-- the head stands in its mode
pub head_stands : (e : Waiter) (q : List Waiter) → stands_in e.number e.mode (e ∷ q) ≡ true
head_stands e q =
    or_left (eqb e.number e.number && same_mode e.mode e.mode) (stands_in e.number e.mode q)
    (both_true {a = eqb e.number e.number} (eq-eqb e.number e.number refl) (mode_self e.mode))

-- who joins at the end, and who stood before
pub stands-joined : (x : ℕ) (q : List Waiter) (e : Waiter) → stands x (q ++ (e ∷ [])) ≡ true → (stands x q ≡ true) ⊎ (e.number ≡ x)
stands-joined x q e h =
    or_cases {P = (stands x q ≡ true) ⊎ (e.number ≡ x)} (stands x q) (eqb e.number x) (sym (stands_append x q e) ∙ h)
    (λ u. inl u) (λ u. inr (eqb-true e.number x u))

pub in_joined : (x : ℕ) (m : Mode) (q : List Waiter) (e : Waiter) → stands_in x m (q ++ (e ∷ [])) ≡ true → (stands_in x m q ≡ true) ⊎ ((e.number ≡ x) × (e.mode ≡ m))
in_joined x m [] e h =
    let both : (eqb e.number x && same_mode e.mode m) ≡ true = or_cases (eqb e.number x && same_mode e.mode m) false h (λ u. u) (λ u. absurd (true≢false (sym u))) in
    inr (eqb-true e.number x (and_parts (eqb e.number x) (same_mode e.mode m) both).0, mode_true e.mode m (and_parts (eqb e.number x) (same_mode e.mode m) both).1)
in_joined x m (y ∷ q) e h =
    or_cases {P = (stands_in x m (y ∷ q) ≡ true) ⊎ ((e.number ≡ x) × (e.mode ≡ m))} (eqb y.number x && same_mode y.mode m) (stands_in x m (q ++ (e ∷ []))) h
    (λ u. inl (or_left (eqb y.number x && same_mode y.mode m) (stands_in x m q) u))
    (λ u. further (in_joined x m q e u))
  where
    further : (stands_in x m q ≡ true) ⊎ ((e.number ≡ x) × (e.mode ≡ m)) → (stands_in x m (y ∷ q) ≡ true) ⊎ ((e.number ≡ x) × (e.mode ≡ m))
    further (inl v) = inl (or_right (eqb y.number x && same_mode y.mode m) (stands_in x m q) v)
    further (inr v) = inr v

-- numbers rise
pub rises-above : (lo x : ℕ) (q : List Waiter) → Rises lo q → stands x q ≡ true → lo < x
rises-above lo x [] r h = absurd (true≢false (sym h))
rises-above lo x (e ∷ q) r h =
    or_cases (eqb e.number x) (stands x q) h
    (λ u. let same = eqb-true e.number x u in omega (arith, r.0))
    (λ u. let far = rises-above e.number x q r.1 u in omega (arith, r.0))

pub rises-down : (lo lo' : ℕ) (q : List Waiter) → lo' ≤ lo → Rises lo q → Rises lo' q
rises-down lo lo' [] h r = tt
rises-down lo lo' (e ∷ q) h r = (omega (arith, r.0), r.1)

-- one who is above all others joins at the end
pub rises-joined : (lo : ℕ) (q : List Waiter) (e : Waiter) → Rises lo q → lo < e.number → ((x : ℕ) → stands x q ≡ true → x < e.number) → Rises lo (q ++ (e ∷ []))
rises-joined lo [] e r h all = (h, tt)
rises-joined lo (y ∷ q) e r h all =
    (r.0, rises-joined y.number q e r.1 (all y.number (or_left (eqb y.number y.number) (stands y.number q) (eq-eqb y.number y.number refl))) (λ x u. all x (or_right (eqb y.number x) (stands x q) u)))

-- without its head a queue is as it was
pub behind-stands : (x : ℕ) (q : List Waiter) → stands x (behind q) ≡ true → stands x q ≡ true
behind-stands x [] h = h
behind-stands x (e ∷ q) h = or_right (eqb e.number x) (stands x q) h

pub behind_in : (x : ℕ) (m : Mode) (q : List Waiter) → stands_in x m (behind q) ≡ true → stands_in x m q ≡ true
behind_in x m [] h = h
behind_in x m (e ∷ q) h = or_right (eqb e.number x && same_mode e.mode m) (stands_in x m q) h

pub behind-rises : (lo : ℕ) (q : List Waiter) → Rises lo q → Rises lo (behind q)
behind-rises lo [] r = tt
behind-rises lo (e ∷ q) r = rises-down e.number lo q (omega (arith, r.0)) r.1
