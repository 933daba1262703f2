-- A rising queue is known by who stands in it in which mode. Rests on SoundQueues.
use Rattle.std.proofs.Common.{◌≡◌, ℕ, ◌<◌, Bool, true, false, ◌&&◌, ◌||◌, eqb, List, [], ◌∷◌, ◌++◌, sym, refl, ap, ◌∙◌, ap₂, true≢false, arith}
use Rattle.std.proofs.lemmas.Bool.{eqb-true, or_right, and_parts}
use Rattle.rules.specs.declared.mode.Mode.{Mode}
use Rattle.rules.specs.States.{Waiter}
use Rattle.rules.specs.Sound.{same_mode, stands_in, Rises}
use Rattle.rules.proofs.Bools.{or_cases, or_false}
use Rattle.rules.proofs.SoundQueues.{mode_true, in_stands, head_stands, rises-above}

both_ways_true : (a b : Bool) → (a ≡ true → b ≡ true) → (b ≡ true → a ≡ true) → a ≡ b
both_ways_true true b f g = sym (f refl)
both_ways_true false true f g = g refl
both_ways_true false false f g = refl

-- who stands in a queue is its head or stands behind it
pub in_cases : {P : Type 0} (x : ℕ) (m : Mode) (e : Waiter) (q : List Waiter) → stands_in x m (e ∷ q) ≡ true → (e.number ≡ x → e.mode ≡ m → P) → (stands_in x m q ≡ true → P) → P
in_cases x m e q h here there =
    or_cases (eqb e.number x && same_mode e.mode m) (stands_in x m q) h
    (λ u. here (eqb-true e.number x (and_parts (eqb e.number x) (same_mode e.mode m) u).0) (mode_true e.mode m (and_parts (eqb e.number x) (same_mode e.mode m) u).1))
    there

-- one more at the end
pub in_append : (x : ℕ) (m : Mode) (q : List Waiter) (e : Waiter) → stands_in x m (q ++ (e ∷ [])) ≡ (stands_in x m q || (eqb e.number x && same_mode e.mode m))
in_append x m [] e = or_false (eqb e.number x && same_mode e.mode m)
in_append x m (y ∷ q) e = ap (λ b. (eqb y.number x && same_mode y.mode m) || b) (in_append x m q e) ∙ regroup (eqb y.number x && same_mode y.mode m) (stands_in x m q) (eqb e.number x && same_mode e.mode m)
  where
    regroup : (a b c : Bool) → (a || (b || c)) ≡ ((a || b) || c)
    regroup true b c = refl
    regroup false b c = refl

-- two rising queues in which the same stand in the same modes are one
pub rows_same : (lo lo' : ℕ) (a b : List Waiter) → Rises lo a → Rises lo' b → ((x : ℕ) (m : Mode) → stands_in x m a ≡ stands_in x m b) → a ≡ b
rows_same lo lo' [] [] u v h = refl
rows_same lo lo' [] (e ∷ b) u v h = absurd (true≢false (sym (h e.number e.mode ∙ head_stands e b)))
rows_same lo lo' (d ∷ a) [] u v h = absurd (true≢false (sym (head_stands d a) ∙ h d.number d.mode))
rows_same lo lo' (d ∷ a) (e ∷ b) u v h = ap₂ (λ x q. x ∷ q) one (rows_same d.number e.number a b u.1 v.1 rest)
  where
    above_d : (x : ℕ) (m : Mode) → stands_in x m a ≡ true → d.number < x
    above_d x m st = rises-above d.number x a u.1 (in_stands x m a st)

    above_e : (x : ℕ) (m : Mode) → stands_in x m b ≡ true → e.number < x
    above_e x m st = rises-above e.number x b v.1 (in_stands x m b st)

    of_d : stands_in d.number d.mode (e ∷ b) ≡ true
    of_d = sym (h d.number d.mode) ∙ head_stands d a

    of_e : stands_in e.number e.mode (d ∷ a) ≡ true
    of_e = h e.number e.mode ∙ head_stands e b

    one : d ≡ e
    one =
        in_cases d.number d.mode e b of_d
        (λ n m. ap₂ (λ i j. record { number = i; mode = j }) (sym n) (sym m))
        (λ far. let more = above_e d.number d.mode far in
        in_cases e.number e.mode d a of_e (λ n m. absurd (omega arith)) (λ back. let less = above_d e.number e.mode back in absurd (omega arith)))

    number_one : d.number ≡ e.number
    number_one = ap (λ x. x.number) one

    rest : (x : ℕ) (m : Mode) → stands_in x m a ≡ stands_in x m b
    rest x m =
        both_ways_true (stands_in x m a) (stands_in x m b)
        (λ st. let far = above_d x m st in let same = number_one in
        in_cases x m e b (sym (h x m) ∙ or_right (eqb d.number x && same_mode d.mode m) (stands_in x m a) st) (λ n k. absurd (omega arith)) (λ w. w))
        (λ st. let far = above_e x m st in let same = number_one in
        in_cases x m d a (h x m ∙ or_right (eqb e.number x && same_mode e.mode m) (stands_in x m b) st) (λ n k. absurd (omega arith)) (λ w. w))
