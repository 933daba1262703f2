-- Counting the numbers that pass a test, directly and by what each belongs to. Assumes nothing.
use Rattle.std.proofs.Common.{◌≡◌, ℕ, zero, suc, ◌+◌, ◌<◌, ◌≤◌, Bool, true, false, cond, not, ◌&&◌, eqb, leb, ◌≢◌, List, [], ◌∷◌, map, length, length-append, sym, refl, ap, ◌∙◌, ap₂, ⊎_elim, true≢false, arith}
use Rattle.std.proofs.lemmas.Bool.{cases_eq}
use Rattle.rules.specs.ReadOff.{all_from_one}
use Rattle.std.specs.Prelude.{filter}
use Rattle.requests.specs.declared.station.Station.{Station}
use Rattle.requests.specs.Stations.{station_numbers}
use Rattle.std.proofs.lemmas.List.Elements.{filter-append}
use Rattle.queues.specs.Finishing.{count_of}
use Rattle.queues.proofs.Choosing.{upto}

pub count_same : (f g : ℕ → Bool) (m : ℕ) → ((t : ℕ) → 0 < t → t ≤ m → f t ≡ g t) → count_of f m ≡ count_of g m
count_same f g zero h = refl
count_same f g (suc m) h = ap₂ (λ n b. n + cond b 1 0) (count_same f g m (λ t low high. h t low (omega arith))) (h (suc m) (omega arith) (omega arith))

pub count_none : (f : ℕ → Bool) (m : ℕ) → ((t : ℕ) → f t ≡ false) → count_of f m ≡ 0
count_none f zero h = refl
count_none f (suc m) h = let ih = count_none f m h in let e = h (suc m) in rw e (omega arith)

-- how many of the numbers from 1 to n a chain lets through
pub count_through : (test : ℕ → Bool) (n : ℕ) → length (filter test (upto n)) ≡ count_of test n
count_through test zero = refl
count_through test (suc n) =
    ap length (filter-append test (upto n) (suc n ∷ []))
    ∙ length-append (filter test (upto n)) (filter test (suc n ∷ []))
    ∙ ap₂ (λ a b. a + b) (count_through test n) (go (test (suc n)))
  where
    go : (b : Bool) → length (cond b (suc n ∷ []) []) ≡ cond b 1 0
    go true = refl
    go false = refl

filter-map : {X : Type 0} (f : X → ℕ) (test : ℕ → Bool) (xs : List X) → length (filter (λ x. test (f x)) xs) ≡ length (filter test (map f xs))
filter-map f test [] = refl
filter-map f test (x ∷ xs) = go (test (f x)) (filter-map f test xs)
  where
    go : (b : Bool) → length (filter (λ y. test (f y)) xs) ≡ length (filter test (map f xs)) → length (cond b (x ∷ filter (λ y. test (f y)) xs) (filter (λ y. test (f y)) xs)) ≡ length (cond b (f x ∷ filter test (map f xs)) (filter test (map f xs)))
    go true ih = omega arith
    go false ih = ih

-- how many of the eight stations a chain lets through
pub count_of_all : (test : ℕ → Bool) (all : List Station) → map (λ s. s.number) all ≡ station_numbers → (n : ℕ) → n ≡ length (filter (λ s. test s.number) all) → n ≡ count_of test 8
count_of_all test all eight n is = is ∙ filter-map (λ s. s.number) test all ∙ ap (λ ns. length (filter test ns)) eight ∙ count_through test 8

-- one more number passes
pub count_more : (f g : ℕ → Bool) (m x : ℕ) → 0 < x → x ≤ m → f x ≡ false → g x ≡ true → ((t : ℕ) → (t ≡ x → ⊥) → f t ≡ g t) → count_of g m ≡ count_of f m + 1
count_more f g zero x low high out now h = absurd (omega arith)
count_more f g (suc m) x low high out now h = ⊎_elim last (λ ne. before ne (count_more f g m x low (omega arith) out now h)) (cases_eq x (suc m))
  where
    last : x ≡ suc m → count_of g (suc m) ≡ count_of f (suc m) + 1
    last is =
        let same = count_same f g m (λ t l k. h t (λ e. omega arith)) in
        let u : f (suc m) ≡ false = ap f (sym is) ∙ out in
        let v : g (suc m) ≡ true = ap g (sym is) ∙ now in
        rw (u, v) (omega arith)

    before : (x ≡ suc m → ⊥) → count_of g m ≡ count_of f m + 1 → count_of g (suc m) ≡ count_of f (suc m) + 1
    before ne ih = let e : f (suc m) ≡ g (suc m) = h (suc m) (λ is. ne (sym is)) in rw e (omega arith)

-- all pass where none fails
pub all_count : (test : ℕ → Bool) (n : ℕ) → all_from_one test n ≡ eqb (count_of (λ t. not (test t)) n) 0
all_count test zero = refl
all_count test (suc n) = let ih = all_count test n in go ih (test (suc n)) refl
  where
    go : all_from_one test n ≡ eqb (count_of (λ t. not (test t)) n) 0 → (b : Bool) → test (suc n) ≡ b → all_from_one test (suc n) ≡ eqb (count_of (λ t. not (test t)) (suc n)) 0
    go ih true e = rw (e, ih) (grind arith)
    go ih false e = rw (e, ih) (grind arith)

-- numbers that pass a test, each belonging to one place: of those that belong to the first n places, there are as many as places to which one belongs
module _ (filled passes : ℕ → Bool) (home : ℕ → ℕ) (m : ℕ)
    (low : (t : ℕ) → passes t ≡ true → 0 < home t)
    (back : (t : ℕ) → passes t ≡ true → filled (home t) ≡ true)
    (only : (n : ℕ) → filled n ≡ true → (t : ℕ) × (0 < t) × (t ≤ m) × (passes t ≡ true) × (home t ≡ n) × ((u : ℕ) → passes u ≡ true → home u ≡ n → u ≡ t)) where
  abbrev first : ℕ → ℕ → Bool
  first n t = passes t && leb (home t) n

  -- a number that does not belong to the next place
  next : (n t : ℕ) → (passes t ≡ true → home t ≡ suc n → ⊥) → first n t ≡ first (suc n) t
  next n t ne = go (passes t) refl
    where
      at : home t ≢ suc n → leb (home t) n ≡ leb (home t) (suc n)
      at apart = grind arith

      go : (b : Bool) → passes t ≡ b → first n t ≡ first (suc n) t
      go true e = rw e (at (ne e))
      go false e = rw e

  none : (t : ℕ) → first 0 t ≡ false
  none t = go (passes t) refl
    where
      zero_out : 0 < home t → leb (home t) 0 ≡ false
      zero_out l = grind arith

      go : (b : Bool) → passes t ≡ b → first 0 t ≡ false
      go true e = rw e (zero_out (low t e))
      go false e = rw e

  count_by : (n : ℕ) → count_of filled n ≡ count_of (first n) m
  count_by zero = sym (count_none (first 0) m none)
  count_by (suc n) = go (count_by n) (filled (suc n)) refl
    where
      go : count_of filled n ≡ count_of (first n) m → (b : Bool) → filled (suc n) ≡ b → count_of filled (suc n) ≡ count_of (first (suc n)) m
      go ih true e =
          let v = only (suc n) e in
          let here : leb (home v.0) (suc n) ≡ true = let is = v.4 in grind arith in
          let past : leb (home v.0) n ≡ false = let is = v.4 in grind arith in
          let out : first n v.0 ≡ false = ap (λ b. b && leb (home v.0) n) v.3 ∙ past in
          let now : first (suc n) v.0 ≡ true = ap (λ b. b && leb (home v.0) (suc n)) v.3 ∙ here in
          let more = count_more (first n) (first (suc n)) m v.0 v.1 v.2 out now (λ t ne. next n t (λ p is. ne (v.5 t p is))) in
          rw e (omega arith)
      go ih false e =
          let same = count_same (first n) (first (suc n)) m (λ t l k. next n t (λ p is. true≢false (sym (back t p) ∙ ap filled is ∙ e))) in
          rw e (omega arith)

  -- where all belong to the first n places
  pub count_all : (n : ℕ) → ((t : ℕ) → passes t ≡ true → home t ≤ n) → count_of filled n ≡ count_of passes m
  count_all n high = count_by n ∙ count_same (first n) passes m (λ t l k. go t (passes t) refl)
    where
      within : (t : ℕ) → home t ≤ n → leb (home t) n ≡ true
      within t h = grind arith

      go : (t : ℕ) (b : Bool) → passes t ≡ b → first n t ≡ passes t
      go t true e = rw e (within t (high t e))
      go t false e = rw e
