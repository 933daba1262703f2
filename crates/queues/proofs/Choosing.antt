-- One number chosen of several: it is one of them, and no other is better. Assumes nothing.
use Rattle.std.proofs.Common.{◌≡◌, ℕ, zero, suc, ◌<◌, ◌≤◌, min, max, ◌⊎◌, List, [], ◌∷◌, ◌++◌, map, Some, None, Option, sym, refl, ap, ◌∙◌, inl, inr, ⊎_elim, arith}
use Rattle.std.proofs.lemmas.Bool.{cases_lt}
use Rattle.queues.specs.Chosen.{either_by, chosen_by}
use Rattle.std.specs.List.{reduce, filter_map, cons_option}
use Rattle.std.specs.Option.{option_map}
use Rattle.std.proofs.lemmas.Iterator.Adapters.{option_map_id}
use Rattle.requests.specs.declared.station.Station.{Station}
use Rattle.requests.specs.Stations.{station_numbers}
use Rattle.std.proofs.lemmas.List.{append-nil}
use Rattle.std.proofs.lemmas.List.Sums.{fold-append}
use Rattle.std.proofs.lemmas.List.Elements.{filter_map-append}

-- a choice between two numbers: it takes one of them, and that is no worse than either
pub record Choice (choice : ℕ → ℕ → ℕ) (As-good : ℕ → ℕ → Type 0) : Type 0 where
  pub one : (a b : ℕ) → (choice a b ≡ a) ⊎ (choice a b ≡ b)
  pub left : (a b : ℕ) → As-good (choice a b) a
  pub right : (a b : ℕ) → As-good (choice a b) b
  pub self : (a : ℕ) → As-good a a
  pub through : (a b c : ℕ) → As-good a b → As-good b c → As-good a c

pub least : Choice min (λ a b. a ≤ b)
least = record {
  one = λ a b. ⊎_elim (λ h. inl (omega arith)) (λ h. inr (omega arith)) (cases_lt a b);
  left = λ a b. omega arith;
  right = λ a b. omega arith;
  self = λ a. omega arith;
  through = λ a b c h k. omega arith;
}

pub greatest : Choice max (λ a b. b ≤ a)
greatest = record {
  one = λ a b. ⊎_elim (λ h. inr (omega arith)) (λ h. inl (omega arith)) (cases_lt a b);
  left = λ a b. omega arith;
  right = λ a b. omega arith;
  self = λ a. omega arith;
  through = λ a b c h k. omega arith;
}

module _ {choice : ℕ → ℕ → ℕ} {As-good : ℕ → ℕ → Type 0} (h : Choice choice As-good) (number : ℕ → Option ℕ) where
  -- the number chosen is one of them
  pub chosen_among : (n t : ℕ) → chosen_by choice number n ≡ Some t → (m : ℕ) × (0 < m) × (m ≤ n) × (number m ≡ Some t)
  chosen_among zero t e = absurd (let z : ◌≡◌ {A = ℕ} 0 1 = cc in omega arith)
  chosen_among (suc n) t e = go (λ u. let ih = chosen_among n t u in (ih.0, ih.1, (let l = ih.2 in omega arith), ih.3)) (chosen_by choice number n) (number (suc n)) refl refl e
    where
      go : (chosen_by choice number n ≡ Some t → (m : ℕ) × (0 < m) × (m ≤ suc n) × (number m ≡ Some t)) → (a b : Option ℕ) → chosen_by choice number n ≡ a → number (suc n) ≡ b → either_by choice a b ≡ Some t → (m : ℕ) × (0 < m) × (m ≤ suc n) × (number m ≡ Some t)
      go before None b u v w = (suc n, omega arith, omega arith, v ∙ w)
      go before (Some a) None u v w = before (u ∙ w)
      go before (Some a) (Some b) u v w =
          ⊎_elim {C = (m : ℕ) × (0 < m) × (m ≤ suc n) × (number m ≡ Some t)}
          (λ is. before (u ∙ ap Some (sym is) ∙ w)) (λ is. (suc n, omega arith, omega arith, v ∙ ap Some (sym is) ∙ w)) (h.one a b)

  -- and no worse than any
  pub chosen_best : (n m x : ℕ) → 0 < m → m ≤ n → number m ≡ Some x → (t : ℕ) × (chosen_by choice number n ≡ Some t) × As-good t x
  chosen_best zero m x low high e = absurd (omega arith)
  chosen_best (suc n) m x low high e = ⊎_elim {C = (t : ℕ) × (chosen_by choice number (suc n) ≡ Some t) × As-good t x} (λ lt. before (chosen_best n m x low (omega arith) e)) (λ ge. here (let is : suc n ≡ m = omega arith in ap number is ∙ e)) (cases_lt m (suc n))
    where
      here : number (suc n) ≡ Some x → (t : ℕ) × (chosen_by choice number (suc n) ≡ Some t) × As-good t x
      here is = go (chosen_by choice number n) refl
        where
          go : (a : Option ℕ) → chosen_by choice number n ≡ a → (t : ℕ) × (chosen_by choice number (suc n) ≡ Some t) × As-good t x
          go None u = (x, ap (λ o. either_by choice o (number (suc n))) u ∙ is, h.self x)
          go (Some a) u = (choice a x, ap (λ o. either_by choice o (number (suc n))) u ∙ ap (λ o. either_by choice (Some a) o) is, h.right a x)

      before : (t : ℕ) × (chosen_by choice number n ≡ Some t) × As-good t x → (t : ℕ) × (chosen_by choice number (suc n) ≡ Some t) × As-good t x
      before (t, u, good) = go (number (suc n)) refl
        where
          go : (b : Option ℕ) → number (suc n) ≡ b → (t : ℕ) × (chosen_by choice number (suc n) ≡ Some t) × As-good t x
          go None v = (t, ap (λ o. either_by choice o (number (suc n))) u ∙ ap (λ o. either_by choice (Some t) o) v, good)
          go (Some b) v = (choice t b, ap (λ o. either_by choice o (number (suc n))) u ∙ ap (λ o. either_by choice (Some t) o) v, h.through (choice t b) t x (h.left t b) good)

-- the numbers from 1 to n, in order
abbrev pub upto : ℕ → List ℕ
upto zero = []
upto (suc n) = upto n ++ (suc n ∷ [])

-- the last of several is chosen by last
reduce_more : (choice : ℕ → ℕ → ℕ) (xs : List ℕ) (o : Option ℕ) → reduce choice (xs ++ cons_option o []) ≡ either_by choice (reduce choice xs) o
reduce_more choice [] None = refl
reduce_more choice [] (Some x) = refl
reduce_more choice (y ∷ ys) None = ap (reduce choice) (append-nil (y ∷ ys))
reduce_more choice (y ∷ ys) (Some x) = ap Some (fold-append choice y ys (x ∷ []))

-- what a chain over the numbers from 1 to n chooses
pub chosen_of : (choice : ℕ → ℕ → ℕ) (number : ℕ → Option ℕ) (n : ℕ) → reduce choice (filter_map number (upto n)) ≡ chosen_by choice number n
chosen_of choice number zero = refl
chosen_of choice number (suc n) =
    ap (reduce choice) (filter_map-append number (upto n) (suc n ∷ []))
    ∙ reduce_more choice (filter_map number (upto n)) (number (suc n))
    ∙ ap (λ o. either_by choice o (number (suc n))) (chosen_of choice number n)

filter_map-map : {X : Type 0} (f : X → ℕ) (number : ℕ → Option ℕ) (xs : List X) → filter_map (λ x. number (f x)) xs ≡ filter_map number (map f xs)
filter_map-map f number [] = refl
filter_map-map f number (x ∷ xs) = ap (cons_option (number (f x))) (filter_map-map f number xs)

-- what a chain over the eight stations chooses
pub chosen_of_all : (choice : ℕ → ℕ → ℕ) (number : ℕ → Option ℕ) (all : List Station) → map (λ s. s.number) all ≡ station_numbers → (r : Option ℕ)
    → option_map (λ x. x) r ≡ reduce choice (filter_map (λ s. number s.number) all) → r ≡ chosen_by choice number 8
chosen_of_all choice number all eight r is =
    sym (option_map_id r) ∙ is ∙ ap (reduce choice) (filter_map-map (λ s. s.number) number all) ∙ ap (λ ns. reduce choice (filter_map number ns)) eight ∙ chosen_of choice number 8
