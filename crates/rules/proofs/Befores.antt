-- The plain set just before a request, by the request's number. Rests on Times.
use Rattle.std.proofs.Common.{◌≡◌, ℕ, zero, suc, pred, ◌<◌, ◌≤◌, Bool, true, false, List, [], ◌∷◌, ◌++◌, length, Some, None, ap, ◌∙◌, ⊎_elim, arith}
use Rattle.std.proofs.lemmas.Bool.{cases_lt}
use Rattle.requests.specs.declared.request.Request.{Request}
use Rattle.requests.specs.declared.request.Request.TheVariants.{Enter, Withdraw}
use Rattle.rules.specs.Kinds.{Kinds, Lawful}
use Rattle.rules.specs.Plain.{has, done, set_before, weight_of}
use Rattle.rules.specs.Queues.{numbered}
use Rattle.rules.specs.Carries.{says}
use Rattle.rules.proofs.Times.{told, numbered_within}
use Rattle.rules.proofs.Times as times
use Rattle.rules.proofs.Weights as weights

module _ {K T : Type 0} (w : Kinds K T) where
  -- whether the set had a key just before request t
  abbrev pub was : List (Request K) → ℕ → K → Bool
  was rs t k = has w k (set_before w rs t)

  -- the joined weights of its keys that passed a test
  abbrev pub weight_before : (K → Bool) → List (Request K) → ℕ → T
  weight_before test rs t = weight_of w test (set_before w rs t)

  -- request i changes nothing of a key
  abbrev pub Unmoved : List (Request K) → ℕ → K → Type 0
  Unmoved rs i k = was rs (suc i) k ≡ was rs i k

  -- the requests from a up to and without b change no key that passes the test
  abbrev pub Still : List (Request K) → (K → Bool) → ℕ → ℕ → Type 0
  Still rs test a b = (i : ℕ) → a ≤ i → i < b → (k : K) → test k ≡ true → Unmoved rs i k

module _ {K T : Type 0} (w : Kinds K T) (l : Lawful w) (rs : List (Request K)) where
  pub set_next : (t : ℕ) (r : Request K) → numbered rs t ≡ Some r → set_before w rs (suc t) ≡ done w r (set_before w rs t)
  set_next zero r e = let h = numbered_within rs zero r e in absurd (omega arith)
  set_next (suc m) r e = times.set_at_next w l rs m r e

  -- a request that says something of a key settles it, any other leaves it
  pub was_next : (t : ℕ) (r : Request K) (k : K) → numbered rs t ≡ Some r → was w rs (suc t) k ≡ told w (says w k r) (was w rs t k)
  was_next zero r k e = let h = numbered_within rs zero r e in absurd (omega arith)
  was_next (suc m) r k e = times.present_next w l rs m r k e

  -- a request that says nothing of a key leaves it
  pub unmoved_silent : (t : ℕ) (r : Request K) (k : K) → numbered rs t ≡ Some r → says w k r ≡ None → Unmoved w rs t k
  unmoved_silent t r k e none = was_next t r k e ∙ ap (λ v. told w v (was w rs t k)) none

  -- a key that no request of a stretch changes is as it was
  pub was_steady : (k : K) (a b : ℕ) → a ≤ b → ((i : ℕ) → a ≤ i → i < b → Unmoved w rs i k) → was w rs b k ≡ was w rs a k
  was_steady k a zero h q = let none : 0 ≡ a = omega arith in ap (λ i. was w rs i k) none
  was_steady k a (suc b) h q =
      ⊎_elim
      (λ lt. q b (omega arith) (omega arith) ∙ was_steady k a b (omega arith) (λ i u v. q i u (omega arith)))
      (λ ge. let all : suc b ≡ a = omega arith in ap (λ i. was w rs i k) all)
      (cases_lt a (suc b))

  pub was_still : (test : K → Bool) (a b : ℕ) → a ≤ b → Still w rs test a b → (k : K) → test k ≡ true → was w rs b k ≡ was w rs a k
  was_still test a b h q k t = was_steady k a b h (λ i u v. q i u v k t)

  pub weight_still : (test : K → Bool) (a b : ℕ) → a ≤ b → Still w rs test a b → weight_before w test rs b ≡ weight_before w test rs a
  weight_still test a b h q =
      weights.weight_same_keys w l test (set_before w rs b) (set_before w rs a) (times.ascends_at w l rs (pred b)) (times.ascends_at w l rs (pred a)) (λ k t. was_still test a b h q k t)

  -- a part of a stretch, and a smaller region
  pub still_part : (test : K → Bool) (a b c d : ℕ) → a ≤ c → d ≤ b → Still w rs test a b → Still w rs test c d
  still_part test a b c d h n q = λ i u v. q i (omega arith) (omega arith)

  pub still_within : (big small : K → Bool) (a b : ℕ) → ((k : K) → small k ≡ true → big k ≡ true) → Still w rs big a b → Still w rs small a b
  still_within big small a b h q = λ i u v k t. q i u v k (h k t)

  pub weight_entered : (test : K → Bool) (t : ℕ) (k : K) → numbered rs t ≡ Some (Enter k) → was w rs t k ≡ false → test k ≡ true → weight_before w test rs (suc t) ≡ w.joined (weight_before w test rs t) (w.weighed k)
  weight_entered test t k e n h =
      ap (weight_of w test) (set_next t (Enter k) e) ∙ weights.weight_with_key w l test k (set_before w rs t) (times.ascends_at w l rs (pred t)) n ∙ rw h

  pub weight_withdrawn : (test : K → Bool) (t : ℕ) (k : K) → numbered rs t ≡ Some (Withdraw k) → was w rs t k ≡ true → test k ≡ true → weight_before w test rs (suc t) ≡ w.joined (weight_before w test rs t) (w.opposed (w.weighed k))
  weight_withdrawn test t k e n h =
      ap (weight_of w test) (set_next t (Withdraw k) e) ∙ weights.weight_without_key w l test k (set_before w rs t) (times.ascends_at w l rs (pred t)) n ∙ rw h

-- a request more changes nothing before it
pub before_append : {K T : Type 0} (w : Kinds K T) (l : Lawful w) (rs : List (Request K)) (r : Request K) (t : ℕ) → t ≤ suc (length rs) → set_before w (rs ++ (r ∷ [])) t ≡ set_before w rs t
before_append w l rs r zero h = times.set_at_append w l rs r zero (omega arith)
before_append w l rs r (suc m) h = times.set_at_append w l rs r m (omega arith)
