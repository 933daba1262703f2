-- The plain set at a time: after the first m requests. Rests on Sets and Weights.
use Rattle.std.proofs.Common.{◌≡◌, ℕ, zero, suc, ◌<◌, ◌≤◌, Bool, true, false, cond, not, ◌&&◌, ◌||◌, List, [], ◌∷◌, ◌++◌, length, take, Some, None, Option, sym, refl, ap, ◌∙◌, ⊎_elim, arith, take_all}
use lib.Seq.{take-append-le}
use Rattle.std.proofs.lemmas.Bool.{cases_lt}
use Rattle.requests.specs.declared.request.Request.{Request}
use Rattle.requests.specs.declared.request.Request.TheVariants.{Enter, Withdraw, LookUp, Count}
use Rattle.rules.specs.Kinds.{Kinds, Lawful, same}
use Rattle.rules.specs.Plain.{Ascends, has, done, done_all, set_after, weight_of}
use Rattle.rules.specs.Queues.{numbered}
use Rattle.rules.specs.Carries.{says}
use Rattle.rules.proofs.Sets.{has-with_key, has-without_key, ascends_set_after}
use Rattle.rules.proofs.Weights.{weight_same_keys}

-- requests have the numbers from 1 to their count
pub numbered_some : {X : Type 0} (xs : List X) (t : ℕ) → 0 < t → t ≤ length xs → (x : X) × (numbered xs t ≡ Some x)
numbered_some [] t h k = absurd (omega arith)
numbered_some (x ∷ xs) zero h k = absurd (omega arith)
numbered_some (x ∷ xs) (suc zero) h k = (x, refl)
numbered_some (x ∷ xs) (suc (suc t)) h k = numbered_some xs (suc t) (omega arith) (omega arith)

pub numbered_within : {X : Type 0} (xs : List X) (t : ℕ) (x : X) → numbered xs t ≡ Some x → (0 < t) × (t ≤ length xs)
numbered_within [] t x e = absurd cc
numbered_within (y ∷ xs) zero x e = absurd cc
numbered_within (y ∷ xs) (suc zero) x e = (omega arith, omega arith)
numbered_within (y ∷ xs) (suc (suc t)) x e = let ih = numbered_within xs (suc t) x e in (omega arith, omega arith)

pub numbered_append : {X : Type 0} (xs : List X) (y : X) (t : ℕ) → t ≤ length xs → numbered (xs ++ (y ∷ [])) t ≡ numbered xs t
numbered_append [] y zero h = refl
numbered_append [] y (suc t) h = absurd (omega arith)
numbered_append (x ∷ xs) y zero h = refl
numbered_append (x ∷ xs) y (suc zero) h = refl
numbered_append (x ∷ xs) y (suc (suc t)) h = numbered_append xs y (suc t) (omega arith)

pub numbered-last : {X : Type 0} (xs : List X) (y : X) → numbered (xs ++ (y ∷ [])) (suc (length xs)) ≡ Some y
numbered-last [] y = refl
numbered-last (x ∷ xs) y = numbered-last xs y

module _ {K T : Type 0} (w : Kinds K T) where
  -- the set after the first m requests
  abbrev pub set_at : List (Request K) → ℕ → List K
  set_at rs m = set_after w (take m rs)

  -- whether it has a key
  abbrev pub present : List (Request K) → ℕ → K → Bool
  present rs m k = has w k (set_at rs m)

  -- the joined weights of its keys that pass a test
  abbrev pub weight_at : (K → Bool) → List (Request K) → ℕ → T
  weight_at test rs m = weight_of w test (set_at rs m)

  -- what was said, or what was before
  abbrev pub told : Option Bool → Bool → Bool
  told None old = old
  told (Some d) old = d

  -- the requests numbered above a and up to b change no key that passes the test
  abbrev pub Quiet : List (Request K) → (K → Bool) → ℕ → ℕ → Type 0
  Quiet rs test a b =
      (i : ℕ) (r : Request K) → a < i → i ≤ b → numbered rs i ≡ Some r → (k : K) → test k ≡ true → says w k r ≡ None

module _ {K T : Type 0} (w : Kinds K T) (l : Lawful w) where
  pub ascends_at : (rs : List (Request K)) (m : ℕ) → Ascends w (set_at w rs m)
  ascends_at rs m = ascends_set_after w l (take m rs)

  done_next : (rs : List (Request K)) (m : ℕ) (r : Request K) (ks : List K) → numbered rs (suc m) ≡ Some r → done_all w (take (suc m) rs) ks ≡ done w r (done_all w (take m rs) ks)
  done_next [] m r ks e = absurd cc
  done_next (x ∷ rs) zero r ks e = let f : x ≡ r = cc in ap (λ y. done w y ks) f
  done_next (x ∷ rs) (suc m) r ks e = done_next rs m r (done w x ks) e

  pub set_at_next : (rs : List (Request K)) (m : ℕ) (r : Request K) → numbered rs (suc m) ≡ Some r → set_at w rs (suc m) ≡ done w r (set_at w rs m)
  set_at_next rs m r e = done_next rs m r [] e

  -- a request more changes no earlier time
  pub set_at_append : (rs : List (Request K)) (r : Request K) (m : ℕ) → m ≤ length rs → set_at w (rs ++ (r ∷ [])) m ≡ set_at w rs m
  set_at_append rs r m h = ap (set_after w) (take-append-le m rs (r ∷ []) h)

  -- past the last request nothing changes
  pub set-at_end : (rs : List (Request K)) (m : ℕ) → length rs ≤ m → set_at w rs m ≡ set_after w rs
  set-at_end rs m h = ap (set_after w) (take_all m rs h)

  pub present_none : (rs : List (Request K)) (k : K) → present w rs 0 k ≡ false
  present_none rs k = refl

  has_done : (r : Request K) (k : K) (ks : List K) → Ascends w ks → has w k (done w r ks) ≡ told w (says w k r) (has w k ks)
  has_done (Enter j) k ks h = has-with_key w l k j ks ∙ one (same w k j) (has w k ks)
    where
      one : (b old : Bool) → (b || old) ≡ told w (cond b (Some true) None) old
      one true old = refl
      one false old = refl
  has_done (Withdraw j) k ks h = has-without_key w l k j ks h ∙ one (same w k j) (has w k ks)
    where
      one : (b old : Bool) → (not b && old) ≡ told w (cond b (Some false) None) old
      one true old = refl
      one false old = refl
  has_done (LookUp j) k ks h = refl
  has_done (Count lo hi) k ks h = refl

  -- a request that says something of a key settles it, any other leaves it
  pub present_next : (rs : List (Request K)) (m : ℕ) (r : Request K) (k : K) → numbered rs (suc m) ≡ Some r → present w rs (suc m) k ≡ told w (says w k r) (present w rs m k)
  present_next rs m r k e =
      ap (has w k) (set_at_next rs m r e) ∙ has_done r k (set_at w rs m) (ascends_at rs m)

  -- one request that says nothing of a key leaves it
  present_same : (rs : List (Request K)) (m : ℕ) (k : K) → suc m ≤ length rs → ((r : Request K) → numbered rs (suc m) ≡ Some r → says w k r ≡ None) → present w rs (suc m) k ≡ present w rs m k
  present_same rs m k h q =
      let r = numbered_some rs (suc m) (omega arith) h in
      present_next rs m r.0 k r.1 ∙ ap (λ o. told w o (present w rs m k)) (q r.0 r.1)

  pub present_quiet : (rs : List (Request K)) (test : K → Bool) (a b : ℕ) → a ≤ b → b ≤ length rs → Quiet w rs test a b → (k : K) → test k ≡ true → present w rs b k ≡ present w rs a k
  present_quiet rs test a zero h n q k t = let e : a ≡ 0 = omega arith in ap (λ m. present w rs m k) (sym e)
  present_quiet rs test a (suc b) h n q k t =
      ⊎_elim
      (λ u.
      present_same rs b k n (λ r e. q (suc b) r u (omega arith) e k t)
      ∙ present_quiet rs test a b (omega arith) (omega arith) (λ i r c d. q i r c (omega arith)) k t)
      (λ u. let e : a ≡ suc b = omega arith in ap (λ m. present w rs m k) (sym e))
      (cases_lt a (suc b))

  pub weight_quiet : (rs : List (Request K)) (test : K → Bool) (a b : ℕ) → a ≤ b → b ≤ length rs → Quiet w rs test a b → weight_at w test rs b ≡ weight_at w test rs a
  weight_quiet rs test a b h n q =
      weight_same_keys w l test (set_at w rs b) (set_at w rs a) (ascends_at rs b) (ascends_at rs a) (present_quiet rs test a b h n q)
