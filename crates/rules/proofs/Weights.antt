-- Joined weights of the keys that pass a test. Rests on Sets.
use Rattle.std.proofs.Common.{◌≡◌, Bool, true, false, cond, ◌&&◌, ◌||◌, List, [], ◌∷◌, sym, refl, ap, ◌∙◌, ap₂, arith}
use Rattle.rules.specs.Kinds.{Kinds, Lawful, same, before}
use Rattle.rules.specs.Plain.{Ascends, has, with_key, without_key, weight_of}
use Rattle.rules.proofs.Order.{same_refl, same_eq}
use Rattle.rules.proofs.Sets.{behind-has, has_all_behind, same_rows}

-- the keys of a row that pass a test
abbrev keep : {K : Type 0} → (K → Bool) → List K → List K
keep test [] = []
keep test (k ∷ ks) = cond (test k) (k ∷ keep test ks) (keep test ks)

module _ {K T : Type 0} (w : Kinds K T) (l : Lawful w) where
  -- what one key adds
  abbrev own : (K → Bool) → K → T
  own test k = cond (test k) (w.weighed k) w.none

  -- neutral from the other side
  pub neutral-right : (a : T) → w.joined a w.none ≡ a
  neutral-right a = l.commutative a w.none ∙ l.neutral a

  -- a join of four, the middle ones exchanged
  pub exchange : (a b c d : T) → w.joined (w.joined a b) (w.joined c d) ≡ w.joined (w.joined a c) (w.joined b d)
  exchange a b c d =
      let p = l.associative a b (w.joined c d) in
      let q = l.associative b c d in
      let r = l.commutative b c in
      let s = l.associative c b d in
      let t = l.associative a c (w.joined b d) in
      cc

  weight_keep : (test : K → Bool) (ks : List K) → weight_of w test ks ≡ weight_of w (λ k. true) (keep test ks)
  weight_keep test [] = refl
  weight_keep test (k ∷ ks) = go (weight_keep test ks) (test k)
    where
      go : weight_of w test ks ≡ weight_of w (λ k. true) (keep test ks) → (b : Bool) → w.joined (cond b (w.weighed k) w.none) (weight_of w test ks) ≡ weight_of w (λ k. true) (cond b (k ∷ keep test ks) (keep test ks))
      go ih true = ap (w.joined (w.weighed k)) ih
      go ih false = l.neutral (weight_of w test ks) ∙ ih

  has_keep : (test : K → Bool) (k : K) (ks : List K) → has w k (keep test ks) ≡ (test k && has w k ks)
  has_keep test k [] = grind arith
  has_keep test k (x ∷ xs) = let ih = has_keep test k xs in grind (arith, same_eq w l k x)

  ascends_keep : (test : K → Bool) (ks : List K) → Ascends w ks → Ascends w (keep test ks)
  ascends_keep test [] p = tt
  ascends_keep test (k ∷ ks) p = go (ascends_keep test ks p.1) (test k)
    where
      behind : (j : K) → has w j (keep test ks) ≡ true → before w k j ≡ true
      behind j e = let f = has_keep test j ks in behind-has w l k j ks p.0 (grind arith)

      go : Ascends w (keep test ks) → (b : Bool) → Ascends w (cond b (k ∷ keep test ks) (keep test ks))
      go ih true = (has_all_behind w l k (keep test ks) behind, ih)
      go ih false = ih

  -- rows that have the same keys among those that pass weigh the same
  pub weight_same_keys : (test : K → Bool) (ks js : List K) → Ascends w ks → Ascends w js → ((k : K) → test k ≡ true → has w k ks ≡ has w k js) → weight_of w test ks ≡ weight_of w test js
  weight_same_keys test ks js p q h =
      let a = weight_keep test ks in
      let b = weight_keep test js in
      let c =
      same_rows w l (keep test ks) (keep test js) (ascends_keep test ks p) (ascends_keep test js q)
      (λ k. let d = has_keep test k ks in let e = has_keep test k js in let f = h k in grind arith) in
      cc

  -- tests that agree on the keys of the row weigh the same
  pub weight_same_test : (a b : K → Bool) (ks : List K) → ((k : K) → has w k ks ≡ true → a k ≡ b k) → weight_of w a ks ≡ weight_of w b ks
  weight_same_test a b [] h = refl
  weight_same_test a b (k ∷ ks) h =
      let e : a k ≡ b k = h k (let f = same_refl w l k in grind arith) in
      let ih = weight_same_test a b ks (λ j f. h j (grind arith)) in
      ap₂ (λ c t. w.joined (cond c (w.weighed k) w.none) t) e ih

  -- a test that no key of the row passes weighs nothing
  pub weight_nothing : (test : K → Bool) (ks : List K) → ((k : K) → has w k ks ≡ true → test k ≡ false) → weight_of w test ks ≡ w.none
  weight_nothing test [] h = refl
  weight_nothing test (k ∷ ks) h =
      let e : test k ≡ false = h k (let f = same_refl w l k in grind arith) in
      let ih = weight_nothing test ks (λ j f. h j (grind arith)) in
      ap₂ (λ c t. w.joined (cond c (w.weighed k) w.none) t) e ih ∙ l.neutral w.none

  -- two tests that exclude each other join
  pub weight_union : (a b : K → Bool) (ks : List K) → ((k : K) → a k ≡ true → b k ≡ false) → weight_of w (λ k. a k || b k) ks ≡ w.joined (weight_of w a ks) (weight_of w b ks)
  weight_union a b [] h = sym (l.neutral w.none)
  weight_union a b (k ∷ ks) h =
      ap₂ w.joined (one (a k) (b k) (h k)) (weight_union a b ks h)
      ∙ exchange (own a k) (own b k) (weight_of w a ks) (weight_of w b ks)
    where
      one : (c d : Bool) → (c ≡ true → d ≡ false) → cond (c || d) (w.weighed k) w.none ≡ w.joined (cond c (w.weighed k) w.none) (cond d (w.weighed k) w.none)
      one true d e = rw (e refl) (sym (neutral-right (w.weighed k)))
      one false d e = sym (l.neutral (cond d (w.weighed k) w.none))

  -- one key alone passes and is there
  pub weight_one : (test : K → Bool) (j : K) (ks : List K) → Ascends w ks → test j ≡ true → ((k : K) → test k ≡ true → has w k ks ≡ same w k j) → weight_of w test ks ≡ w.weighed j
  weight_one test j ks p t h =
      weight_same_keys test ks (j ∷ []) p (tt, tt) (λ k e. let f = h k e in grind arith)
      ∙ ap (λ c. w.joined (cond c (w.weighed j) w.none) w.none) t
      ∙ neutral-right (w.weighed j)

  pub weight_with_key : (test : K → Bool) (k : K) (ks : List K) → Ascends w ks → has w k ks ≡ false → weight_of w test (with_key w k ks) ≡ w.joined (weight_of w test ks) (cond (test k) (w.weighed k) w.none)
  weight_with_key test k [] p n = l.commutative (own test k) w.none
  weight_with_key test k (x ∷ xs) p n =
      go (weight_with_key test k xs p.1) (w.le k x) (w.le x k) refl refl
    where
      go : (has w k xs ≡ false → weight_of w test (with_key w k xs) ≡ w.joined (weight_of w test xs) (own test k)) → (b c : Bool) → w.le k x ≡ b → w.le x k ≡ c → weight_of w test (with_key w k (x ∷ xs)) ≡ w.joined (weight_of w test (x ∷ xs)) (own test k)
      go ih true true e f = grind arith
      go ih true false e f = rw (e, f) (l.commutative (own test k) (weight_of w test (x ∷ xs)))
      go ih false c e f =
          let g = ih (grind arith) in
          rw e (ap (w.joined (own test x)) g ∙ sym (l.associative (own test x) (weight_of w test xs) (own test k)))

  pub weight_without_key : (test : K → Bool) (k : K) (ks : List K) → Ascends w ks → has w k ks ≡ true → weight_of w test (without_key w k ks) ≡ w.joined (weight_of w test ks) (cond (test k) (w.opposed (w.weighed k)) w.none)
  weight_without_key test k [] p n = grind arith
  weight_without_key test k (x ∷ xs) p n =
      go (weight_without_key test k xs p.1) (same w k x) refl
    where
      back : T
      back = cond (test k) (w.opposed (w.weighed k)) w.none

      undone : (b : Bool) → w.joined (cond b (w.weighed k) w.none) (cond b (w.opposed (w.weighed k)) w.none) ≡ w.none
      undone true = l.cancelling (w.weighed k)
      undone false = l.neutral w.none

      go : (has w k xs ≡ true → weight_of w test (without_key w k xs) ≡ w.joined (weight_of w test xs) back) → (b : Bool) → same w k x ≡ b → weight_of w test (without_key w k (x ∷ xs)) ≡ w.joined (weight_of w test (x ∷ xs)) back
      go ih true e =
          let here = same_eq w l k x e in
          let a = l.commutative (own test x) (weight_of w test xs) in
          let b = l.associative (weight_of w test xs) (own test x) back in
          let c = undone (test k) in
          let d = neutral-right (weight_of w test xs) in
          rw e (cc)
      go ih false e =
          let g = ih (grind arith) in
          rw e (ap (w.joined (own test x)) g ∙ sym (l.associative (own test x) (weight_of w test xs) back))
