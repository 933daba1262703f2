-- The plain set: what it has after a change, and that its rows ascend. Rests on Order.
use Rattle.std.proofs.Common.{◌≡◌, Bool, true, false, not, ◌&&◌, ◌||◌, List, [], ◌∷◌, ◌++◌, refl, ap₂, arith}
use Rattle.requests.specs.declared.request.Request.{Request}
use Rattle.requests.specs.declared.request.Request.TheVariants.{Enter, Withdraw, LookUp, Count}
use Rattle.rules.specs.Kinds.{Kinds, Lawful, same, before}
use Rattle.rules.specs.Plain.{Ascends, AllBehind, has, with_key, without_key, done, done_all, set_after}
use Rattle.rules.proofs.Order.{same_refl, same_eq, before_trans}

module _ {K T : Type 0} (w : Kinds K T) (l : Lawful w) where
  -- keys that stand behind b stand behind what is before b
  behind-before : (a b : K) (ks : List K) → before w a b ≡ true → AllBehind w b ks → AllBehind w a ks
  behind-before a b [] e h = tt
  behind-before a b (j ∷ js) e h = (before_trans w l a b j e h.0, behind-before a b js e h.1)

  -- a key that stands before a row is not in it
  pub has-behind : (k : K) (ks : List K) → AllBehind w k ks → has w k ks ≡ false
  has-behind k [] h = refl
  has-behind k (j ∷ js) h = let ih = has-behind k js h.1 in let e = h.0 in grind arith

  -- what a row has stands behind what is before the row
  pub behind-has : (k j : K) (ks : List K) → AllBehind w k ks → has w j ks ≡ true → before w k j ≡ true
  behind-has k j [] h e = grind arith
  behind-has k j (x ∷ xs) h e =
      let ih = behind-has k j xs h.1 in let f = h.0 in grind (arith, same_eq w l j x)

  -- and it is enough that all keys of the row do
  pub has_all_behind : (k : K) (ks : List K) → ((j : K) → has w j ks ≡ true → before w k j ≡ true) → AllBehind w k ks
  has_all_behind k [] h = tt
  has_all_behind k (x ∷ xs) h =
      (h x (let e = same_refl w l x in grind arith), has_all_behind k xs (λ j e. h j (grind arith)))

  pub has-with_key : (j k : K) (ks : List K) → has w j (with_key w k ks) ≡ (same w j k || has w j ks)
  has-with_key j k [] = refl
  has-with_key j k (x ∷ xs) = let ih = has-with_key j k xs in grind (arith, l.antisymmetric k x)

  pub has-without_key : (j k : K) (ks : List K) → Ascends w ks → has w j (without_key w k ks) ≡ (not (same w j k) && has w j ks)
  has-without_key j k [] h = grind arith
  has-without_key j k (x ∷ xs) h =
      let ih = has-without_key j k xs h.1 in
      let n = has-behind x xs h.0 in
      grind (arith, same_eq w l k x, same_eq w l j x)

  pub ascends_with_key : (k : K) (ks : List K) → Ascends w ks → Ascends w (with_key w k ks)
  ascends_with_key k [] h = (tt, tt)
  ascends_with_key k (x ∷ xs) h = go (ascends_with_key k xs h.1) (w.le k x) (w.le x k) refl refl
    where
      behind : w.le k x ≡ false → AllBehind w x (with_key w k xs)
      behind e =
          has_all_behind x (with_key w k xs)
          (λ j f.
          let g = has-with_key j k xs in
          let b = behind-has x j xs h.0 in
          grind (arith, same_eq w l j k))

      go : Ascends w (with_key w k xs) → (b c : Bool) → w.le k x ≡ b → w.le x k ≡ c → Ascends w (with_key w k (x ∷ xs))
      go ih true true e f = rw (e, f) h
      go ih true false e f =
          let g : before w k x ≡ true = grind arith in rw (e, f) ((g, behind-before k x xs g h.0), h)
      go ih false c e f = rw e (behind e, ih)

  pub ascends_without_key : (k : K) (ks : List K) → Ascends w ks → Ascends w (without_key w k ks)
  ascends_without_key k [] h = tt
  ascends_without_key k (x ∷ xs) h = go (ascends_without_key k xs h.1) (same w k x) refl
    where
      behind : AllBehind w x (without_key w k xs)
      behind =
          has_all_behind x (without_key w k xs)
          (λ j f. let g = has-without_key j k xs h.1 in let b = behind-has x j xs h.0 in grind arith)

      go : Ascends w (without_key w k xs) → (b : Bool) → same w k x ≡ b → Ascends w (without_key w k (x ∷ xs))
      go ih true e = rw e h.1
      go ih false e = rw e (behind, ih)

  pub ascends_done : (r : Request K) (ks : List K) → Ascends w ks → Ascends w (done w r ks)
  ascends_done (Enter k) ks h = ascends_with_key k ks h
  ascends_done (Withdraw k) ks h = ascends_without_key k ks h
  ascends_done (LookUp k) ks h = h
  ascends_done (Count lo hi) ks h = h

  ascends_done_all : (rs : List (Request K)) (ks : List K) → Ascends w ks → Ascends w (done_all w rs ks)
  ascends_done_all [] ks h = h
  ascends_done_all (r ∷ rs) ks h = ascends_done_all rs (done w r ks) (ascends_done r ks h)

  pub ascends_set_after : (rs : List (Request K)) → Ascends w (set_after w rs)
  ascends_set_after rs = ascends_done_all rs [] tt

  -- ascending rows with the same keys are equal
  pub same_rows : (ks js : List K) → Ascends w ks → Ascends w js → ((k : K) → has w k ks ≡ has w k js) → ks ≡ js
  same_rows [] [] p q h = refl
  same_rows [] (j ∷ js) p q h = let e = h j in let f = same_refl w l j in grind arith
  same_rows (k ∷ ks) [] p q h = let e = h k in let f = same_refl w l k in grind arith
  same_rows (k ∷ ks) (j ∷ js) p q h = ap₂ (λ x xs. x ∷ xs) first (same_rows ks js p.1 q.1 rest)
    where
      first : k ≡ j
      first =
          let a = h k in
          let b = h j in
          let c = behind-has k j ks p.0 in
          let d = behind-has j k js q.0 in
          grind (arith, l.reflexive k, l.reflexive j, l.total k j, same_eq w l k j)

      rest : (x : K) → has w x ks ≡ has w x js
      rest x =
          let a = h x in
          let b = has-behind k ks p.0 in
          let c = has-behind j js q.0 in
          let f = first in
          grind (arith, same_eq w l x k, same_eq w l x j)

  pub has_append : (k : K) (ks js : List K) → has w k (ks ++ js) ≡ (has w k ks || has w k js)
  has_append k [] js = refl
  has_append k (x ∷ xs) js = let ih = has_append k xs js in grind arith

  -- two ascending rows, the first before the second, join to one
  pub ascends_append : (ks js : List K) → Ascends w ks → Ascends w js → ((k j : K) → has w k ks ≡ true → has w j js ≡ true → before w k j ≡ true) → Ascends w (ks ++ js)
  ascends_append [] js p q h = q
  ascends_append (k ∷ ks) js p q h = (
    has_all_behind k (ks ++ js)
        (λ j e.
        let a = has_append j ks js in
        let b = behind-has k j ks p.0 in
        let c = h k j in
        let d = same_refl w l k in
        grind arith),
    ascends_append ks js p.1 q (λ x j e. h x j (grind arith)),
  )
