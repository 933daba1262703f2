-- How many places a request may still come to: the places below where it waits, and the places that are not made yet. Rests on Insides.
use Rattle.std.proofs.Common.{◌≡◌, ℕ, zero, suc, pred, ◌+◌, ◌<◌, ◌≤◌, Bool, true, false, cond, not, ◌&&◌, ◌||◌, eqb, ltb, leb, List, [], ◌∷◌, sym, refl, ap, ◌∙◌, true≢false, arith}
use Rattle.std.proofs.lemmas.Bool.{and_parts, eqb-true, false_from_ne_true}
use Rattle.requests.specs.declared.request.Request.{Request}
use Rattle.rules.specs.Kinds.{Kinds}
use Rattle.rules.specs.States.{Waiter}
use Rattle.rules.specs.Queues.{stands}
use Rattle.rules.proofs.Bools.{or_cases}
use Rattle.rules.proofs.Trees.{Tree, bare, leaf, node, inside}
use Rattle.rules.proofs.Goods.{below, Lined, Over, left_of, right_of, Good}
use Rattle.rules.proofs.Later.{lined_below}
use Rattle.rules.proofs.Joins.{stands-between}
use Rattle.rules.proofs.Insides.{inside_maker, inside_over, makers_apart}
use Rattle.rules.proofs.Pends.{waiting}

abbrev pub one_if : Bool → ℕ
one_if b = cond b 1 0

-- how many numbers from 1 to below r pass a test
abbrev pub cnt : (ℕ → Bool) → ℕ → ℕ
cnt P zero = 0
cnt P (suc zero) = 0
cnt P (suc (suc n)) = one_if (P (suc n)) + cnt P (suc n)

if_split : (b : Bool) → one_if b + one_if (not b) ≡ 1
if_split true = refl
if_split false = refl

if_union : (a b : Bool) → (a && b) ≡ false → one_if (a || b) ≡ one_if a + one_if b
if_union true true e = absurd (true≢false e)
if_union true false e = refl
if_union false b e = omega arith

if_mono : (a b : Bool) → (a ≡ true → b ≡ true) → one_if a ≤ one_if b
if_mono true b h = rw (h refl) (omega arith)
if_mono false b h = omega arith

-- every number passes a test or fails it
pub cnt_split : (P : ℕ → Bool) (r : ℕ) → cnt P r + cnt (λ i. not (P i)) r ≡ pred r
cnt_split P zero = refl
cnt_split P (suc zero) = refl
cnt_split P (suc (suc n)) = let ih : cnt P (suc n) + cnt (λ i. not (P i)) (suc n) ≡ n = cnt_split P (suc n) in let h = if_split (P (suc n)) in omega arith

pub cnt_union : (P Q : ℕ → Bool) (r : ℕ) → ((i : ℕ) → (P i && Q i) ≡ false) → cnt (λ i. P i || Q i) r ≡ cnt P r + cnt Q r
cnt_union P Q zero d = refl
cnt_union P Q (suc zero) d = refl
cnt_union P Q (suc (suc n)) d = let ih = cnt_union P Q (suc n) d in let h = if_union (P (suc n)) (Q (suc n)) (d (suc n)) in omega arith

pub cnt_mono : (P Q : ℕ → Bool) (r : ℕ) → ((i : ℕ) → P i ≡ true → Q i ≡ true) → cnt P r ≤ cnt Q r
cnt_mono P Q zero h = omega arith
cnt_mono P Q (suc zero) h = omega arith
cnt_mono P Q (suc (suc n)) h = let ih = cnt_mono P Q (suc n) h in let u = if_mono (P (suc n)) (Q (suc n)) (h (suc n)) in omega arith

pub cnt_none : (r : ℕ) → cnt (λ _. false) r ≡ 0
cnt_none zero = refl
cnt_none (suc zero) = refl
cnt_none (suc (suc n)) = let ih = cnt_none (suc n) in omega arith

if_next : (p n : ℕ) → one_if (eqb n p) + one_if (ltb p n) ≡ one_if (ltb p (suc n))
if_next p n = grind arith

pub cnt_one : (p r : ℕ) → 0 < p → cnt (λ i. eqb i p) r ≡ one_if (ltb p r)
cnt_one p zero h = grind arith
cnt_one p (suc zero) h = grind arith
cnt_one p (suc (suc n)) h = let ih = cnt_one p (suc n) h in let u = if_next p (suc n) in omega arith

module _ {K T : Type 0} where
  -- how many places of a tree have a number below r
  abbrev pub nodes_below : ℕ → Tree K T → ℕ
  nodes_below r bare = 0
  nodes_below r (leaf k) = 0
  nodes_below r (node p s t q a b) = one_if (ltb p r) + (nodes_below r a + nodes_below r b)

  -- the places with numbers below r in the trees under the places where r waits
  abbrev pub reach : ℕ → Tree K T → ℕ
  reach r bare = 0
  reach r (leaf k) = 0
  reach r (node p s t q a b) =
      cond (stands r q) (one_if (ltb p r) + (nodes_below r a + nodes_below r b)) (reach r a + reach r b)

  -- the numbers below r of which no place hangs in a tree
  abbrev pub unmade : ℕ → Tree K T → ℕ
  unmade r x = cnt (λ i. not (inside i x)) r

  -- how often request r may still move, in a tree that requests enter one by one at that time
  abbrev pub visits : ℕ → ℕ → Tree K T → ℕ
  visits time r x = cond (leb time r) r (cond (waiting r x) (reach r x + unmade r x) 0)

  pub reach_below : (r : ℕ) (x : Tree K T) → reach r x ≤ nodes_below r x
  reach_below r bare = omega arith
  reach_below r (leaf k) = omega arith
  reach_below r (node p s t q a b) = go (reach_below r a) (reach_below r b) (stands r q)
    where
      go : reach r a ≤ nodes_below r a → reach r b ≤ nodes_below r b → (c : Bool)
          → cond c (one_if (ltb p r) + (nodes_below r a + nodes_below r b)) (reach r a + reach r b) ≤ one_if (ltb p r) + (nodes_below r a + nodes_below r b)
      go one two true = omega arith
      go one two false = omega arith

  -- nothing to reach where a request does not wait
  pub reach_none : (r : ℕ) (x : Tree K T) → waiting r x ≡ false → reach r x ≡ 0
  reach_none r bare e = refl
  reach_none r (leaf k) e = refl
  reach_none r (node p s t q a b) e =
      let one = reach_none r a (grind arith) in
      let two = reach_none r b (grind arith) in
      let out : stands r q ≡ false = grind arith in
      rw out (omega arith)

-- nobody below the head's number stands in a queue
pub not_standing : (i lo : ℕ) (q : List Waiter) (t : ℕ) → Lined lo q t → i < below q t → stands i q ≡ false
not_standing i lo [] t d h = refl
not_standing i lo (e ∷ q) t d h =
    let other : eqb e.number i ≡ false = grind arith in
    let later : i < below q t = let far = lined_below e.number q t d.1 in omega (arith, far.0) in
    let ih = not_standing i e.number q t d.1 later in
    grind arith

module _ {K T : Type 0} (w : Kinds K T) (rs : List (Request K)) where
  -- all that wait in a tree come before its time
  pub waiting-before : (R : K → Bool) (now : ℕ) (x : Tree K T) (i : ℕ) → Good w rs R now x → waiting i x ≡ true → i < now
  waiting-before R now bare i g e = absurd (true≢false (sym e))
  waiting-before R now (leaf k) i g e = absurd (true≢false (sym e))
  waiting-before R now (node p s t q a b) i g e =
      let one = waiting-before (left_of w R s) (below q now) a i g.2 in
      let two = waiting-before (right_of w R s) (below q now) b i g.3 in
      let far = lined_below p q now g.0.lined in
      or_cases (stands i q) (waiting i a || waiting i b) e
      (λ h. (stands-between i p q now g.0.lined h).1)
      (λ h. or_cases (waiting i a) (waiting i b) h (λ u. omega (arith, one u, far.1)) (λ u. omega (arith, two u, far.1)))

  -- who waits below a place does not stand in its queue
  pub not-above : (R : K → Bool) (now : ℕ) (p : ℕ) (s : K) (t : T) (q : List Waiter) (a b : Tree K T) (i : ℕ)
      → Good w rs R now (node p s t q a b) → (waiting i a || waiting i b) ≡ true → stands i q ≡ false
  not-above R now p s t q a b i g e =
      not_standing i p q now g.0.lined
      (or_cases (waiting i a) (waiting i b) e
      (waiting-before (left_of w R s) (below q now) a i g.2)
      (waiting-before (right_of w R s) (below q now) b i g.3))

  -- a request that waits has a place to come to: the one where it waits
  pub reach_some : (R : K → Bool) (now : ℕ) (x : Tree K T) (i : ℕ) → Good w rs R now x → waiting i x ≡ true → 1 ≤ reach i x
  reach_some R now bare i g e = absurd (true≢false (sym e))
  reach_some R now (leaf k) i g e = absurd (true≢false (sym e))
  reach_some R now (node p s t q a b) i g e =
      go (reach_some (left_of w R s) (below q now) a i g.2) (reach_some (right_of w R s) (below q now) b i g.3) (stands i q) refl
    where
      go : (waiting i a ≡ true → 1 ≤ reach i a) → (waiting i b ≡ true → 1 ≤ reach i b) → (c : Bool) → stands i q ≡ c → 1 ≤ reach i (node p s t q a b)
      go one two true f =
          let lower = stands-between i p q now g.0.lined f in
          let lt : ltb p i ≡ true = grind (arith, lower.0) in
          rw (f, lt) (omega arith)
      go one two false f =
          let rest : (waiting i a || waiting i b) ≡ true = ap (λ v. v || (waiting i a || waiting i b)) (sym f) ∙ e in
          rw f (or_cases (waiting i a) (waiting i b) rest (λ u. omega (arith, one u)) (λ u. omega (arith, two u)))

  -- places counted in the tree are places counted by their numbers: none hangs twice
  pub nodes_counted : (R : K → Bool) (now : ℕ) (x : Tree K T) (lo r : ℕ) → Good w rs R now x → Over lo x → nodes_below r x ≡ cnt (λ i. inside i x) r
  nodes_counted R now bare lo r g o = sym (cnt_none r)
  nodes_counted R now (leaf k) lo r g o = sym (cnt_none r)
  nodes_counted R now (node p s t q a b) lo r g o =
      let one = nodes_counted (left_of w R s) (below q now) a p r g.2 g.1.0 in
      let two = nodes_counted (right_of w R s) (below q now) b p r g.3 g.1.1 in
      let top = cnt_one p r (omega arith) in
      let split = cnt_union (λ i. eqb i p) (λ i. inside i a || inside i b) r alone in
      let sides = cnt_union (λ i. inside i a) (λ i. inside i b) r apart in
      omega arith
    where
      apart : (i : ℕ) → (inside i a && inside i b) ≡ false
      apart i = false_from_ne_true (inside i a && inside i b) (λ e.
          let both = and_parts (inside i a) (inside i b) e in
          makers_apart w rs R s i
          (inside_maker w rs (left_of w R s) (below q now) a i g.2 both.0)
          (inside_maker w rs (right_of w R s) (below q now) b i g.3 both.1))

      alone : (i : ℕ) → (eqb i p && (inside i a || inside i b)) ≡ false
      alone i = false_from_ne_true (eqb i p && (inside i a || inside i b)) (λ e.
          let both = and_parts (eqb i p) (inside i a || inside i b) e in
          let same = eqb-true i p both.0 in
          or_cases (inside i a) (inside i b) both.1
          (λ u. let lt = inside_over w rs (left_of w R s) (below q now) a p i g.2 g.1.0 u in omega arith)
          (λ u. let lt = inside_over w rs (right_of w R s) (below q now) b p i g.3 g.1.1 u in omega arith))

  -- of every number below r a place hangs in the tree or is not made
  pub enters : (R : K → Bool) (now : ℕ) (x : Tree K T) (r : ℕ) → Good w rs R now x → Over 0 x → nodes_below r x + unmade r x ≡ pred r
  enters R now x r g o =
      let c = nodes_counted R now x 0 r g o in
      let d = cnt_split (λ i. inside i x) r in
      omega arith

  -- so a request that is in the tree has fewer places to come to than its number
  pub reach_short : (R : K → Bool) (now : ℕ) (x : Tree K T) (r : ℕ) → Good w rs R now x → Over 0 x → reach r x + unmade r x ≤ pred r
  reach_short R now x r g o =
      let c = enters R now x r g o in
      let d = reach_below r x in
      omega arith
