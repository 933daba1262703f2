-- Reading off: with nobody waiting, the tree's keys from left to right are the plain set. Rests on Finals.
use Rattle.std.proofs.Common.{◌≡◌, ℕ, zero, suc, ◌+◌, ◌<◌, ◌≤◌, Bool, true, false, not, ◌&&◌, ◌||◌, eqb, List, [], ◌∷◌, ◌++◌, Some, None, sym, refl, ap, ◌∙◌, subst, ⊎_elim, true≢false, arith}
use Rattle.std.proofs.lemmas.Bool.{cases_lt, false_from_ne_true, or_left, or_right, and_parts, or_parts}
use Rattle.requests.specs.declared.request.Request.{Request}
use Rattle.requests.specs.declared.request.Request.TheVariants.{Enter}
use Rattle.rules.specs.Kinds.{Kinds, Lawful, same, before}
use Rattle.rules.specs.Plain.{Ascends, has, set_after, set_before}
use Rattle.rules.specs.States.{State, Waiter}
use Rattle.rules.specs.Queues.{stands, given, finished}
use Rattle.rules.specs.ReadOff.{all_from_one, keys_under, keys_listed}
use Rattle.rules.specs.Laws.{ReadingIsPlain}
use Rattle.rules.proofs.Bools.{or_false}
use Rattle.rules.proofs.Order.{same_eq, before-le_trans}
use Rattle.rules.proofs.Sets.{has_append, ascends_append, ascends_set_after, same_rows}
use Rattle.rules.proofs.Times.{numbered_within, set-at_end}
use Rattle.rules.proofs.Befores.{was}
use Rattle.rules.proofs.Trees.{Tree, bare, leaf, node, slot_of, inside, Drawn}
use Rattle.rules.proofs.Goods.{below, Over, left_of, right_of, Good}
use Rattle.rules.proofs.Insides.{inside_maker}
use Rattle.rules.proofs.Pends.{waiting}
use Rattle.rules.proofs.Visits.{waiting-before}
use Rattle.rules.proofs.Unmade.{waiting_over}
use Rattle.rules.proofs.Holds.{Everywhere, Holds}
use Rattle.rules.proofs.Descents.{in_turn_end}
use Rattle.rules.proofs.Finals.{finished_out}

-- nobody waits at a place of the tree
abbrev Idle : {K T : Type 0} → Tree K T → Type 0
Idle bare = Unit {0}
Idle (leaf k) = Unit {0}
Idle (node p s t q a b) = (q ≡ []) × Idle a × Idle b

-- the keys of a tree from left to right
abbrev tree_keys : {K T : Type 0} → Tree K T → List K
tree_keys bare = []
tree_keys (leaf k) = k ∷ []
tree_keys (node p s t q a b) = tree_keys a ++ tree_keys b

idle : {K T : Type 0} (x : Tree K T) → ((i : ℕ) → waiting i x ≡ false) → Idle x
idle bare h = tt
idle (leaf k) h = tt
idle (node p s t q a b) h = (
  nobody q (λ i. (or_parts (stands i q) (waiting i a || waiting i b) (h i)).0),
  idle a (λ i. (or_parts (waiting i a) (waiting i b) (or_parts (stands i q) (waiting i a || waiting i b) (h i)).1).0),
  idle b (λ i. (or_parts (waiting i a) (waiting i b) (or_parts (stands i q) (waiting i a || waiting i b) (h i)).1).1),
)
  where
    self : (j : ℕ) → eqb j j ≡ true
    self j = grind arith

    nobody : (q : List Waiter) → ((i : ℕ) → stands i q ≡ false) → q ≡ []
    nobody [] f = refl
    nobody (e ∷ q) f = absurd (true≢false (sym (or_left (eqb e.number e.number) (stands e.number q) (self e.number)) ∙ f e.number))

module _ {K T : Type 0} (w : Kinds K T) (l : Lawful w) (rs : List (Request K)) where
  -- what the tree of an idle region has
  sides : (r b v : Bool) → ((r && not b) && v || (r && b) && v) ≡ (r && v)
  sides true true v = refl
  sides true false v = or_false v
  sides false b v = refl

  tree_has : (R : K → Bool) (t : ℕ) (x : Tree K T) → Idle x → Good w rs R t x → (k : K) → has w k (tree_keys x) ≡ (R k && was w rs t k)
  tree_has R t bare i g k = go (R k) refl
    where
      go : (b : Bool) → R k ≡ b → false ≡ (b && was w rs t k)
      go true e = sym (g k e)
      go false e = refl
  tree_has R t (leaf j) i g k = go (R k) refl
    where
      go : (b : Bool) → R k ≡ b → (same w k j || false) ≡ (b && was w rs t k)
      go true e = or_false (same w k j) ∙ sym (g.1 k e)
      go false e = or_false (same w k j) ∙ false_from_ne_true (same w k j) (λ f. true≢false (sym g.0 ∙ ap R (sym (same_eq w l k j f)) ∙ e))
  tree_has R t (node p s v q a b) i g k =
      let level : below q t ≡ t = ap (λ x. below x t) i.0 in
      let one = tree_has (left_of w R s) t a i.1 (subst (λ u. Good w rs (left_of w R s) u a) level g.2) k in
      let two = tree_has (right_of w R s) t b i.2 (subst (λ u. Good w rs (right_of w R s) u b) level g.3) k in
      has_append w l k (tree_keys a) (tree_keys b) ∙ ap (λ u. u || has w k (tree_keys b)) one ∙ ap (λ u. ((R k && not (w.le s k)) && was w rs t k) || u) two ∙ sides (R k) (w.le s k) (was w rs t k)

  tree_ascends : (R : K → Bool) (t : ℕ) (x : Tree K T) → Idle x → Good w rs R t x → Ascends w (tree_keys x)
  tree_ascends R t bare i g = tt
  tree_ascends R t (leaf j) i g = (tt, tt)
  tree_ascends R t (node p s v q a b) i g =
      let level : below q t ≡ t = ap (λ x. below x t) i.0 in
      let ga = subst (λ u. Good w rs (left_of w R s) u a) level g.2 in
      let gb = subst (λ u. Good w rs (right_of w R s) u b) level g.3 in
      ascends_append w l (tree_keys a) (tree_keys b) (tree_ascends (left_of w R s) t a i.1 ga) (tree_ascends (right_of w R s) t b i.2 gb)
      (λ k j u z. before-le_trans w l k s j
      (and_parts (R k) (before w k s) (and_parts (R k && before w k s) (was w rs t k) (sym (tree_has (left_of w R s) t a i.1 ga k) ∙ u)).0).1
      (and_parts (R j) (w.le s j) (and_parts (R j && w.le s j) (was w rs t j) (sym (tree_has (right_of w R s) t b i.2 gb j) ∙ z)).0).1)

-- numbers rise on every way down
abbrev AllOver : {K T : Type 0} → Tree K T → Type 0
AllOver bare = Unit {0}
AllOver (leaf k) = Unit {0}
AllOver (node p s t q a b) = Over p a × Over p b × AllOver a × AllOver b

all_over : {K T : Type 0} (w : Kinds K T) (rs : List (Request K)) (R : K → Bool) (t : ℕ) (x : Tree K T) → Good w rs R t x → AllOver x
all_over w rs R t bare g = tt
all_over w rs R t (leaf k) g = tt
all_over w rs R t (node p s v q a b) g =
    (g.1.0, g.1.1, all_over w rs (left_of w R s) (below q t) a g.2, all_over w rs (right_of w R s) (below q t) b g.3)

-- followed down through the places, a slot lists the keys of its tree
listed : {K T : Type 0} (s : State K T) (n : ℕ) (x : Tree K T) (lo depth : ℕ) → Drawn s.place s.queue x → Over lo x → (deep : AllOver x) → ((i : ℕ) → inside i x ≡ true → i ≤ n) → n ≤ lo + depth → keys_under s depth (slot_of x) ≡ tree_keys x
listed s n bare lo depth d o deep few h = refl
listed s n (leaf k) lo depth d o deep few h = refl
listed s n (node p sp v q a b) lo zero d o deep few h =
    let here = few p (or_left (eqb p p) (inside p a || inside p b) (self p)) in absurd (omega arith)
  where
    self : (j : ℕ) → eqb j j ≡ true
    self j = grind arith
listed s n (node p sp v q a b) lo (suc depth) d o deep few h =
    let one = listed s n a p depth d.2 deep.0 deep.2 (λ i e. few i (or_right (eqb i p) (inside i a || inside i b) (or_left (inside i a) (inside i b) e))) (omega arith) in
    let two = listed s n b p depth d.3 deep.1 deep.3 (λ i e. few i (or_right (eqb i p) (inside i a || inside i b) (or_right (inside i a) (inside i b) e))) (omega arith) in
    ap (λ o. elim o [ None ↦ [] | Some f ↦ keys_under s depth f.left ++ keys_under s depth f.right ]) d.0
    ∙ ap (λ ks. ks ++ keys_under s depth (slot_of b)) one ∙ ap (λ ks. tree_keys a ++ ks) two

-- every number that passes
all_pass : (test : ℕ → Bool) (n : ℕ) → all_from_one test n ≡ true → (t : ℕ) → 0 < t → t ≤ n → test t ≡ true
all_pass test zero e t h k = absurd (omega arith)
all_pass test (suc n) e t h k =
    ⊎_elim
    (λ lt. all_pass test n (and_parts (all_from_one test n) (test (suc n)) e).0 t h (omega arith))
    (λ ge. let same_number : suc n ≡ t = omega arith in subst (λ i. test i ≡ true) same_number (and_parts (all_from_one test n) (test (suc n)) e).1)
    (cases_lt t (suc n))

module _ {K T : Type 0} (w : Kinds K T) (l : Lawful w) (s : State K T) (x : Tree K T) (time : ℕ) (h : Holds w s.requests s x time) where
  pub reading_plain : ReadingIsPlain w s
  reading_plain done = (plain, subst (Ascends w) (sym lists) (tree_ascends w l s.requests (Everywhere w s.requests) time x quiet h.good))
    where
      each : (t : ℕ) → 0 < t → t ≤ given s → (t < time) × (waiting t x ≡ false)
      each t z le = finished_out w l s x time h t le (all_pass (finished s) (given s) done t z le)

      near : time ≤ suc (given s)
      near = in_turn_end time (s.queue 0) (suc (given s)) h.gate

      last : time ≡ suc (given s)
      last = ⊎_elim (λ lt. absurd (let e = each time h.started (omega arith) in omega (arith, e.0))) (λ ge. omega (arith, near)) (cases_lt time (suc (given s)))

      silent : (i : ℕ) → waiting i x ≡ false
      silent i = false_from_ne_true (waiting i x) (λ e.
          let young = waiting-before w s.requests (Everywhere w s.requests) time x i h.good e in
          let old = waiting_over w s.requests (Everywhere w s.requests) time x 0 i h.good h.over e in
          true≢false (sym e ∙ (each i old (omega (arith, near))).1))

      quiet : Idle x
      quiet = idle x silent

      few : (i : ℕ) → inside i x ≡ true → i ≤ given s
      few i e = let m = inside_maker w s.requests (Everywhere w s.requests) time x i h.good e in (numbered_within s.requests i (Enter m.0) m.1).1

      lists : keys_listed s ≡ tree_keys x
      lists = ap (keys_under s (given s)) h.rooted ∙ listed s (given s) x 0 (given s) h.drawn h.over (all_over w s.requests (Everywhere w s.requests) time x h.good) few (omega arith)

      end : set_before w s.requests time ≡ set_after w s.requests
      end = ap (set_before w s.requests) last ∙ set-at_end w l s.requests (given s) (omega arith)

      plain : keys_listed s ≡ set_after w s.requests
      plain =
          lists ∙ same_rows w l (tree_keys x) (set_after w s.requests) (tree_ascends w l s.requests (Everywhere w s.requests) time x quiet h.good) (ascends_set_after w l s.requests)
          (λ k. tree_has w l s.requests (Everywhere w s.requests) time x quiet h.good k ∙ ap (has w k) end)
