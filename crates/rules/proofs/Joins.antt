-- A request joins the queue of a place: what it leaves of the tree there. Rests on Later.
use Rattle.std.proofs.Common.{◌≡◌, ℕ, suc, ◌<◌, ◌≤◌, Bool, true, false, ◌||◌, eqb, List, [], ◌∷◌, ◌++◌, sym, refl, ◌∙◌, subst, ⊎_elim, true≢false, arith}
use Rattle.std.proofs.lemmas.Bool.{cases_lt}
use Rattle.requests.specs.declared.request.Request.{Request}
use Rattle.rules.specs.Kinds.{Kinds}
use Rattle.rules.specs.States.{Waiter}
use Rattle.rules.specs.Queues.{numbered, stands}
use Rattle.rules.proofs.Befores.{weight_before, Still}
use Rattle.rules.proofs.Trees.{Tree, node}
use Rattle.rules.proofs.Goods.{below, Lined, Over, left_of, right_of, WaiterFits, QueueFits, StillBut, PlaceGood, Good}
use Rattle.rules.proofs.Later.{lined_down, lined_below}

-- one more at the end leaves the time below as it was just before that one
pub below_append : (q : List Waiter) (e : Waiter) (t : ℕ) → below (q ++ (e ∷ [])) t ≡ below q e.number
below_append [] e t = refl
below_append (x ∷ q) e t = refl

pub lined_append : (lo : ℕ) (q : List Waiter) (e : Waiter) (t : ℕ) → Lined lo q e.number → e.number < t → Lined lo (q ++ (e ∷ [])) t
lined_append lo [] e t d h = (d, h)
lined_append lo (x ∷ q) e t d h = (d.0, lined_append x.number q e t d.1 h)

pub stands_append : (i : ℕ) (q : List Waiter) (e : Waiter) → stands i (q ++ (e ∷ [])) ≡ (stands i q || eqb e.number i)
stands_append i [] e = grind arith
stands_append i (x ∷ q) e = let ih = stands_append i q e in grind arith

-- who stands in a row of numbers is among them
pub stands-between : (i lo : ℕ) (q : List Waiter) (t : ℕ) → Lined lo q t → stands i q ≡ true → (lo < i) × (i < t)
stands-between i lo [] t d h = absurd (true≢false (sym h))
stands-between i lo (e ∷ q) t d h = go (stands-between i e.number q t d.1) (eqb e.number i) refl
  where
    go : (stands i q ≡ true → (e.number < i) × (i < t)) → (b : Bool) → eqb e.number i ≡ b → (lo < i) × (i < t)
    go ih true f =
        let same : e.number ≡ i = grind arith in
        let far = lined_below e.number q t d.1 in
        (omega (arith, d.0), omega (arith, far.0, far.1))
    go ih false f =
        let rest = ih (grind arith) in
        (omega (arith, d.0, rest.0), rest.1)

module _ {K T : Type 0} (w : Kinds K T) (rs : List (Request K)) where
  fits_append : (R : K → Bool) (q : List Waiter) (e : Waiter) → QueueFits w rs R q → WaiterFits w rs R e.number e.mode (numbered rs e.number) → QueueFits w rs R (q ++ (e ∷ []))
  fits_append R [] e d f = (f, tt)
  fits_append R (x ∷ q) e d f = (d.0, fits_append R q e d.1 f)

  -- the place that a request joins, at the time u after the request, with the tally that belongs to that time
  pub node_joins : (R : K → Bool) (u : ℕ) (f : ℕ) (s : K) (old tally : T) (q : List Waiter) (e : Waiter) (a b : Tree K T)
      → e.number < u → tally ≡ weight_before w R rs u → WaiterFits w rs R e.number e.mode (numbered rs e.number)
      → Still w rs R (suc e.number) u → Good w rs R e.number (node f s old q a b) → Good w rs R u (node f s tally (q ++ (e ∷ [])) a b)
  node_joins R u f s old tally q e a b h weighs fit quiet g = (
    record {
      maker = g.0.maker;
      made = g.0.made;
      maker_here = g.0.maker_here;
      split_here = g.0.split_here;
      weighs = weighs;
      lined = lined_append f q e u g.0.lined h;
      fits = fits_append R q e g.0.fits fit;
      still = still;
    },
    g.1,
    subst (λ t. Good w rs (left_of w R s) t a) (sym (below_append q e u)) g.2,
    subst (λ t. Good w rs (right_of w R s) t b) (sym (below_append q e u)) g.3,
  )
    where
      still : StillBut w rs R (q ++ (e ∷ [])) u
      still i lo hi out k here =
          let from : below q e.number ≤ i = subst (λ t. t ≤ i) (below_append q e u) lo in
          let both : (stands i q || eqb e.number i) ≡ false = sym (stands_append i q e) ∙ out in
          let away : stands i q ≡ false = grind arith in
          ⊎_elim
          (λ lt. g.0.still i from lt away k here)
          (λ ge. quiet i (let other : eqb e.number i ≡ false = grind arith in grind arith) hi k here)
          (cases_lt i e.number)

  -- the head of a place's queue has left, and what hangs there is good at the new time below
  pub node_moves : (R : K → Bool) (t : ℕ) (p : ℕ) (s : K) (tally : T) (e : Waiter) (q : List Waiter) (a b c d : Tree K T)
      → Good w rs R t (node p s tally (e ∷ q) a b) → Over p c → Over p d
      → Good w rs (left_of w R s) (below q t) c → Good w rs (right_of w R s) (below q t) d → Good w rs R t (node p s tally q c d)
  node_moves R t p s tally e q a b c d g oc od gc gd = (
    record {
      maker = g.0.maker;
      made = g.0.made;
      maker_here = g.0.maker_here;
      split_here = g.0.split_here;
      weighs = g.0.weighs;
      lined = lined_down e.number p q t (omega (arith, g.0.lined.0)) g.0.lined.1;
      fits = g.0.fits.1;
      still = still;
    },
    (oc, od),
    gc,
    gd,
  )
    where
      still : StillBut w rs R q t
      still i lo hi out =
          let far = lined_below e.number q t g.0.lined.1 in
          g.0.still i (omega (arith, far.0)) hi (let other : eqb e.number i ≡ false = grind (arith, far.0) in grind arith)

  -- between the head and the next one nothing of the region changes
  pub still_behind : (R : K → Bool) (t : ℕ) (p : ℕ) (s : K) (tally : T) (e : Waiter) (q : List Waiter)
      → PlaceGood w rs R t p s tally (e ∷ q) → Still w rs R (suc e.number) (below q t)
  still_behind R t p s tally e q g i lo hi =
      let far = lined_below e.number q t g.lined.1 in
      g.still i (omega arith) (omega (arith, far.1)) (nobody q g.lined.1 hi)
    where
      away : (x : ℕ) (rest : List Waiter) → Lined x rest t → i ≤ x → stands i rest ≡ false
      away x [] d h = refl
      away x (y ∷ rest) d h = let ih = away y.number rest d.1 (omega (arith, d.0)) in let other : eqb y.number i ≡ false = grind (arith, d.0) in grind arith

      nobody : (rest : List Waiter) → Lined e.number rest t → i < below rest t → stands i (e ∷ rest) ≡ false
      nobody [] d h = grind arith
      nobody (y ∷ rest) d h = let ih = away y.number rest d.1 (omega arith) in let one : eqb e.number i ≡ false = grind arith in let other : eqb y.number i ≡ false = grind arith in grind arith
