-- A request is finished exactly if it has no visit left, and where an unfinished one waits the head comes no later. Rests on Standings, Finals and Visits.
use Rattle.std.proofs.Common.{◌≡◌, ℕ, zero, suc, ◌+◌, ◌<◌, ◌≤◌, Bool, true, false, cond, not, List, [], ◌∷◌, length, is_some, Some, None, Option, sym, refl, ap, ◌∙◌, subst, ⊎_elim, true≢false, arith}
use Rattle.std.proofs.lemmas.Bool.{eq-eqb, le-leb, lt-leb, cases_lt, cases_Bool, false_from_ne_true}
use Rattle.requests.specs.declared.request.Request.{Request}
use Rattle.rules.specs.Kinds.{Kinds}
use Rattle.rules.specs.States.{State, Waiter}
use Rattle.rules.specs.Queues.{stands, heads, head_of, given, waits, waiting_place, finished}
use Rattle.rules.proofs.Trees.{Tree, inside}
use Rattle.rules.proofs.Goods.{Lined}
use Rattle.rules.proofs.Pends.{waiting}
use Rattle.rules.proofs.Visits.{reach, unmade, visits, waiting-before, reach_some, reach_short}
use Rattle.rules.proofs.Holds.{Everywhere, Holds}
use Rattle.rules.proofs.Ways.{inside_before}
use Rattle.rules.proofs.Descents.{in_turn_end}
use Rattle.rules.proofs.Finals.{lowest_finds, in_turn-stands, waiting_where}
use Rattle.rules.proofs.Standings.{lowest_passes, turn_head, turn-between, lined_head, drawn-waits, drawn_lined}

-- a queue has a head, a request that is no later than t
abbrev pub Headed : ℕ → List Waiter → Type 0
Headed t q = (r : ℕ) × (head_of q ≡ Some r) × (heads r q ≡ true) × (1 ≤ r) × (r ≤ t)

headed : (t : ℕ) (q : List Waiter) → stands t q ≡ true → ((e : Waiter) (es : List Waiter) → q ≡ e ∷ es → (1 ≤ e.number) × (e.number ≤ t)) → Headed t q
headed t [] e low = absurd (true≢false (sym e))
headed t (a ∷ es) e low = let u = low a es refl in (a.number, refl, eq-eqb a.number a.number refl, u.0, u.1)

module _ {K T : Type 0} (w : Kinds K T) (rs : List (Request K)) (s : State K T) (x : Tree K T) (time : ℕ) (h : Holds w rs s x time) where
  -- a made place where somebody stands hangs in the tree
  pub stands_inside : (t p : ℕ) → stands t (s.queue (suc p)) ≡ true → inside (suc p) x ≡ true
  stands_inside t p e =
      ⊎_elim
      (λ u. u)
      (λ u. let none = (h.others (suc p) u).1 (omega arith) in absurd (true≢false (sym e ∙ ap (stands t) none)))
      (cases_Bool (inside (suc p) x))

  -- at the time of the gate or before: the visits that are left
  visits-gate : (t : ℕ) → time ≤ t → visits time t x ≡ t
  visits-gate t le = rw (le-leb time t le)

  visits_tree : (t : ℕ) → t < time → (b : Bool) → waiting t x ≡ b → visits time t x ≡ cond b (reach t x + unmade t x) 0
  visits_tree t lt b e = rw (lt-leb time t lt, e)

  -- who stands in a queue has a visit left
  pub stands-visits : (t p : ℕ) → 1 ≤ t → stands t (s.queue p) ≡ true → 1 ≤ visits time t x
  stands-visits t zero pos e =
      let u = turn-between t time (s.queue 0) (suc (length rs)) h.gate e in
      let v = visits-gate t u.0 in
      omega arith
  stands-visits t (suc p) pos e =
      let i = stands_inside t p e in
      let v = drawn-waits w rs s.place s.queue x t (suc p) h.drawn i e in
      let lt = waiting-before w rs (Everywhere w rs) time x t h.good v in
      let some = reach_some w rs (Everywhere w rs) time x t h.good v in
      let same = visits_tree t lt true v in
      omega arith

  -- an unfinished request stands in a queue: that of the lowest place
  pub unfinished_place : (t : ℕ) → finished s t ≡ false → (p : ℕ) × (waiting_place s t ≡ Some p) × (stands t (s.queue p) ≡ true)
  unfinished_place t e = go (waiting_place s t) refl
    where
      go : (o : Option ℕ) → waiting_place s t ≡ o → (p : ℕ) × (waiting_place s t ≡ Some p) × (stands t (s.queue p) ≡ true)
      go (Some p) f = (p, f, (lowest_passes (waits s t) (suc (given s)) p f).1)
      go None f = absurd (true≢false (ap (λ o. not (is_some o)) (sym f) ∙ e))

  -- a request that stands in a queue is not finished
  standing : (t p : ℕ) → p ≤ length rs → stands t (s.queue p) ≡ true → finished s t ≡ false
  standing t p le e =
      let n : given s ≡ length rs = ap length h.requests in
      ap not (lowest_finds (waits s t) (suc (given s)) p (omega arith) e)

  pub unfinished_visits : (t : ℕ) → 1 ≤ t → finished s t ≡ false → 1 ≤ visits time t x
  unfinished_visits t pos e = let u = unfinished_place t e in stands-visits t u.0 pos u.2

  pub finished-visits : (t : ℕ) → t ≤ length rs → finished s t ≡ true → visits time t x ≡ 0
  finished-visits t le e =
      ⊎_elim
      (λ (lt : t < time). visits_tree t lt false (false_from_ne_true (waiting t x) (λ v.
      let u = waiting_where s.place s.queue x t h.drawn v in
      let b = inside_before w rs (Everywhere w rs) time x u.0 h.good u.1 in
      let end = in_turn_end time (s.queue 0) (suc (length rs)) h.gate in
      true≢false (sym e ∙ standing t u.0 (omega (arith, b)) u.2))))
      (λ (ge : time ≤ t). absurd (true≢false (sym e ∙ standing t 0 (omega arith) (in_turn-stands time (s.queue 0) (suc (length rs)) t h.gate ge (omega arith)))))
      (cases_lt t time)

  pub visits-finished : (t : ℕ) → 1 ≤ t → visits time t x ≡ 0 → finished s t ≡ true
  visits-finished t pos e =
      ⊎_elim
      (λ u. u)
      (λ (u : finished s t ≡ false). let v = unfinished_visits t pos u in absurd (omega arith))
      (cases_Bool (finished s t))

  -- no request has more visits left than its number says
  pub visits-short : (i : ℕ) → visits time i x ≤ i
  visits-short i =
      ⊎_elim
      (λ (lt : i < time). let u = reach_short w rs (Everywhere w rs) time x i h.good h.over in
      rw (lt-leb time i lt) (go (omega arith) (waiting i x)))
      (λ (ge : time ≤ i). let v = visits-gate i ge in omega arith)
      (cases_lt i time)
    where
      go : reach i x + unmade i x ≤ i → (b : Bool) → cond b (reach i x + unmade i x) 0 ≤ i
      go u true = u
      go u false = omega arith

  -- the head of the queue where t stands is no later than t
  pub head_sooner : (t p : ℕ) → stands t (s.queue p) ≡ true → Headed t (s.queue p)
  head_sooner t zero e =
      headed t (s.queue 0) e (λ a es f.
      let first = turn_head time (s.queue 0) (suc (length rs)) a es h.gate f in
      let u = turn-between t time (s.queue 0) (suc (length rs)) h.gate e in
      let pos = h.started in
      (omega arith, omega (arith, u.0)))
  head_sooner t (suc p) e =
      headed t (s.queue (suc p)) e (λ a es f.
      let l = drawn_lined w rs s.place s.queue (Everywhere w rs) time x (suc p) h.good h.drawn (stands_inside t p e) in
      let u = lined_head t (suc p) a es l.0 (subst (λ q. Lined (suc p) q l.0) f l.1) (ap (stands t) (sym f) ∙ e) in
      (omega (arith, u.0), u.1))
