-- Where requests wait: at one place at most for each key that they go by, so counts at two and all others at one. Rests on FactsWays and Finishes.
use Rattle.std.proofs.Common.{◌≡◌, ℕ, zero, suc, ◌<◌, ◌≤◌, Bool, true, false, ◌⊎◌, List, length, Some, sym, refl, ap, ◌∙◌, inl, inr, arith}
use Rattle.requests.specs.declared.request.Request.{Request}
use Rattle.requests.specs.declared.request.Request.TheVariants.{Enter, Withdraw, LookUp, Count}
use Rattle.rules.specs.Kinds.{Kinds}
use Rattle.rules.specs.States.{State}
use Rattle.rules.specs.Queues.{numbered, waits}
use Rattle.rules.specs.Facts.{OnePlaceAtMost, TwoPlacesAtMost, OnePlace}
use Rattle.rules.proofs.Trees.{Tree}
use Rattle.rules.proofs.Visits.{waiting-before}
use Rattle.rules.proofs.Holds.{Everywhere, Holds}
use Rattle.rules.proofs.Standings.{turn-between, drawn-waits}
use Rattle.rules.proofs.Finishes.{stands_inside}
use Rattle.rules.proofs.FactsWays.{goes_by, on_way, waits_on_way, way_once, asked}

-- of any three truth values two are the same
two-same : {X : Type 0} (a b c : Bool) → (a ≡ b → X) → (a ≡ c → X) → (b ≡ c → X) → X
two-same true true c f g h = f refl
two-same false false c f g h = f refl
two-same true false true f g h = g refl
two-same true false false f g h = h refl
two-same false true false f g h = g refl
two-same false true true f g h = h refl

-- a request that is no count goes by one key
one_key : {K : Type 0} (r : Request K) (c d : Bool) → ((lo hi : K) → r ≡ Count lo hi → ⊥) → goes_by c r ≡ goes_by d r
one_key (Enter k) c d other = refl
one_key (Withdraw k) c d other = refl
one_key (LookUp k) c d other = refl
one_key (Count lo hi) c d other = absurd (other lo hi refl)

module _ {K T : Type 0} (w : Kinds K T) (s : State K T) (x : Tree K T) (time : ℕ) (held : Holds w s.requests s x time) where
  abbrev rs : List (Request K)
  rs = s.requests

  -- where request t waits in the tree: on the way of a key that it goes by
  record On (t p : ℕ) : Type 0 where
    request : Request K
    end : Bool
    asked_for : numbered rs t ≡ Some request
    way : on_way w rs (goes_by end request) p x ≡ true
    passed : t < time

  -- a place where request t waits: the gate, or one in the tree
  abbrev Site : ℕ → ℕ → Type 0
  Site t p = ((p ≡ 0) × (time ≤ t)) ⊎ On t p

  -- by which end a count waits there; at the gate it does not matter
  abbrev end_at : (t p : ℕ) → Site t p → Bool
  end_at t p (inl gate) = false
  end_at t p (inr on) = on.end

  site : (t p : ℕ) → waits s t p ≡ true → Site t p
  site t zero e = inl (refl, (turn-between t time (s.queue 0) (suc (length rs)) held.gate e).0)
  site t (suc p) e =
      let here = stands_inside w rs s x time held t p e in
      let known = asked w rs s.place s.queue (Everywhere w rs) time x t (suc p) held.good held.drawn here e in
      let goes = waits_on_way w rs s.place s.queue (Everywhere w rs) time x t (suc p) known.0 known.1 held.good held.drawn here e in
      let in_tree = drawn-waits w rs s.place s.queue x t (suc p) held.drawn here e in
      inr (record {
        request = known.0;
        end = goes.0;
        asked_for = known.1;
        way = goes.2;
        passed = waiting-before w rs (Everywhere w rs) time x t held.good in_tree;
      })

  -- where a request waits by one key it waits at one place
  same_site : (t p q : ℕ) (a : Site t p) (b : Site t q) → waits s t p ≡ true → waits s t q ≡ true
      → ((r : Request K) → numbered rs t ≡ Some r → goes_by (end_at t p a) r ≡ goes_by (end_at t q b) r) → p ≡ q
  same_site t p q (inl a) (inl b) hp hq same = a.0 ∙ sym b.0
  same_site t p q (inl a) (inr b) hp hq same = let lt = b.passed in absurd (omega (arith, a.1))
  same_site t p q (inr a) (inl b) hp hq same = let lt = a.passed in absurd (omega (arith, b.1))
  same_site t p q (inr a) (inr b) hp hq same =
      let both : Some a.request ≡ Some b.request = sym a.asked_for ∙ b.asked_for in
      let one : a.request ≡ b.request = cc in
      let key : goes_by a.end a.request ≡ goes_by b.end b.request = same a.request a.asked_for ∙ ap (goes_by b.end) one in
      way_once w rs s.place s.queue (Everywhere w rs) time x t (goes_by a.end a.request) p q held.good held.drawn
      a.way (ap (λ k. on_way w rs k q x) key ∙ b.way) hp hq

  one_place-at_most : OnePlaceAtMost s
  one_place-at_most t p q other hp hq =
      same_site t p q (site t p hp) (site t q hq) hp hq
      (λ r num. one_key r (end_at t p (site t p hp)) (end_at t q (site t q hq)) (λ lo hi is. other lo hi (num ∙ ap Some is)))

  -- who waits by the same end waits at the same place
  by_end : (t p q : ℕ) (a : Site t p) (b : Site t q) → waits s t p ≡ true → waits s t q ≡ true → end_at t p a ≡ end_at t q b → p ≡ q
  by_end t p q a b hp hq same = same_site t p q a b hp hq (λ r num. ap (λ c. goes_by c r) same)

  two_places_at_most : TwoPlacesAtMost s
  two_places_at_most t p q o hp hq ho =
      two-same (end_at t p (site t p hp)) (end_at t q (site t q hq)) (end_at t o (site t o ho))
      (λ e. inl (by_end t p q (site t p hp) (site t q hq) hp hq e))
      (λ e. inr (inl (by_end t p o (site t p hp) (site t o ho) hp ho e)))
      (λ e. inr (inr (by_end t q o (site t q hq) (site t o ho) hq ho e)))

  pub one_place : OnePlace s
  one_place = (one_place-at_most, two_places_at_most)
