-- Counts whose upper key comes before their lower stay quiet: their tally stays zero, and they wait in mode between
-- alone. This invariant of a state, and the changes that keep it.
use Rattle.std.proofs.Common.{◌≡◌, ℕ, zero, suc, Bool, true, false, cond, eqb, List, [], ◌∷◌, ◌++◌, Some, None, Option, sym, refl, subst, eqb-true}
use Rattle.requests.specs.declared.request.Request.{Request}
use Rattle.requests.specs.declared.request.Request.TheVariants.{Count}
use Rattle.rules.specs.declared.mode.Mode.{Mode}
use Rattle.rules.specs.declared.mode.Mode.TheVariants.{Between}
use Rattle.rules.specs.Kinds.{Kinds}
use Rattle.rules.specs.States.{State, Slot, Place, Waiter}
use Rattle.rules.specs.Queues.{numbered, behind}
use Rattle.rules.specs.Changes.{with_place, with_queue, with_waiter}
use Rattle.rules.specs.Moves.{with_slot_on, side_of, with_tally, with_slot_for, with_joined, with_added}

-- whoever waits under number t waits in mode between
abbrev pub Betweens : ℕ → List Waiter → Type 0
Betweens t [] = Unit {0}
Betweens t (e ∷ q) = (e.number ≡ t → e.mode ≡ Between) × Betweens t q

betweens_behind : (t : ℕ) (q : List Waiter) → Betweens t q → Betweens t (behind q)
betweens_behind t [] b = tt
betweens_behind t (e ∷ q) b = b.1

betweens_joined : (t : ℕ) (q : List Waiter) (e : Waiter) → Betweens t q → (e.number ≡ t → e.mode ≡ Between)
    → Betweens t (q ++ (e ∷ []))
betweens_joined t [] e b h = (h, tt)
betweens_joined t (x ∷ q) e b h = (b.0, betweens_joined t q e b.1 h)

betweens_either : (t : ℕ) (b : Bool) (x y : List Waiter) → Betweens t x → Betweens t y → Betweens t (cond b x y)
betweens_either t true x y f g = f
betweens_either t false x y f g = g

module _ {K T : Type 0} (w : Kinds K T) where
  abbrev pub Quiet : State K T → ℕ → Type 0
  Quiet s t = (s.counted t ≡ w.none) × ((p : ℕ) → Betweens t (s.queue p))

  module _ (rs : List (Request K)) where
    -- a count of number t among the requests, where there is one, has an empty range
    abbrev pub Narrow : ℕ → Type 0
    Narrow t = (lo hi : K) → numbered rs t ≡ Some (Count lo hi) → w.le lo hi ≡ false

    -- the state has these requests, and the narrow counts are quiet
    abbrev pub Still : State K T → Type 0
    Still s = (s.requests ≡ rs) × ((t : ℕ) → Narrow t → Quiet s t)

    -- a request joins a queue, a narrow count in mode between
    pub waiter_still : (s : State K T) (f t : ℕ) (m : Mode) → (Narrow t → m ≡ Between) → Still s → Still (with_waiter s f t m)
    waiter_still s f t m h i = (i.0, λ t' n. ((i.1 t' n).0, λ p. betweens_either t' (eqb p f) _ _ (joins t' n) ((i.1 t' n).1 p)))
      where
        joins : (t' : ℕ) → Narrow t' → Betweens t' (s.queue f ++ (record { number = t; mode = m } ∷ []))
        joins t' n =
            betweens_joined t' (s.queue f) (record { number = t; mode = m }) ((i.1 t' n).1 f) (λ e. h (subst Narrow (sym e) n))

    -- a head leaves
    pub behind_still : (s : State K T) (p : ℕ) → Still s → Still (with_queue s p (behind (s.queue p)))
    behind_still s p i =
        (i.0, λ t n. ((i.1 t n).0, λ q. betweens_either t (eqb q p) _ _ (betweens_behind t (s.queue p) ((i.1 t n).1 p)) ((i.1 t n).1 q)))

    -- slots and tallies of places are written
    pub slot_still : (s : State K T) (p : ℕ) (k : K) (x : Slot K) → Still s → Still (with_slot_for w s p k x)
    slot_still s zero k x i = i
    slot_still s (suc p) k x i = go (s.place (suc p))
      where
        go : (o : Option (Place K T)) → Still (elim o [ None ↦ s | Some f ↦ with_place s (suc p) (with_slot_on f (side_of w f k) x) ])
        go None = i
        go (Some f) = i

    pub joined_still : (s : State K T) (p : ℕ) (x : T) → Still s → Still (with_joined w s p x)
    joined_still s p x i = go (s.place p)
      where
        go : (o : Option (Place K T)) → Still (elim o [ None ↦ s | Some f ↦ with_place s p (with_tally f (w.joined f.tally x)) ])
        go None = i
        go (Some f) = i

    -- a count's tally is joined with a weight, a narrow one's with none
    pub added_still : (s : State K T) (t : ℕ) (x : T) → (Narrow t → w.joined (s.counted t) x ≡ w.none) → Still s
        → Still (with_added w s t x)
    added_still s t x h i = (i.0, λ t' n. (go t' n (eqb t' t) refl, (i.1 t' n).1))
      where
        go : (t' : ℕ) → Narrow t' → (b : Bool) → eqb t' t ≡ b → cond b (w.joined (s.counted t) x) (s.counted t') ≡ w.none
        go t' n true e = h (subst Narrow (eqb-true t' t e) n)
        go t' n false e = (i.1 t' n).0
