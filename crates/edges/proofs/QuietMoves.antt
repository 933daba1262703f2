-- A moved request keeps the narrow counts quiet: a narrow count passes no place that would part its range.
use Rattle.std.proofs.Common.{◌≡◌, ℕ, zero, suc, Bool, true, false, cond, not, List, [], ◌∷◌, Some, None, Option, sym, refl, ◌∙◌, subst, ap₂}
use Rattle.requests.specs.declared.request.Request.{Request}
use Rattle.requests.specs.declared.request.Request.TheVariants.{Enter, Withdraw, LookUp, Count}
use Rattle.rules.specs.declared.mode.Mode.{Mode}
use Rattle.rules.specs.declared.mode.Mode.TheVariants.{Between, From, Upto}
use Rattle.rules.specs.Kinds.{Kinds, Lawful, before}
use Rattle.rules.specs.States.{State, Slot, Place, empty, holds, leads}
use Rattle.rules.specs.Queues.{numbered}
use Rattle.rules.specs.Moves.{Step, show, add, slot_on, is_present, count_steps, wanted, slot_for, with_joined, whole, enter_at, withdraw_at, shown, stepped, stepped_all, count_at, acted}
use Rattle.edges.proofs.EmptyRange.{none_within}
use Rattle.edges.proofs.Quiet.{Narrow, Still, waiter_still, slot_still, joined_still, added_still}

not_false : (b : Bool) → not b ≡ false → b ≡ true
not_false true e = refl
not_false false e = sym e

module _ {K T : Type 0} (w : Kinds K T) (law : Lawful w) (rs : List (Request K)) where
  -- a count may be shown a slot in a mode if, being narrow, it is so in mode between
  abbrev Allowed : ℕ → K → K → Mode → Type 0
  Allowed t lo hi m = Narrow w rs t → (m ≡ Between) × (w.le lo hi ≡ false)

  shown_still : (s : State K T) (t : ℕ) (lo hi : K) (m : Mode) (x : Slot K) → Allowed t lo hi m → Still w rs s → Still w rs (shown w s t lo hi m x)
  shown_still s t lo hi m empty a i = i
  shown_still s t lo hi m (holds k) a i = added_still w rs s t (cond (wanted w lo hi m k) (w.weighed k) w.none) adds i
    where
      adds : Narrow w rs t → w.joined (s.counted t) (cond (wanted w lo hi m k) (w.weighed k) w.none) ≡ w.none
      adds n =
          let unwanted : wanted w lo hi m k ≡ false = subst (λ x. wanted w lo hi x k ≡ false) (sym (a n).0) (none_within w law lo hi k (a n).1) in
          ap₂ (λ c b. w.joined c (cond b (w.weighed k) w.none)) (i.1 t n).0 unwanted ∙ law.neutral w.none
  shown_still s t lo hi m (leads f) a i = waiter_still w rs s f t m (λ n. (a n).0) i

  -- a narrow count adds no whole
  abbrev StepAllowed : ℕ → K → K → Step → Type 0
  StepAllowed t lo hi (show side m) = Allowed t lo hi m
  StepAllowed t lo hi (add side) = Narrow w rs t → ⊥

  abbrev StepsAllowed : ℕ → K → K → List Step → Type 0
  StepsAllowed t lo hi [] = Unit {0}
  StepsAllowed t lo hi (x ∷ xs) = StepAllowed t lo hi x × StepsAllowed t lo hi xs

  steps_still : (s : State K T) (t : ℕ) (lo hi : K) (f : Place K T) (xs : List Step) → StepsAllowed t lo hi xs → Still w rs s
      → Still w rs (stepped_all w s t lo hi f xs)
  steps_still s t lo hi f [] a i = i
  steps_still s t lo hi f (show side m ∷ xs) a i =
      steps_still (shown w s t lo hi m (slot_on f side)) t lo hi f xs a.1 (shown_still s t lo hi m (slot_on f side) a.0 i)
  steps_still s t lo hi f (add side ∷ xs) a i =
      steps_still (stepped w s t lo hi f (add side)) t lo hi f xs a.1 (added_still w rs s t (whole w s (slot_on f side)) (λ n. absurd (a.0 n)) i)

  -- the table of modes, where a narrow count never finds the split above lo and not above hi
  table_allowed : (t : ℕ) (lo hi : K) (m : Mode) (b c : Bool) → Allowed t lo hi m → (w.le lo hi ≡ false → b ≡ false → c ≡ false → ⊥)
      → StepsAllowed t lo hi (count_steps m b c)
  table_allowed t lo hi Between true c a h = (a, tt)
  table_allowed t lo hi Between false true a h = (a, tt)
  table_allowed t lo hi Between false false a h = ((λ n. absurd (h (a n).1 refl refl)), ((λ n. absurd (h (a n).1 refl refl)), tt))
  table_allowed t lo hi From true c a h = (a, tt)
  table_allowed t lo hi From false c a h = ((λ n. let e = (a n).0 in absurd cc), (a, tt))
  table_allowed t lo hi Upto b true a h = (a, tt)
  table_allowed t lo hi Upto b false a h = ((λ n. let e = (a n).0 in absurd cc), (a, tt))

  not-parted : (lo hi split : K) → w.le lo hi ≡ false → w.le split lo ≡ false → before w hi split ≡ false → ⊥
  not-parted lo hi split e f g =
      let p = law.transitive lo split hi (law.total split lo f) (not_false (w.le split hi) g) in
      absurd cc

  count_still : (s : State K T) (t p : ℕ) (lo hi : K) (m : Mode) → Allowed t lo hi m → Still w rs s → Still w rs (count_at w s t p lo hi m)
  count_still s t zero lo hi m a i = shown_still s t lo hi Between s.slot (λ n. (refl, (a n).1)) i
  count_still s t (suc p) lo hi m a i = go (s.place (suc p))
    where
      go : (o : Option (Place K T))
          → Still w rs (elim o [ None ↦ s | Some f ↦ stepped_all w s t lo hi f (count_steps m (w.le f.split lo) (before w hi f.split)) ])
      go None = i
      go (Some f) =
          steps_still s t lo hi f (count_steps m (w.le f.split lo) (before w hi f.split))
          (table_allowed t lo hi m (w.le f.split lo) (before w hi f.split) a (not-parted lo hi f.split))
          i

  enter_still : (s : State K T) (t p : ℕ) (k : K) (x : Slot K) → Still w rs s → Still w rs (enter_at w s t p k x)
  enter_still s t p k empty i = slot_still w rs s p k (holds k) i
  enter_still s t p k (holds j) i = slot_still w rs s p k (leads t) i
  enter_still s t p k (leads f) i =
      waiter_still w rs (with_joined w s f (w.weighed k)) f t Between (λ n. refl) (joined_still w rs s f (w.weighed k) i)

  withdraw_still : (s : State K T) (t p : ℕ) (k : K) (x : Slot K) → Still w rs s → Still w rs (withdraw_at w s t p k x)
  withdraw_still s t p k empty i = i
  withdraw_still s t p k (holds j) i = slot_still w rs s p k empty i
  withdraw_still s t p k (leads f) i =
      waiter_still w rs (with_joined w s f (w.opposed (w.weighed k))) f t Between (λ n. refl) (joined_still w rs s f (w.opposed (w.weighed k)) i)

  either_still : (b : Bool) (x y : State K T) → Still w rs x → Still w rs y → Still w rs (cond b x y)
  either_still true x y i j = i
  either_still false x y i j = j

  -- what a request does, if it waited in mode between where it is narrow
  pub acted_still : (s : State K T) (t p : ℕ) (m : Mode) (r : Request K) → numbered rs t ≡ Some r → (Narrow w rs t → m ≡ Between)
      → Still w rs s → Still w rs (acted w s t p m r)
  acted_still s t p m (Enter k) e h i =
      either_still (is_present (s.decision t)) _ _ i (enter_still s t p k (slot_for w s p k) i)
  acted_still s t p m (Withdraw k) e h i =
      either_still (is_present (s.decision t)) _ _ (withdraw_still s t p k (slot_for w s p k) i) i
  acted_still s t p m (LookUp k) e h i = i
  acted_still s t p m (Count lo hi) e h i = count_still s t p lo hi m (λ n. (h n, n lo hi e)) i
