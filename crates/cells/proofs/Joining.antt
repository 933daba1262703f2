-- A request's cell written where it left a queue or joined one: which change of the state that shows. Rests on Leaving and Singles.
use Rattle.std.proofs.Common.{◌≡◌, ℕ, suc, ◌+◌, ◌<◌, Bool, true, false, cond, eqb, List, [], ◌∷◌, ◌++◌, take, set, Some, None, Option, sym, refl, ap, ◌∙◌, arith}
use mathlib.Core.Path.{fun_ext}
use Rattle.std.specs.Option.{option_map}
use Rattle.std.proofs.lemmas.Bool.{eqb-true}
use Rattle.keys.specs.declared.key.Key as key
use Rattle.tallies.specs.declared.tally.Tally as tally
use Rattle.rules.specs.Changes.{put, with_queue, with_waiter}
use Rattle.rules.specs.Queues.{numbered}
use Rattle.rules.specs.Sound.{stands_in}
use Rattle.rules.specs.States.{State, Waiter}
use Rattle.rules.specs.declared.mode.Mode.{Mode}
use Rattle.rules.specs.declared.mode.Mode.TheVariants as mode
use Rattle.rules.proofs.SoundQueues.{in_stands}
use Rattle.cells.specs.declared.cell.Cell.{Cell}
use Rattle.cells.specs.declared.desk.Desk.{Desk}
use Rattle.cells.specs.declared.slot.Slot.{Slot}
use Rattle.cells.specs.declared.waits.Waits.{Waits}
use Rattle.cells.specs.declared.waits.Waits.TheVariants.{Nowhere, Between, From, Upto, Halves}
use Rattle.cells.specs.Joins.{Joinable}
use Rattle.cells.specs.Rosters.{mode_at, roster, waits_without, waits_with, removed}
use Rattle.cells.specs.Views.{state_shown}
use Rattle.cells.proofs.Numbers.{numbered-map}
use Rattle.cells.proofs.Rosters.{roster-same, roster_joins}
use Rattle.cells.proofs.Shown.{state_path}
use Rattle.cells.proofs.Singles.{cell_waiting, waits_row, with_waits, shown-waiting}
use Rattle.cells.proofs.Leaving.{without_mode, roster-removed, roster_in, nobody_behind}

-- where a request that may join p then waits
abbrev Apart : Waits → Mode → Type 0
Apart x m = (q : ℕ) (m' : Mode) → mode_at x q ≡ Some m' → (m' ≡ m → ⊥) × (m ≡ mode.Between → ⊥) × (m' ≡ mode.Between → ⊥)

own : (q : ℕ) → eqb q q ≡ true
own q = grind arith

at_own : {X : Type 0} (q : ℕ) (x y : X) → cond (eqb q q) x y ≡ x
at_own q x y = ap (λ b. cond b x y) (own q)

none_some : {P : Type 0} (m : Mode) → ◌≡◌ {A = Option Mode} (Some m) None → P
none_some m e = absurd (let z : ◌≡◌ {A = ℕ} 0 1 = cc in omega arith)

with_mode : (x : Waits) (p : ℕ) (m : Mode) → Apart x m → mode_at x p ≡ None → (q : ℕ) → mode_at (waits_with x p m) q ≡ cond (eqb q p) (Some m) (mode_at x q)
with_mode Nowhere p mode.Between free out q = grind arith
with_mode Nowhere p mode.From free out q = grind arith
with_mode Nowhere p mode.Upto free out q = grind arith
with_mode (Between a) p m free out q = absurd ((free a mode.Between (at_own a (Some mode.Between) None)).2 refl)
with_mode (From a) p mode.Between free out q = absurd ((free a mode.From (at_own a (Some mode.From) None)).1 refl)
with_mode (From a) p mode.From free out q = absurd ((free a mode.From (at_own a (Some mode.From) None)).0 refl)
with_mode (From a) p mode.Upto free out q = let ne : eqb a p ≡ false = apart (eqb a p) out in grind arith
  where
    apart : (b : Bool) → cond b (Some mode.From) None ≡ None → b ≡ false
    apart true e = none_some mode.From e
    apart false e = refl
with_mode (Upto a) p mode.Between free out q = absurd ((free a mode.Upto (at_own a (Some mode.Upto) None)).1 refl)
with_mode (Upto a) p mode.Upto free out q = absurd ((free a mode.Upto (at_own a (Some mode.Upto) None)).0 refl)
with_mode (Upto a) p mode.From free out q = grind arith
with_mode (Halves a b) p mode.Between free out q = absurd ((free a mode.From (at_own a (Some mode.From) (cond (eqb b a) (Some mode.Upto) None))).1 refl)
with_mode (Halves a b) p mode.From free out q = absurd ((free a mode.From (at_own a (Some mode.From) (cond (eqb b a) (Some mode.Upto) None))).0 refl)
with_mode (Halves a b) p mode.Upto free out q = go (eqb a b) refl
  where
    apart : (c d : Bool) → cond c (Some mode.From) (cond d (Some mode.Upto) None) ≡ None → c ≡ false
    apart true d e = none_some mode.From e
    apart false d e = refl

    go : (c : Bool) → eqb a b ≡ c → mode_at (waits_with (Halves a b) p mode.Upto) q ≡ cond (eqb q p) (Some mode.Upto) (mode_at (Halves a b) q)
    go true is =
        let one = eqb-true a b is in
        let ne : eqb a p ≡ false = apart (eqb a p) (eqb b p) out in
        grind arith
    go false is = absurd ((free b mode.Upto (ap (λ c. cond c (Some mode.From) (cond (eqb b b) (Some mode.Upto) None)) is ∙ at_own b (Some mode.Upto) None)).0 refl)

module _ {K F T : Type 0} (k : key.Ghosts K F) (t : tally.Ghosts T K F) where
  module _ (cells : List (Cell F T)) (count : ℕ) (gate : Slot) (desks : List Desk) (i : ℕ) (c : Cell F T)
      (h : i < count) (e : numbered (take count cells) (suc i) ≡ Some c) where
    at_row : numbered (waits_row cells count) (suc i) ≡ Some c.waits
    at_row = numbered-map (λ x. x.waits) (take count cells) (suc i) ∙ ap (option_map (λ x. x.waits)) e

    by_queue : (s : State K T) (row : List Waits) (p : ℕ) (q : List Waiter) → ((j : ℕ) → roster j 1 row ≡ put s.queue p q j) → with_waits s row ≡ with_queue s p q
    by_queue s row p q same = state_path _ _ refl refl refl refl refl refl refl refl (fun_ext same) refl

    -- request i + 1 leaves p's queue
    pub shown-leaves : (p : ℕ)
        → state_shown k t (set cells i (cell_waiting c (waits_without c.waits p))) count gate desks
        ≡ with_queue (state_shown k t cells count gate desks) p (removed (suc i) (roster p 1 (waits_row cells count)))
    shown-leaves p =
        shown-waiting k t cells count gate desks i c h e (waits_without c.waits p)
        ∙ by_queue (state_shown k t cells count gate desks) (set (waits_row cells count) i (waits_without c.waits p)) p (removed (suc i) (roster p 1 (waits_row cells count))) (λ j. go j (eqb j p) refl)
      where
        go : (j : ℕ) (b : Bool) → eqb j p ≡ b
            → roster j 1 (set (waits_row cells count) i (waits_without c.waits p)) ≡ cond b (removed (suc i) (roster p 1 (waits_row cells count))) (roster j 1 (waits_row cells count))
        go j true is =
            let one : j ≡ p = eqb-true j p is in
            ap (λ v. roster v 1 (set (waits_row cells count) i (waits_without c.waits p))) one
            ∙ roster-removed p 1 (waits_row cells count) i c.waits at_row
            ∙ ap (λ v. removed v (roster p 1 (waits_row cells count))) (let u : 1 + i ≡ suc i = omega arith in u)
        go j false is =
            roster-same j 1 (waits_row cells count) i c.waits (waits_without c.waits p) at_row
            (sym (without_mode c.waits p j ∙ ap (λ b. cond b None (mode_at c.waits j)) is))

    -- request i + 1 joins p's queue
    pub shown_joins : (p : ℕ) (m : Mode) → Joinable (state_shown k t cells count gate desks) (suc i) p m
        → state_shown k t (set cells i (cell_waiting c (waits_with c.waits p m))) count gate desks
        ≡ with_waiter (state_shown k t cells count gate desks) p (suc i) m
    shown_joins p m may =
        shown-waiting k t cells count gate desks i c h e (waits_with c.waits p m)
        ∙ by_queue (state_shown k t cells count gate desks) (set (waits_row cells count) i (waits_with c.waits p m)) p (roster p 1 (waits_row cells count) ++ (record { number = suc i; mode = m } ∷ [])) (λ j. go j (eqb j p) refl)
      where
        number : 1 + i ≡ suc i
        number = omega arith

        in_row : (q : ℕ) (m' : Mode) → mode_at c.waits q ≡ Some m' → stands_in (suc i) m' (roster q 1 (waits_row cells count)) ≡ true
        in_row q m' at = ap (λ v. stands_in v m' (roster q 1 (waits_row cells count))) (sym number) ∙ roster_in q 1 (waits_row cells count) i c.waits m' at_row at

        out : (o : Option Mode) → mode_at c.waits p ≡ o → mode_at c.waits p ≡ None
        out None is = is
        out (Some m') is = let less = may.0 (suc i) (in_stands (suc i) m' (roster p 1 (waits_row cells count)) (in_row p m' is)) in absurd (omega arith)

        modes : (j : ℕ) → mode_at (waits_with c.waits p m) j ≡ cond (eqb j p) (Some m) (mode_at c.waits j)
        modes = with_mode c.waits p m (λ q m' at. may.1 q m' (in_row q m' at)) (out (mode_at c.waits p) refl)

        go : (j : ℕ) (b : Bool) → eqb j p ≡ b
            → roster j 1 (set (waits_row cells count) i (waits_with c.waits p m)) ≡ cond b (roster p 1 (waits_row cells count) ++ (record { number = suc i; mode = m } ∷ [])) (roster j 1 (waits_row cells count))
        go j true is =
            let one : j ≡ p = eqb-true j p is in
            ap (λ v. roster v 1 (set (waits_row cells count) i (waits_with c.waits p m))) one
            ∙ roster_joins p 1 (waits_row cells count) i c.waits (waits_with c.waits p m) m at_row (out (mode_at c.waits p) refl) (modes p ∙ at_own p (Some m) (mode_at c.waits p))
            (nobody_behind p 1 (waits_row cells count) i (λ x st. let l = may.0 x st in omega arith))
            ∙ ap (λ v. roster p 1 (waits_row cells count) ++ (record { number = v; mode = m } ∷ [])) number
        go j false is =
            roster-same j 1 (waits_row cells count) i c.waits (waits_with c.waits p m) at_row
            (sym (modes j ∙ ap (λ b. cond b (Some m) (mode_at c.waits j)) is))
