-- One part of a submitted request's cell written: which single change of the state that shows. Rests on Shown.
use Rattle.std.proofs.Common.{◌≡◌, ℕ, suc, ◌<◌, Bool, true, false, cond, eqb, List, map, take, set, Some, None, Option, sym, refl, ap, ◌∙◌}
use mathlib.Core.Path.{fun_ext}
use Rattle.std.specs.Option.{option_map}
use Rattle.std.proofs.lemmas.Bool.{eqb-true}
use Rattle.keys.specs.declared.key.Key as key
use Rattle.tallies.specs.declared.tally.Tally as tally
use Rattle.rules.specs.Changes.{put, with_decision, with_answer, with_counted, with_place}
use Rattle.rules.specs.Queues.{numbered}
use Rattle.rules.specs.States.{State, Place, Waiter}
use Rattle.cells.specs.declared.cell.Cell.{Cell}
use Rattle.cells.specs.declared.desk.Desk.{Desk}
use Rattle.cells.specs.declared.outcome.Outcome.{Outcome}
use Rattle.cells.specs.declared.slot.Slot.{Slot}
use Rattle.cells.specs.declared.waits.Waits.{Waits}
use Rattle.cells.specs.Outcomes.{answer_of}
use Rattle.cells.specs.Rosters.{roster}
use Rattle.cells.specs.Views.{place_shown, state_shown}
use Rattle.cells.proofs.Numbers.{map_set_same}
use Rattle.cells.proofs.Shown.{state_path, SameRequest, shown_rewritten}
use lib.Seq.{map-set}

-- writing what stands there changes nothing
pub put_same : {X : Type 0} (f : ℕ → X) (n : ℕ) (x : X) → f n ≡ x → put f n x ≡ f
put_same f n x e = fun_ext (λ i. go i (eqb i n) refl)
  where
    go : (i : ℕ) (b : Bool) → eqb i n ≡ b → cond b x (f i) ≡ f i
    go i true is = sym e ∙ ap f (sym (eqb-true i n is))
    go i false is = refl

-- the requests' rows of waits with one of them written as it was
waits-same : {F T : Type 0} (xs : List (Cell F T)) (i : ℕ) (c : Cell F T) (w : Waits) → numbered xs (suc i) ≡ Some c → c.waits ≡ w
    → set (map (λ x. x.waits) xs) i w ≡ map (λ x. x.waits) xs
waits-same xs i c w e same = ap (set (map (λ x. x.waits) xs) i) (sym same) ∙ sym (map-set (λ x. x.waits) xs i c) ∙ map_set_same (λ x. x.waits) xs i c c e refl

-- a cell with its decision written
abbrev pub cell_decided : {F T : Type 0} → Cell F T → Bool → Cell F T
cell_decided c d = record c { decision = Some d }

-- with its outcome
abbrev pub cell_answered : {F T : Type 0} → Cell F T → Outcome → Cell F T
cell_answered c o = record c { outcome = Some o }

-- with its tally so far
abbrev pub cell_counted : {F T : Type 0} → Cell F T → T → Cell F T
cell_counted c v = record c { counted = v }

-- with where it waits
abbrev pub cell_waiting : {F T : Type 0} → Cell F T → Waits → Cell F T
cell_waiting c w = record c { waits = w }

-- with its place
abbrev pub cell_placed : {F T : Type 0} → Cell F T → Bool → ℕ → Slot → Slot → T → Cell F T
cell_placed c m s l r v = record c { made = m; split = s; left = l; right = r; tally = v }

-- where all requests wait, by number
abbrev pub waits_row : {F T : Type 0} → List (Cell F T) → ℕ → List Waits
waits_row cells count = map (λ x. x.waits) (take count cells)

-- the state with who waits where written anew
abbrev pub with_waits : {K T : Type 0} → State K T → List Waits → State K T
with_waits s row = record s { queue = λ p. roster p 1 row }

-- the state with what a number shows as its place
abbrev pub with_place_shown : {K T : Type 0} → State K T → ℕ → Option (Place K T) → State K T
with_place_shown s p o = record s { place = put s.place p o }

module _ {K F T : Type 0} (k : key.Ghosts K F) (t : tally.Ghosts T K F) where
  module _ (cells : List (Cell F T)) (count : ℕ) (gate : Slot) (desks : List Desk) (i : ℕ) (c : Cell F T)
      (h : i < count) (e : numbered (take count cells) (suc i) ≡ Some c) where
    -- a part that is written as it was
    kept : {Y : Type 0} (f : Cell F T → Y) (none : Y)
        → put (λ j. elim (numbered (take count cells) j) as (λ _. Y) [ None ↦ none | Some x ↦ f x ]) (suc i) (f c) ≡ (λ j. elim (numbered (take count cells) j) as (λ _. Y) [ None ↦ none | Some x ↦ f x ])
    kept {Y = Y} f none = put_same (λ j. elim (numbered (take count cells) j) as (λ _. Y) [ None ↦ none | Some x ↦ f x ]) (suc i) (f c) (ap (λ o. elim o as (λ _. Y) [ None ↦ none | Some x ↦ f x ]) e)

    same : SameRequest k t c c
    same = record { station = refl; kind = refl; first = refl; second = refl }

    waits_kept : ◌≡◌ {A = ℕ → List Waiter} (λ p. roster p 1 (set (map (λ x. x.waits) (take count cells)) i c.waits)) (λ p. roster p 1 (map (λ x. x.waits) (take count cells)))
    waits_kept = ap (λ v. (λ p. roster p 1 v)) (waits-same (take count cells) i c c.waits e refl)

    pub shown-decided : (d : Bool) → state_shown k t (set cells i (cell_decided c d)) count gate desks ≡ with_decision (state_shown k t cells count gate desks) (suc i) d
    shown-decided d =
        shown_rewritten k t cells count gate desks i c (cell_decided c d) h e (record { station = refl; kind = refl; first = refl; second = refl })
        ∙ state_path _ _ refl refl refl refl (kept (λ x. option_map answer_of x.outcome) None) (kept (λ x. x.counted) t.none) refl (kept (place_shown k t (take count cells)) None) (waits_kept) refl

    pub shown-answered : (o : Outcome) → state_shown k t (set cells i (cell_answered c o)) count gate desks ≡ with_answer (state_shown k t cells count gate desks) (suc i) (answer_of o)
    shown-answered o =
        shown_rewritten k t cells count gate desks i c (cell_answered c o) h e (record { station = refl; kind = refl; first = refl; second = refl })
        ∙ state_path _ _ refl refl refl (kept (λ x. x.decision) None) refl (kept (λ x. x.counted) t.none) refl (kept (place_shown k t (take count cells)) None) (waits_kept) refl

    pub shown-counted : (v : T) → state_shown k t (set cells i (cell_counted c v)) count gate desks ≡ with_counted (state_shown k t cells count gate desks) (suc i) v
    shown-counted v =
        shown_rewritten k t cells count gate desks i c (cell_counted c v) h e (record { station = refl; kind = refl; first = refl; second = refl })
        ∙ state_path _ _ refl refl refl (kept (λ x. x.decision) None) (kept (λ x. option_map answer_of x.outcome) None) refl refl (kept (place_shown k t (take count cells)) None) (waits_kept) refl

    pub shown-waiting : (w : Waits) → state_shown k t (set cells i (cell_waiting c w)) count gate desks ≡ with_waits (state_shown k t cells count gate desks) (set (waits_row cells count) i w)
    shown-waiting w =
        shown_rewritten k t cells count gate desks i c (cell_waiting c w) h e (record { station = refl; kind = refl; first = refl; second = refl })
        ∙ state_path _ _ refl refl refl (kept (λ x. x.decision) None) (kept (λ x. option_map answer_of x.outcome) None) (kept (λ x. x.counted) t.none) refl (kept (place_shown k t (take count cells)) None) refl refl

    -- whatever the cell then shows as its place
    pub shown-place : (m : Bool) (sp : ℕ) (l r : Slot) (v : T)
        → state_shown k t (set cells i (cell_placed c m sp l r v)) count gate desks ≡ with_place_shown (state_shown k t cells count gate desks) (suc i) (place_shown k t (take count cells) (cell_placed c m sp l r v))
    shown-place m sp l r v =
        shown_rewritten k t cells count gate desks i c (cell_placed c m sp l r v) h e (record { station = refl; kind = refl; first = refl; second = refl })
        ∙ state_path _ _ refl refl refl (kept (λ x. x.decision) None) (kept (λ x. option_map answer_of x.outcome) None) (kept (λ x. x.counted) t.none) refl refl (waits_kept) refl

    pub shown-placed : (m : Bool) (sp : ℕ) (l r : Slot) (v : T) (f : Place K T) → place_shown k t (take count cells) (cell_placed c m sp l r v) ≡ Some f
        → state_shown k t (set cells i (cell_placed c m sp l r v)) count gate desks ≡ with_place (state_shown k t cells count gate desks) (suc i) f
    shown-placed m sp l r v f is = shown-place m sp l r v ∙ ap (with_place_shown (state_shown k t cells count gate desks) (suc i)) is

    -- no place before, and none now
    pub shown_unplaced : (m : Bool) (sp : ℕ) (l r : Slot) (v : T) → place_shown k t (take count cells) c ≡ None → place_shown k t (take count cells) (cell_placed c m sp l r v) ≡ None
        → state_shown k t (set cells i (cell_placed c m sp l r v)) count gate desks ≡ state_shown k t cells count gate desks
    shown_unplaced m sp l r v was is =
        shown-place m sp l r v
        ∙ ap (with_place_shown (state_shown k t cells count gate desks) (suc i)) (is ∙ sym was)
        ∙ state_path _ _ refl refl refl refl refl refl refl (kept (place_shown k t (take count cells)) None) refl refl
