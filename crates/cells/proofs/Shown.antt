-- A cell of a submitted request is written: what that makes of the state shown. Rests on Numbers.
use Rattle.std.proofs.Common.{◌≡◌, ℕ, suc, ◌<◌, ◌≤◌, min, Bool, true, false, cond, eqb, List, map, length, take, set, Some, None, Option, sym, refl, ap, ap₂, ◌∙◌, length-set}
use mathlib.Core.Path.{fun_ext}
use lib.Seq.{take-set-lt, map-set}
use Rattle.std.specs.Option.{option_map}
use Rattle.keys.specs.declared.key.Key as key
use Rattle.tallies.specs.declared.tally.Tally as tally
use Rattle.rules.specs.Changes.{put}
use Rattle.rules.specs.Queues.{numbered}
use Rattle.rules.specs.States.{State, Place}
use Rattle.rules.specs.States as rules
use Rattle.cells.specs.declared.cell.Cell.{Cell}
use Rattle.cells.specs.declared.desk.Desk.{Desk}
use Rattle.cells.specs.declared.slot.Slot.{Slot}
use Rattle.cells.specs.declared.slot.Slot.TheVariants as slot
use Rattle.cells.specs.declared.waits.Waits.{Waits}
use Rattle.cells.specs.Outcomes.{answer_of}
use Rattle.cells.specs.Rosters.{roster}
use Rattle.cells.specs.Views.{split_of, request_in, key_named, slot_shown, split_named, place_shown, state_shown}
use Rattle.cells.proofs.Numbers.{numbered_bound, numbered-set, map_set_same, mapped_set-same}

-- states with equal parts are equal
pub state_path : {K T : Type 0} (a b : State K T) → a.capacity ≡ b.capacity → a.requests ≡ b.requests → a.asker ≡ b.asker → a.decision ≡ b.decision
    → a.answer ≡ b.answer → a.counted ≡ b.counted → a.slot ≡ b.slot → a.place ≡ b.place → a.queue ≡ b.queue → a.desk ≡ b.desk → a ≡ b
state_path a b p1 p2 p3 p4 p5 p6 p7 p8 p9 p10 = λ i. record {
  capacity = p1 i;
  requests = p2 i;
  asker = p3 i;
  decision = p4 i;
  answer = p5 i;
  counted = p6 i;
  slot = p7 i;
  place = p8 i;
  queue = p9 i;
  desk = p10 i;
}

-- a part of a cell, as a row by number, after a write
pub part_set : {X Y : Type 0} (f : X → Y) (none : Y) (xs : List X) (i : ℕ) (y : X) → i < length xs
    → (λ j. elim (numbered (set xs i y) j) as (λ _. Y) [ None ↦ none | Some c ↦ f c ]) ≡ put (λ j. elim (numbered xs j) as (λ _. Y) [ None ↦ none | Some c ↦ f c ]) (suc i) (f y)
part_set {X = X} {Y = Y} f none xs i y h = fun_ext (λ j. ap (λ o. elim o as (λ _. Y) [ None ↦ none | Some c ↦ f c ]) (numbered-set xs i y j h) ∙ go (eqb j (suc i)) (numbered xs j))
  where
    go : (b : Bool) (o : Option X) → elim (cond b (Some y) o) as (λ _. Y) [ None ↦ none | Some c ↦ f c ] ≡ cond b (f y) (elim o as (λ _. Y) [ None ↦ none | Some c ↦ f c ])
    go true o = refl
    go false o = refl

-- a part that the write leaves
part_same : {X Y : Type 0} (f : X → Y) (none : Y) (xs : List X) (i : ℕ) (x y : X) → numbered xs (suc i) ≡ Some x → f x ≡ f y
    → ◌≡◌ {A = ℕ → Y} (λ j. elim (numbered (set xs i y) j) as (λ _. Y) [ None ↦ none | Some c ↦ f c ]) (λ j. elim (numbered xs j) as (λ _. Y) [ None ↦ none | Some c ↦ f c ])
part_same {X = X} {Y = Y} f none xs i x y e same = fun_ext (λ j. by (numbered (set xs i y) j) ∙ ap (λ o. elim o as (λ _. Y) [ None ↦ none | Some v ↦ v ]) (mapped_set-same f xs i x y j e same) ∙ sym (by (numbered xs j)))
  where
    by : (o : Option X) → elim o as (λ _. Y) [ None ↦ none | Some c ↦ f c ] ≡ elim (option_map f o) as (λ _. Y) [ None ↦ none | Some v ↦ v ]
    by None = refl
    by (Some c) = refl

module _ {K F T : Type 0} (k : key.Ghosts K F) (t : tally.Ghosts T K F) where
  -- a cell whose request is as it was
  pub record SameRequest (c c' : Cell F T) : Type 0 where
    pub station : c.station ≡ c'.station
    pub kind : c.kind ≡ c'.kind
    pub first : c.first ≡ c'.first
    pub second : c.second ≡ c'.second

  -- keys are named as before
  key-same : (live : List (Cell F T)) (i : ℕ) (c c' : Cell F T) → numbered live (suc i) ≡ Some c → SameRequest c c' → (j : ℕ) → key_named k t (set live i c') j ≡ key_named k t live j
  key-same live i c c' e same j = mapped_set-same (λ x. k.made x.first) live i c c' j e (ap k.made same.first)

  slot_same : (live : List (Cell F T)) (i : ℕ) (c c' : Cell F T) → numbered live (suc i) ≡ Some c → SameRequest c c' → (x : Slot) → slot_shown k t (set live i c') x ≡ slot_shown k t live x
  slot_same live i c c' e same slot.Empty = refl
  slot_same live i c c' e same (slot.Key j) = ap (λ o. elim o [ None ↦ rules.empty | Some v ↦ rules.holds v ]) (key-same live i c c' e same j)
  slot_same live i c c' e same (slot.Place p) = refl

  split-same : (live : List (Cell F T)) (i : ℕ) (c c' : Cell F T) → numbered live (suc i) ≡ Some c → SameRequest c c' → (o : Option ℕ) → split_named k t (set live i c') o ≡ split_named k t live o
  split-same live i c c' e same None = refl
  split-same live i c c' e same (Some j) = key-same live i c c' e same j

  place_same : (live : List (Cell F T)) (i : ℕ) (c c' : Cell F T) → numbered live (suc i) ≡ Some c → SameRequest c c' → (x : Cell F T) → place_shown k t (set live i c') x ≡ place_shown k t live x
  place_same live i c c' e same x =
      ap₂ (λ l r. option_map (λ s. record { split = s; left = l; right = r; tally = x.tally }) (split_named k t (set live i c') (split_of x))) (slot_same live i c c' e same x.left) (slot_same live i c c' e same x.right)
      ∙ ap (option_map (λ s. record { split = s; left = slot_shown k t live x.left; right = slot_shown k t live x.right; tally = x.tally })) (split-same live i c c' e same (split_of x))

  -- the state shown with the parts of one cell written
  abbrev pub rewritten : State K T → List Waits → ℕ → Cell F T → Option (Place K T) → State K T
  rewritten s waits i c place = record s {
    decision = put s.decision (suc i) c.decision;
    answer = put s.answer (suc i) (option_map answer_of c.outcome);
    counted = put s.counted (suc i) c.counted;
    place = put s.place (suc i) place;
    queue = λ p. roster p 1 (set waits i c.waits);
  }

  -- writing the cell of a submitted request writes just these parts
  pub shown_rewritten : (cells : List (Cell F T)) (count : ℕ) (gate : Slot) (desks : List Desk) (i : ℕ) (c c' : Cell F T) → i < count → numbered (take count cells) (suc i) ≡ Some c → SameRequest c c'
      → state_shown k t (set cells i c') count gate desks ≡ rewritten (state_shown k t cells count gate desks) (map (λ x. x.waits) (take count cells)) i c' (place_shown k t (take count cells) c')
  shown_rewritten cells count gate desks i c c' h e same =
      state_path _ _
      (ap (min 1024) (length-set cells i c'))
      (ap (map (request_in k t)) live ∙ map_set_same (request_in k t) (take count cells) i c c' e requests)
      (by_part (λ x. x.station) 0 ∙ part_same (λ x. x.station) 0 (take count cells) i c c' e same.station)
      (by_part (λ x. x.decision) None ∙ part_set (λ x. x.decision) None (take count cells) i c' long)
      (by_part (λ x. option_map answer_of x.outcome) None ∙ part_set (λ x. option_map answer_of x.outcome) None (take count cells) i c' long)
      (by_part (λ x. x.counted) t.none ∙ part_set (λ x. x.counted) t.none (take count cells) i c' long)
      (ap (λ v. slot_shown k t v gate) live ∙ slot_same (take count cells) i c c' e same gate)
      (ap (λ v. (λ j. elim (numbered v j) as (λ _. Option (Place K T)) [ None ↦ None | Some x ↦ place_shown k t v x ])) live
      ∙ fun_ext (λ j. ap (λ (f : Cell F T → Option (Place K T)). elim (numbered (set (take count cells) i c') j) as (λ _. Option (Place K T)) [ None ↦ None | Some x ↦ f x ]) (fun_ext (place_same (take count cells) i c c' e same)))
      ∙ part_set (place_shown k t (take count cells)) None (take count cells) i c' long)
      (fun_ext (λ p. ap (λ v. roster p 1 (map (λ x. x.waits) v)) live ∙ ap (roster p 1) (map-set (λ x. x.waits) (take count cells) i c')))
      refl
    where
      live : take count (set cells i c') ≡ set (take count cells) i c'
      live = take-set-lt count cells i c' h

      long : i < length (take count cells)
      long = numbered_bound (take count cells) i c e

      requests : request_in k t c ≡ request_in k t c'
      requests = let a = same.kind in let b = same.first in let d = same.second in cc

      by_part : {Y : Type 0} (f : Cell F T → Y) (none : Y) → ◌≡◌ {A = ℕ → Y} (λ j. elim (numbered (take count (set cells i c')) j) as (λ _. Y) [ None ↦ none | Some x ↦ f x ]) (λ j. elim (numbered (set (take count cells) i c') j) as (λ _. Y) [ None ↦ none | Some x ↦ f x ])
      by_part {Y = Y} f none = ap (λ v. (λ j. elim (numbered v j) as (λ _. Y) [ None ↦ none | Some x ↦ f x ])) live

  -- the same of a row with a cell for each request
  pub shown-set : (cells : List (Cell F T)) (count : ℕ) (gate : Slot) (desks : List Desk) (i : ℕ) (c c' : Cell F T) → i < count → count ≤ length cells → numbered (take count cells) (suc i) ≡ Some c → SameRequest c c'
      → state_shown k t (set cells i c') count gate desks ≡ rewritten (state_shown k t cells count gate desks) (map (λ x. x.waits) (take count cells)) i c' (place_shown k t (take count cells) c')
  shown-set cells count gate desks i c c' h n e same = shown_rewritten cells count gate desks i c c' h e same
