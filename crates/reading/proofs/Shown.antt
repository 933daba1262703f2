-- What the walk names are the keys of the state shown, where numbers rise. Rests on Numbers.
use Rattle.std.proofs.Common.{◌≡◌, ℕ, zero, suc, true, cond, List, [], ◌++◌, map, length, take, is_some, Some, None, Option, sym, refl, ap, ◌∙◌, ap₂, arith}
use mathlib.Core.List.{map-append}
use lib.ListN.{length-map}
use Rattle.std.specs.Option.{option_map}
use Rattle.std.proofs.lemmas.Bool.{lt-ltb, le-leb}
use Rattle.std.proofs.lemmas.List.Elements.{filter_map-append}
use Rattle.std.specs.List.{cons_option}
use Rattle.keys.specs.declared.key.Key as key
use Rattle.tallies.specs.declared.tally.Tally as tally
use Rattle.rules.specs.States.{State}
use Rattle.rules.specs.States as rules
use Rattle.rules.specs.Queues.{numbered}
use Rattle.rules.specs.Moves.{Side, on_left, on_right, slot_on}
use Rattle.rules.specs.Sound.{slot_at, is_made}
use Rattle.rules.specs.ReadOff.{keys_under, keys_listed}
use Rattle.cells.specs.declared.cell.Cell.{Cell}
use Rattle.cells.specs.declared.desk.Desk.{Desk}
use Rattle.cells.specs.declared.side.Side.TheVariants.{Left, Right}
use Rattle.cells.specs.declared.slot.Slot.{Slot}
use Rattle.cells.specs.declared.slot.Slot.TheVariants.{Empty, Key, Place}
use Rattle.cells.specs.Views.{split_of, request_in, slot_shown, split_named, place_shown, state_shown}
use Rattle.reading.specs.Walks.{rising_from, is_split, slot_in, first_named, visits, firsts_named, firsts_under}
use Rattle.reading.specs.Promises.{Rising}
use Rattle.cells.proofs.Numbers.{numbered_zero}
use Rattle.reading.proofs.Numbers.{number-within}

module _ {K F T : Type 0} (k : key.Ghosts K F) (t : tally.Ghosts T K F) (cells : List (Cell F T)) (count : ℕ) (gate : Slot) (desks : List Desk)
    (r : Rising (state_shown k t cells count gate desks)) where
  abbrev live : List (Cell F T)
  live = take count cells

  abbrev shown : State K T
  shown = state_shown k t cells count gate desks

  -- a place that is made has a cell
  made-number : (f : ℕ) → is_made shown f ≡ true → is_some (numbered live f) ≡ true
  made-number f = go (numbered live f)
    where
      go : (o : Option (Cell F T)) → is_some (elim o as (λ _. Option (rules.Place K T)) [ None ↦ None | Some c ↦ place_shown k t live c ]) ≡ true → is_some o ≡ true
      go None e = e
      go (Some c) e = refl

  -- a slot of the state is as the walk takes it
  rises_as : (p : ℕ) (side : Side) (x : Slot) → slot_at shown p side ≡ slot_shown k t live x → rising_from p (length live) x ≡ x
  rises_as p side Empty e = refl
  rises_as p side (Key i) e = refl
  rises_as p side (Place f) e =
      let v = r p side f e in
      let w = number-within live f (made-number f v.1) in
      ap₂ (λ a b. cond a (cond b (Place f) Empty) Empty) (lt-ltb p f v.0) (le-leb f (length live) w.1)

  abbrev place_of : Cell F T → K → rules.Place K T
  place_of c s = record { split = s; left = slot_shown k t live c.left; right = slot_shown k t live c.right; tally = c.tally }

  module _ (p : ℕ) (c : Cell F T) (is : numbered live p ≡ Some c) (s : K) (split : split_named k t live (split_of c) ≡ Some s) where
    place_is : shown.place p ≡ Some (place_of c s)
    place_is = ap (λ o. elim o as (λ _. Option (rules.Place K T)) [ None ↦ None | Some x ↦ place_shown k t live x ]) is ∙ ap (option_map (place_of c)) split

    slot_is : (side : Side) → slot_at shown p side ≡ slot_on (place_of c s) side
    slot_is = go p refl
      where
        go : (q : ℕ) → p ≡ q → (side : Side) → slot_at shown q side ≡ slot_on (place_of c s) side
        go zero e side = absurd (let zero-there = ap (numbered live) e ∙ numbered_zero live in let one : ◌≡◌ {A = ℕ} 0 1 = cc in omega arith)
        go (suc q) e side = ap (λ o. elim o as (λ _. rules.Slot K) [ None ↦ rules.empty | Some f ↦ slot_on f side ]) (ap shown.place (sym e) ∙ place_is)

    left_as : rising_from p (length live) c.left ≡ c.left
    left_as = rises_as p on_left c.left (slot_is on_left)

    right_as : rising_from p (length live) c.right ≡ c.right
    right_as = rises_as p on_right c.right (slot_is on_right)

  abbrev Same : ℕ → Type 0
  Same d = (x : Slot) → keys_under shown d (slot_shown k t live x) ≡ map k.made (firsts_named live (visits live d x))

  abbrev below : ℕ → Option (rules.Place K T) → List K
  below d o = elim o as (λ _. List K) [ None ↦ [] | Some f ↦ keys_under shown d f.left ++ keys_under shown d f.right ]

  abbrev walked : ℕ → Slot → Slot → List K
  walked d l r = map k.made (firsts_named live (visits live d l ++ visits live d r))

  -- the keys under a slot are those that the walk names
  keys_same : (d : ℕ) (x : Slot) → keys_under shown d (slot_shown k t live x) ≡ map k.made (firsts_named live (visits live d x))
  keys_same d Empty = refl
  keys_same d (Key i) = go (numbered live i)
    where
      go : (o : Option (Cell F T)) → keys_under shown d (elim (option_map (λ c. k.made c.first) o) as (λ _. rules.Slot K) [ None ↦ rules.empty | Some j ↦ rules.holds j ]) ≡ map k.made (cons_option (option_map (λ c. c.first) o) [])
      go None = refl
      go (Some c) = refl
  keys_same zero (Place p) = refl
  keys_same (suc d) (Place p) = go (keys_same d) (numbered live p) refl
    where
      both : Same d → (c : Cell F T) → numbered live p ≡ Some c → (s : K) → split_named k t live (split_of c) ≡ Some s
          → below d (Some (place_of c s)) ≡ walked d (rising_from p (length live) c.left) (rising_from p (length live) c.right)
      both ih c is s split =
          ap₂ (λ a b. a ++ b) (ih c.left) (ih c.right)
          ∙ sym (map-append k.made (firsts_named live (visits live d c.left)) (firsts_named live (visits live d c.right)))
          ∙ ap (map k.made) (sym (filter_map-append (first_named live) (visits live d c.left) (visits live d c.right)))
          ∙ ap₂ (walked d) (sym (left_as p c is s split)) (sym (right_as p c is s split))

      -- a split names a key where it is the number of a cell
      by_number : Same d → (c : Cell F T) → numbered live p ≡ Some c → (i : ℕ) → split_of c ≡ Some i → (m : Option (Cell F T)) → numbered live i ≡ m
          → below d (option_map (place_of c) (option_map (λ x. k.made x.first) m)) ≡ walked d (cond (is_some m) (rising_from p (length live) c.left) Empty) (cond (is_some m) (rising_from p (length live) c.right) Empty)
      by_number ih c is i split None e = refl
      by_number ih c is i split (Some z) e = both ih c is (k.made z.first) (ap (split_named k t live) split ∙ ap (option_map (λ x. k.made x.first)) e)

      by_split : Same d → (c : Cell F T) → numbered live p ≡ Some c → (o : Option ℕ) → split_of c ≡ o
          → below d (option_map (place_of c) (split_named k t live o)) ≡ walked d (cond (is_split live o) (rising_from p (length live) c.left) Empty) (cond (is_split live o) (rising_from p (length live) c.right) Empty)
      by_split ih c is None e = refl
      by_split ih c is (Some i) e = by_number ih c is i e (numbered live i) refl

      go : Same d → (o : Option (Cell F T)) → numbered live p ≡ o
          → below d (elim o as (λ _. Option (rules.Place K T)) [ None ↦ None | Some c ↦ place_shown k t live c ])
          ≡ walked d (elim o as (λ _. Slot) [ None ↦ Empty | Some c ↦ slot_in live p Left c ]) (elim o as (λ _. Slot) [ None ↦ Empty | Some c ↦ slot_in live p Right c ])
      go ih None is = refl
      go ih (Some c) is = by_split ih c is (split_of c) refl

  -- all keys of the state are those that the walk from the gate names
  pub listed_same : keys_listed shown ≡ map k.made (firsts_under live gate)
  listed_same =
      ap (λ d. keys_under shown d (slot_shown k t live gate)) (length-map live (request_in k t))
      ∙ keys_same (length live) gate
      ∙ ap (λ x. map k.made (firsts_named live (visits live (length live) x))) (sym (rises_as 0 on_left gate refl))
