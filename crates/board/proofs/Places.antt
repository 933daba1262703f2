-- What a cell's place shows, and what a write of it makes of the state. Rests on Boards.
use Rattle.std.proofs.Common.{◌≡◌, ℕ, zero, suc, ◌<◌, ◌≤◌, Bool, true, false, cond, List, length, set, Some, None, Option, sym, refl, ap, ◌∙◌, arith, length-take-le}
use lib.ListN.{length-map}
use Rattle.std.specs.Option.{option_map}
use Rattle.keys.specs.declared.key.Key as key
use Rattle.tallies.specs.declared.tally.Tally as tally
use Rattle.rules.specs.Changes.{with_place}
use Rattle.rules.specs.Kinds.{kinds_of, before}
use Rattle.rules.specs.Moves.{on_left, on_right, with_slot_on, with_tally, side_of, with_slot_for, with_joined, made_place}
use Rattle.rules.specs.Queues.{numbered, given}
use Rattle.rules.specs.States.{State, Place}
use Rattle.rules.specs.States as rules
use Rattle.cells.specs.declared.cell.Cell.{Cell}
use Rattle.cells.specs.declared.side.Side.{Side}
use Rattle.cells.specs.declared.side.Side.TheVariants.{Left, Right}
use Rattle.cells.specs.declared.slot.Slot.{Slot}
use Rattle.cells.specs.declared.slot.Slot.TheVariants as slot
use Rattle.cells.specs.Names.{SlotNamed, CellNamed}
use Rattle.cells.specs.Views.{split_of, request_in, slot_shown, split_named, place_shown, state_shown}
use Rattle.cells.proofs.Singles.{cell_placed, shown-placed, shown_unplaced}
use Rattle.board.specs.declared.board.Board.{Board}
use Rattle.board.specs.Cells.{live, key_of, slot_of, slot_beside, tally_of, side_shown}
use Rattle.board.specs.Made.{made_after}
use Rattle.board.specs.Of.{board_state, Turns}
use Rattle.board.specs.Written.{Changed}
use Rattle.board.proofs.Boards.{changed}

module _ {K F T : Type 0} (k : key.Ghosts K F) (t : tally.Ghosts T K F) where
  abbrev place_of : List (Cell F T) → Cell F T → K → Place K T
  place_of cells c s = record { split = s; left = slot_shown k t cells c.left; right = slot_shown k t cells c.right; tally = c.tally }

  -- a place whose split is named is all that its cell says, and no other is shown
  pub made-shown : (cells : List (Cell F T)) (c : Cell F T) (o : Option K) → split_named k t cells (split_of c) ≡ o → place_shown k t cells c ≡ option_map (place_of cells c) o
  made-shown cells c o is = ap (option_map (place_of cells c)) is

  pub split-shown : (cells : List (Cell F T)) (c : Cell F T) → option_map (λ (f : Place K T). f.split) (place_shown k t cells c) ≡ split_named k t cells (split_of c)
  split-shown cells c = go (split_named k t cells (split_of c))
    where
      go : (o : Option K) → option_map (λ (f : Place K T). f.split) (option_map (place_of cells c) o) ≡ o
      go None = refl
      go (Some s) = refl

  module _ (b : Board K T F k t) where
    pub place_at : (p : ℕ) (c : Cell F T) → numbered (live b) p ≡ Some c → (board_state k t b).place p ≡ place_shown k t (live b) c
    place_at p c e = ap (λ o. elim o as (λ _. Option (Place K T)) [ None ↦ None | Some x ↦ place_shown k t (live b) x ]) e

    pub place-past : (p : ℕ) → numbered (live b) p ≡ None → (board_state k t b).place p ≡ None
    place-past p e = ap (λ o. elim o as (λ _. Option (Place K T)) [ None ↦ None | Some x ↦ place_shown k t (live b) x ]) e

    pub given-count : b.count ≤ length b.cells.now → given (board_state k t b) ≡ b.count
    given-count h = length-map (live b) (request_in k t) ∙ length-take-le b.count b.cells.now h

  -- a cell with one of its slots written
  abbrev pub cell_slotted : Cell F T → Side → Slot → Cell F T
  cell_slotted c Left x = record c { left = x }
  cell_slotted c Right x = record c { right = x }

  pub slotted_named : (n : ℕ) (c : Cell F T) (side : Side) (x : Slot) → CellNamed n c → SlotNamed n x → CellNamed n (cell_slotted c side x)
  slotted_named n c Left x h m = (m, h.1, h.2)
  slotted_named n c Right x h m = (h.0, m, h.2)

  -- with its tally joined with a weight
  abbrev pub joined_cell : T → Cell F T → Cell F T
  joined_cell weight c = record c { tally = t.joined c.tally weight }

  -- with a place of two keys, by their numbers
  abbrev pub made_cell : ℕ → ℕ → T → Cell F T → Cell F T
  made_cell low high tally c = record c { made = true; split = high; left = slot.Key low; right = slot.Key high; tally = tally }

  module _ (b b' : Board K T F k t) (p : ℕ) where
    abbrev s : State K T
    s = board_state k t b

    abbrev old : Cell F T → K → Place K T
    old c = place_of (live b) c

    -- the slot on a key's side is written
    pub slot-put : (j v : K) (side : Side) (x : Slot) → option_map (λ (f : Place K T). f.split) (s.place p) ≡ Some v → side_shown side ≡ cond (before (kinds_of k t) j v) on_left on_right
        → Changed b b' p (λ c c'. c' ≡ cell_slotted c side x) → Turns k t b b' (λ _ s'. s' ≡ with_slot_for (kinds_of k t) s p j (slot_of k t b x))
    slot-put j v side x is own r =
        changed k t b b' p (λ c. cell_slotted c side x) r (λ _ s'. s' ≡ with_slot_for (kinds_of k t) s p j (slot_of k t b x))
        (λ e. absurd (let z : None ≡ Some v = sym (ap (option_map (λ (f : Place K T). f.split)) (place-past b p e)) ∙ is in let y : ◌≡◌ {A = ℕ} 0 1 = cc in omega arith))
        (λ i c n h at.
        let here : s.place p ≡ place_shown k t (live b) c = place_at b p c (ap (numbered (live b)) n ∙ at) in
        let split : split_named k t (live b) (split_of c) ≡ Some v = sym (split-shown (live b) c) ∙ ap (option_map (λ (f : Place K T). f.split)) (sym here) ∙ is in
        on_side side i c h at split
        ∙ ap (λ z. with_place s (suc i) (with_slot_on (old c v) z (slot_of k t b x))) own
        ∙ sym (to_place i c n (here ∙ made-shown (live b) c (Some v) split)))
      where
        on_side : (z : Side) (i : ℕ) (c : Cell F T) → i < b.count → numbered (live b) (suc i) ≡ Some c → split_named k t (live b) (split_of c) ≡ Some v
            → state_shown k t (set b.cells.now i (cell_slotted c z x)) b.count b.gate b.desks ≡ with_place s (suc i) (with_slot_on (old c v) (side_shown z) (slot_of k t b x))
        on_side Left i c h at split = shown-placed k t b.cells.now b.count b.gate b.desks i c h at c.made c.split x c.right c.tally (with_slot_on (old c v) on_left (slot_of k t b x)) (made-shown (live b) (cell_slotted c Left x) (Some v) split)
        on_side Right i c h at split = shown-placed k t b.cells.now b.count b.gate b.desks i c h at c.made c.split c.left x c.tally (with_slot_on (old c v) on_right (slot_of k t b x)) (made-shown (live b) (cell_slotted c Right x) (Some v) split)

        to_place : (i : ℕ) (c : Cell F T) → p ≡ suc i → s.place p ≡ Some (old c v) → with_slot_for (kinds_of k t) s p j (slot_of k t b x) ≡ with_place s (suc i) (with_slot_on (old c v) (cond (before (kinds_of k t) j v) on_left on_right) (slot_of k t b x))
        to_place i c n place =
            ap (λ q. with_slot_for (kinds_of k t) s q j (slot_of k t b x)) n
            ∙ ap (λ o. elim o as (λ _. State K T) [ None ↦ s | Some f ↦ with_place s (suc i) (with_slot_on f (side_of (kinds_of k t) f j) (slot_of k t b x)) ]) (ap s.place (sym n) ∙ place)

    -- the tally of a place joined with a weight; a cell without a place shows none
    pub tally-put : (weight : T) → Changed b b' p (λ c c'. c' ≡ joined_cell weight c) → Turns k t b b' (λ _ s'. s' ≡ with_joined (kinds_of k t) s p weight)
    tally-put weight r =
        changed k t b b' p (joined_cell weight) r (λ _ s'. s' ≡ with_joined (kinds_of k t) s p weight)
        (λ e. sym (by_place None (place-past b p e)))
        (λ i c n h at. go i c n h at (split_named k t (live b) (split_of c)) refl)
      where
        by_place : (o : Option (Place K T)) → s.place p ≡ o → with_joined (kinds_of k t) s p weight ≡ elim o as (λ _. State K T) [ None ↦ s | Some f ↦ with_place s p (with_tally f (t.joined f.tally weight)) ]
        by_place o is = ap (λ v. elim v as (λ _. State K T) [ None ↦ s | Some f ↦ with_place s p (with_tally f (t.joined f.tally weight)) ]) is

        go : (i : ℕ) (c : Cell F T) → p ≡ suc i → i < b.count → numbered (live b) (suc i) ≡ Some c → (o : Option K) → split_named k t (live b) (split_of c) ≡ o
            → state_shown k t (set b.cells.now i (joined_cell weight c)) b.count b.gate b.desks ≡ with_joined (kinds_of k t) s p weight
        go i c n h at None is =
            shown_unplaced k t b.cells.now b.count b.gate b.desks i c h at c.made c.split c.left c.right (t.joined c.tally weight) (made-shown (live b) c None is) (made-shown (live b) (joined_cell weight c) None is)
            ∙ sym (by_place None (place_at b p c (ap (numbered (live b)) n ∙ at) ∙ made-shown (live b) c None is))
        go i c n h at (Some v) is =
            shown-placed k t b.cells.now b.count b.gate b.desks i c h at c.made c.split c.left c.right (t.joined c.tally weight) (with_tally (old c v) (t.joined c.tally weight)) (made-shown (live b) (joined_cell weight c) (Some v) is)
            ∙ ap (λ q. with_place s q (with_tally (old c v) (t.joined c.tally weight))) (sym n)
            ∙ sym (by_place (Some (old c v)) (place_at b p c (ap (numbered (live b)) n ∙ at) ∙ made-shown (live b) c (Some v) is))

    key-slot : (i : ℕ) (j : K) → key_of k t b i ≡ Some j → slot_of k t b (slot.Key i) ≡ rules.holds j
    key-slot i j is = ap (λ o. elim o as (λ _. rules.Slot K) [ None ↦ rules.empty | Some v ↦ rules.holds v ]) is

    -- the place that two keys make, by which is the greater
    pub place-made : (other : ℕ) (own held : K) → key_of k t b p ≡ Some own → key_of k t b other ≡ Some held → (ord : Bool) → k.le held own ≡ ord
        → Changed b b' p (λ c c'. c' ≡ made_cell (cond ord other p) (cond ord p other) (t.joined (t.weighed held) (t.weighed own)) c)
        → Turns k t b b' (λ _ s'. s' ≡ made_after k t b p other)
    place-made other own held mine is ord le r =
        changed k t b b' p (made_cell (cond ord other p) (cond ord p other) sum) r (λ _ s'. s' ≡ made_after k t b p other)
        (λ e. absurd (let z : None ≡ Some own = sym (ap (option_map (λ (x : Cell F T). k.made x.first)) e) ∙ mine in let y : ◌≡◌ {A = ℕ} 0 1 = cc in omega arith))
        (λ i c n h at.
        shown-placed k t b.cells.now b.count b.gate b.desks i c h at true (cond ord p other) (slot.Key (cond ord other p)) (slot.Key (cond ord p other)) sum (made_place (kinds_of k t) held own) (shape c ord le)
        ∙ ap (λ q. with_place s q (made_place (kinds_of k t) held own)) (sym n)
        ∙ sym after)
      where
        sum : T
        sum = t.joined (t.weighed held) (t.weighed own)

        after : made_after k t b p other ≡ with_place s p (made_place (kinds_of k t) held own)
        after =
            ap (λ o. elim o as (λ _. State K T) [ None ↦ s | Some v ↦ elim (key_of k t b other) as (λ _. State K T) [ None ↦ s | Some j ↦ with_place s p (made_place (kinds_of k t) j v) ] ]) mine
            ∙ ap (λ o. elim o as (λ _. State K T) [ None ↦ s | Some j ↦ with_place s p (made_place (kinds_of k t) j own) ]) is

        same_place : (low high : K) (l r : rules.Slot K) → (split : K) → split ≡ high → l ≡ rules.holds low → r ≡ rules.holds high
            → ◌≡◌ {A = Option (Place K T)} (Some (record { split = split; left = l; right = r; tally = t.joined (t.weighed held) (t.weighed own) })) (Some (record { split = high; left = rules.holds low; right = rules.holds high; tally = t.joined (t.weighed held) (t.weighed own) }))
        same_place low high l r split a x y = cc

        shape : (c : Cell F T) (z : Bool) → k.le held own ≡ z
            → place_shown k t (live b) (cell_placed c true (cond z p other) (slot.Key (cond z other p)) (slot.Key (cond z p other)) (t.joined (t.weighed held) (t.weighed own))) ≡ Some (made_place (kinds_of k t) held own)
        shape c true u =
            made-shown (live b) (cell_placed c true p (slot.Key other) (slot.Key p) (t.joined (t.weighed held) (t.weighed own))) (Some own) mine
            ∙ same_place held own (slot_of k t b (slot.Key other)) (slot_of k t b (slot.Key p)) own refl (key-slot other held is) (key-slot p own mine)
            ∙ ap (λ z. Some (record { split = cond z own held; left = rules.holds (cond z held own); right = rules.holds (cond z own held); tally = t.joined (t.weighed held) (t.weighed own) })) (sym u)
        shape c false u =
            made-shown (live b) (cell_placed c true other (slot.Key p) (slot.Key other) (t.joined (t.weighed held) (t.weighed own))) (Some held) is
            ∙ same_place own held (slot_of k t b (slot.Key p)) (slot_of k t b (slot.Key other)) held refl (key-slot p own mine) (key-slot other held is)
            ∙ ap (λ z. Some (record { split = cond z own held; left = rules.holds (cond z held own); right = rules.holds (cond z own held); tally = t.joined (t.weighed held) (t.weighed own) })) (sym u)

  -- the gate's slot is written
  pub slot-gate : (b : Board K T F k t) (p : ℕ) (j : K) (x : Slot) → p ≡ 0
      → state_shown k t b.cells.now b.count x b.desks ≡ with_slot_for (kinds_of k t) (board_state k t b) p j (slot_of k t b x)
  slot-gate b p j x e = ap (λ q. with_slot_for (kinds_of k t) (board_state k t b) q j (slot_of k t b x)) (sym e)

  -- no place, no slot
  pub slot-none : (b : Board K T F k t) (p : ℕ) (j : K) (x : Slot) → (p ≡ 0 → ⊥) → (board_state k t b).place p ≡ None → board_state k t b ≡ with_slot_for (kinds_of k t) (board_state k t b) p j (slot_of k t b x)
  slot-none b zero j x ne e = absurd (ne refl)
  slot-none b (suc i) j x ne e = ap (λ o. elim o as (λ _. State K T) [ None ↦ board_state k t b | Some f ↦ with_place (board_state k t b) (suc i) (with_slot_on f (side_of (kinds_of k t) f j) (slot_of k t b x)) ]) (sym e)

  -- a place with a split, by what its cell holds
  pub placed : (b : Board K T F k t) (p : ℕ) (v : K) → option_map (λ (f : Place K T). f.split) ((board_state k t b).place p) ≡ Some v
      → (board_state k t b).place p ≡ Some (record { split = v; left = slot_of k t b (slot_beside b p Left); right = slot_of k t b (slot_beside b p Right); tally = tally_of k t b p })
  placed b p v is = go (numbered (live b) p) refl
    where
      go : (o : Option (Cell F T)) → numbered (live b) p ≡ o
          → (board_state k t b).place p ≡ Some (record { split = v; left = slot_of k t b (slot_beside b p Left); right = slot_of k t b (slot_beside b p Right); tally = tally_of k t b p })
      go None e = absurd (let z : None ≡ Some v = sym (ap (option_map (λ (f : Place K T). f.split)) (place-past b p e)) ∙ is in let y : ◌≡◌ {A = ℕ} 0 1 = cc in omega arith)
      go (Some c) e =
          let here = place_at b p c e in
          here
          ∙ made-shown (live b) c (Some v) (sym (split-shown (live b) c) ∙ ap (option_map (λ (f : Place K T). f.split)) (sym here) ∙ is)
          ∙ ap (λ o. Some (record {
            split = v;
            left = slot_of k t b (elim o as (λ _. Slot) [ None ↦ slot.Empty | Some x ↦ x.left ]);
            right = slot_of k t b (elim o as (λ _. Slot) [ None ↦ slot.Empty | Some x ↦ x.right ]);
            tally = elim o as (λ _. T) [ None ↦ t.none | Some x ↦ x.tally ];
          })) (sym e)
