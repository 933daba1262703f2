-- A request more in the next cell: what that makes of the state shown. Rests on Shown and Rosters.
use Rattle.std.proofs.Common.{◌≡◌, ℕ, zero, suc, ◌+◌, ◌<◌, ◌≤◌, min, Bool, true, false, cond, eqb, List, [], ◌∷◌, ◌++◌, map, length, take, set, Some, None, Option, sym, refl, ap, ap₂, ◌∙◌, subst, add-one, arith, length-set, length-take-le}
use mathlib.Core.Path.{fun_ext}
use mathlib.Core.List.{map-append}
use lib.ListN.{length-map}
use Rattle.std.specs.Bool.{then_some}
use Rattle.std.specs.Option.{option_map}
use Rattle.std.proofs.lemmas.List.{take_more_set, append-nil}
use Rattle.keys.specs.declared.key.Key as key
use Rattle.tallies.specs.declared.tally.Tally as tally
use Rattle.requests.specs.declared.request.Request.{Request}
use Rattle.rules.specs.declared.mode.Mode.TheVariants as mode
use Rattle.rules.specs.declared.note.Note.TheVariants as note
use Rattle.rules.specs.Changes.{put, with_request, with_waiter, with_uncollected}
use Rattle.rules.specs.Queues.{numbered}
use Rattle.rules.specs.States.{Place}
use Rattle.rules.specs.States as rules
use Rattle.cells.specs.declared.cell.Cell.{Cell}
use Rattle.cells.specs.declared.desk.Desk.{Desk}
use Rattle.cells.specs.declared.slot.Slot.{Slot}
use Rattle.cells.specs.declared.slot.Slot.TheVariants as slot
use Rattle.cells.specs.declared.waits.Waits.TheVariants as waits
use Rattle.cells.specs.Outcomes.{answer_of}
use Rattle.cells.specs.Names.{SlotNamed, SplitNamed, CellNamed, CellsNamed}
use Rattle.cells.specs.Rosters.{roster, waiter_if, mode_at}
use Rattle.cells.specs.Views.{split_of, request_in, key_named, slot_shown, split_named, place_shown, state_shown}
use Rattle.cells.proofs.Numbers.{numbered_more, numbered-set}
use Rattle.cells.proofs.Rosters.{roster_more}
use Rattle.cells.proofs.Shown.{state_path}

-- a part of a cell as a row by number, with one cell more
part_more : {X Y : Type 0} (f : X → Y) (none : Y) (xs : List X) (y : X)
    → ◌≡◌ {A = ℕ → Y} (λ j. elim (numbered (xs ++ (y ∷ [])) j) as (λ _. Y) [ None ↦ none | Some c ↦ f c ]) (put (λ j. elim (numbered xs j) as (λ _. Y) [ None ↦ none | Some c ↦ f c ]) (suc (length xs)) (f y))
part_more {X = X} {Y = Y} f none xs y = fun_ext (λ j. ap (λ o. elim o as (λ _. Y) [ None ↦ none | Some c ↦ f c ]) (numbered_more xs y j) ∙ go (eqb j (suc (length xs))) (numbered xs j))
  where
    go : (b : Bool) (o : Option X) → elim (cond b (Some y) o) as (λ _. Y) [ None ↦ none | Some c ↦ f c ] ≡ cond b (f y) (elim o as (λ _. Y) [ None ↦ none | Some c ↦ f c ])
    go true o = refl
    go false o = refl

-- nothing stands behind the last number, so writing there what stands for nothing changes nothing
past : {X Y : Type 0} (f : X → Y) (none : Y) (xs : List X) (j : ℕ) → suc (length xs) ≡ j → elim (numbered xs j) as (λ _. Y) [ None ↦ none | Some c ↦ f c ] ≡ none
past f none [] j e = refl
past f none (x ∷ xs) zero e = absurd (omega arith)
past f none (x ∷ xs) (suc zero) e = absurd (omega arith)
past f none (x ∷ xs) (suc (suc j)) e = past f none xs (suc j) (omega arith)

put-none : {X Y : Type 0} (f : X → Y) (none : Y) (xs : List X)
    → ◌≡◌ {A = ℕ → Y} (put (λ j. elim (numbered xs j) as (λ _. Y) [ None ↦ none | Some c ↦ f c ]) (suc (length xs)) none) (λ j. elim (numbered xs j) as (λ _. Y) [ None ↦ none | Some c ↦ f c ])
put-none {Y = Y} f none xs = fun_ext (λ j. go j (eqb j (suc (length xs))) refl)
  where
    go : (j : ℕ) (b : Bool) → eqb j (suc (length xs)) ≡ b → cond b none (elim (numbered xs j) as (λ _. Y) [ None ↦ none | Some c ↦ f c ]) ≡ elim (numbered xs j) as (λ _. Y) [ None ↦ none | Some c ↦ f c ]
    go j true e = let is : suc (length xs) ≡ j = grind arith in sym (past f none xs j is)
    go j false e = refl

module _ {K F T : Type 0} (k : key.Ghosts K F) (t : tally.Ghosts T K F) where
  key_more : (live : List (Cell F T)) (c : Cell F T) (i : ℕ) → i ≤ length live → key_named k t (live ++ (c ∷ [])) i ≡ key_named k t live i
  key_more live c i h = ap (option_map (λ x. k.made x.first)) (numbered_more live c i ∙ ap (λ b. cond b (Some c) (numbered live i)) (let e : eqb i (suc (length live)) ≡ false = grind arith in e))

  slot_more : (live : List (Cell F T)) (c : Cell F T) (x : Slot) → SlotNamed (length live) x → slot_shown k t (live ++ (c ∷ [])) x ≡ slot_shown k t live x
  slot_more live c slot.Empty h = refl
  slot_more live c (slot.Key i) h = ap (λ o. elim o [ None ↦ rules.empty | Some v ↦ rules.holds v ]) (key_more live c i h)
  slot_more live c (slot.Place p) h = refl

  split_more : (live : List (Cell F T)) (c : Cell F T) (o : Option ℕ) → SplitNamed (length live) o → split_named k t (live ++ (c ∷ [])) o ≡ split_named k t live o
  split_more live c None h = refl
  split_more live c (Some i) h = key_more live c i h

  place_more : (live : List (Cell F T)) (c x : Cell F T) → CellNamed (length live) x → place_shown k t (live ++ (c ∷ [])) x ≡ place_shown k t live x
  place_more live c x h =
      ap₂ (λ l r. option_map (λ s. record { split = s; left = l; right = r; tally = x.tally }) (split_named k t (live ++ (c ∷ [])) (split_of x))) (slot_more live c x.left h.0) (slot_more live c x.right h.1)
      ∙ ap (option_map (λ s. record { split = s; left = slot_shown k t live x.left; right = slot_shown k t live x.right; tally = x.tally })) (split_more live c (split_of x) h.2)

  -- the places of all cells are shown as before
  places_more : (live : List (Cell F T)) (c : Cell F T) (xs : List (Cell F T)) → CellsNamed (length live) xs → (j : ℕ)
      → elim (numbered xs j) as (λ _. Option (Place K T)) [ None ↦ None | Some x ↦ place_shown k t (live ++ (c ∷ [])) x ] ≡ elim (numbered xs j) as (λ _. Option (Place K T)) [ None ↦ None | Some x ↦ place_shown k t live x ]
  places_more live c [] h j = refl
  places_more live c (x ∷ xs) h zero = refl
  places_more live c (x ∷ xs) h (suc zero) = place_more live c x h.0
  places_more live c (x ∷ xs) h (suc (suc j)) = places_more live c xs h.1 (suc j)

  -- a cell that is the next request, at the gate and without a place
  pub record NextCell (n : ℕ) (r : Request K) (c : Cell F T) : Type 0 where
    pub station : c.station ≡ n
    pub request : request_in k t c ≡ r
    pub decision : c.decision ≡ None
    pub outcome : c.outcome ≡ None
    pub counted : c.counted ≡ t.none
    pub waits : c.waits ≡ waits.Between 0
    pub made : c.made ≡ false

  -- a cell whose place is not made shows none
  unmade : (live : List (Cell F T)) (c : Cell F T) → c.made ≡ false → place_shown k t live c ≡ None
  unmade live c e = ap (λ b. option_map (λ s. record { split = s; left = slot_shown k t live c.left; right = slot_shown k t live c.right; tally = c.tally }) (split_named k t live (then_some b c.split))) e

  -- the desk of station n with its uncollected request written
  desk-set : (desks : List Desk) (n : ℕ) (d : Desk) (v : Option ℕ) → n < length desks → numbered desks (suc n) ≡ Some d
      → ◌≡◌ {A = ℕ → rules.Desk} (λ j. elim (numbered (set desks n (record { note = d.note; uncollected = v })) j) as (λ _. rules.Desk) [ None ↦ record { note = note.None; uncollected = None } | Some e ↦ record { note = e.note; uncollected = e.uncollected } ])
      (put (λ j. elim (numbered desks j) as (λ _. rules.Desk) [ None ↦ record { note = note.None; uncollected = None } | Some e ↦ record { note = e.note; uncollected = e.uncollected } ]) (suc n) (record { note = d.note; uncollected = v }))
  desk-set desks n d v h e = fun_ext (λ j. ap (λ o. elim o as (λ _. rules.Desk) [ None ↦ record { note = note.None; uncollected = None } | Some e ↦ record { note = e.note; uncollected = e.uncollected } ]) (numbered-set desks n (record { note = d.note; uncollected = v }) j h) ∙ go (eqb j (suc n)) (numbered desks j))
    where
      go : (b : Bool) (o : Option Desk) → elim (cond b (Some (record { note = d.note; uncollected = v })) o) as (λ _. rules.Desk) [ None ↦ record { note = note.None; uncollected = None } | Some e ↦ record { note = e.note; uncollected = e.uncollected } ] ≡ cond b (record { note = d.note; uncollected = v }) (elim o as (λ _. rules.Desk) [ None ↦ record { note = note.None; uncollected = None } | Some e ↦ record { note = e.note; uncollected = e.uncollected } ])
      go true o = refl
      go false o = refl

  -- the next cell and the station's desk written: the state after an accepted submit
  pub shown-submit : (cells : List (Cell F T)) (count : ℕ) (gate : Slot) (desks : List Desk) (n : ℕ) (r : Request K) (c : Cell F T) (d : Desk)
      → count < length cells → n < length desks → numbered desks (suc n) ≡ Some d → NextCell (suc n) r c → SlotNamed count gate → CellsNamed count (take count cells)
      → state_shown k t (set cells count c) (suc count) gate (set desks n (record { note = d.note; uncollected = Some (suc count) }))
      ≡ with_uncollected (with_waiter (with_request (state_shown k t cells count gate desks) (suc count) (suc n) r) 0 (suc count) mode.Between) (suc n) (Some (suc count))
  shown-submit cells count gate desks n r c d h m e next named all =
      state_path _ _
      (ap (min 1024) (length-set cells count c))
      (ap (map (request_in k t)) live ∙ map-append (request_in k t) (take count cells) (c ∷ []) ∙ ap (λ v. map (request_in k t) (take count cells) ++ (v ∷ [])) next.request)
      (by_part (λ x. x.station) 0 ∙ part_more (λ x. x.station) 0 (take count cells) c ∙ ap (λ i. put (λ j. elim (numbered (take count cells) j) as (λ _. ℕ) [ None ↦ 0 | Some x ↦ x.station ]) (suc i) c.station) long ∙ ap (put (λ j. elim (numbered (take count cells) j) as (λ _. ℕ) [ None ↦ 0 | Some x ↦ x.station ]) (suc count)) next.station)
      (nothing (λ x. x.decision) None next.decision)
      (nothing (λ x. option_map answer_of x.outcome) None (ap (option_map answer_of) next.outcome))
      (nothing (λ x. x.counted) t.none next.counted)
      (ap (λ v. slot_shown k t v gate) live ∙ slot_more (take count cells) c gate (subst (λ i. SlotNamed i gate) (sym long) named))
      (ap (λ v. (λ j. elim (numbered v j) as (λ _. Option (Place K T)) [ None ↦ None | Some x ↦ place_shown k t v x ])) live
      ∙ part_more (place_shown k t (take count cells ++ (c ∷ []))) None (take count cells) c
      ∙ ap (put (λ j. elim (numbered (take count cells) j) as (λ _. Option (Place K T)) [ None ↦ None | Some x ↦ place_shown k t (take count cells ++ (c ∷ [])) x ]) (suc (length (take count cells)))) (unmade (take count cells ++ (c ∷ [])) c next.made)
      ∙ put-none (place_shown k t (take count cells ++ (c ∷ []))) None (take count cells)
      ∙ fun_ext (places_more (take count cells) c (take count cells) (subst (λ i. CellsNamed i (take count cells)) (sym long) all)))
      (fun_ext (λ p. queue p))
      (desk-set desks n d (Some (suc count)) m e ∙ ap (λ v. put (λ j. elim (numbered desks j) as (λ _. rules.Desk) [ None ↦ record { note = note.None; uncollected = None } | Some e ↦ record { note = e.note; uncollected = e.uncollected } ]) (suc n) (record { note = v; uncollected = Some (suc count) })) (sym (ap (λ o. (elim o as (λ _. rules.Desk) [ None ↦ record { note = note.None; uncollected = None } | Some e ↦ record { note = e.note; uncollected = e.uncollected } ]).note) e)))
    where
      live : take (suc count) (set cells count c) ≡ take count cells ++ (c ∷ [])
      live = ap (λ i. take i (set cells count c)) (sym (add-one count)) ∙ take_more_set cells count c h

      long : length (take count cells) ≡ count
      long = length-take-le count cells (omega arith)

      -- at the gate the new request comes last, and every other queue is as it was
      queue : (p : ℕ) → roster p 1 (map (λ x. x.waits) (take (suc count) (set cells count c))) ≡ put (λ q. roster q 1 (map (λ x. x.waits) (take count cells))) 0 (roster 0 1 (map (λ x. x.waits) (take count cells)) ++ (record { number = suc count; mode = mode.Between } ∷ [])) p
      queue p =
          ap (λ v. roster p 1 (map (λ x. x.waits) v)) live
          ∙ ap (roster p 1) (map-append (λ x. x.waits) (take count cells) (c ∷ []))
          ∙ roster_more p 1 (map (λ x. x.waits) (take count cells)) c.waits
          ∙ ap (λ v. roster p 1 (map (λ x. x.waits) (take count cells)) ++ waiter_if (1 + length (map (λ x. x.waits) (take count cells))) (mode_at v p)) next.waits
          ∙ ap (λ i. roster p 1 (map (λ x. x.waits) (take count cells)) ++ waiter_if i (mode_at (waits.Between 0) p)) place_of
          ∙ go (eqb p 0) refl
        where
          place_of : 1 + length (map (λ x. x.waits) (take count cells)) ≡ suc count
          place_of = let a : length (map (λ x. x.waits) (take count cells)) ≡ length (take count cells) = length-map (take count cells) (λ x. x.waits) in omega (arith, long)

          go : (b : Bool) → eqb p 0 ≡ b → roster p 1 (map (λ x. x.waits) (take count cells)) ++ waiter_if (suc count) (mode_at (waits.Between 0) p) ≡ cond b (roster 0 1 (map (λ x. x.waits) (take count cells)) ++ (record { number = suc count; mode = mode.Between } ∷ [])) (roster p 1 (map (λ x. x.waits) (take count cells)))
          go true z = let is : p ≡ 0 = grind arith in ap (λ q. roster q 1 (map (λ x. x.waits) (take count cells)) ++ waiter_if (suc count) (mode_at (waits.Between 0) q)) is
          go false z =
              let other : eqb 0 p ≡ false = grind arith in
              ap (λ b. roster p 1 (map (λ x. x.waits) (take count cells)) ++ waiter_if (suc count) (cond b (Some mode.Between) None)) other ∙ append-nil (roster p 1 (map (λ x. x.waits) (take count cells)))

      by_part : {Y : Type 0} (f : Cell F T → Y) (none : Y) → ◌≡◌ {A = ℕ → Y} (λ j. elim (numbered (take (suc count) (set cells count c)) j) as (λ _. Y) [ None ↦ none | Some x ↦ f x ]) (λ j. elim (numbered (take count cells ++ (c ∷ [])) j) as (λ _. Y) [ None ↦ none | Some x ↦ f x ])
      by_part {Y = Y} f none = ap (λ v. (λ j. elim (numbered v j) as (λ _. Y) [ None ↦ none | Some x ↦ f x ])) live

      nothing : {Y : Type 0} (f : Cell F T → Y) (none : Y) → f c ≡ none → ◌≡◌ {A = ℕ → Y} (λ j. elim (numbered (take (suc count) (set cells count c)) j) as (λ _. Y) [ None ↦ none | Some x ↦ f x ]) (λ j. elim (numbered (take count cells) j) as (λ _. Y) [ None ↦ none | Some x ↦ f x ])
      nothing {Y = Y} f none is = by_part f none ∙ part_more f none (take count cells) c ∙ ap (put (λ j. elim (numbered (take count cells) j) as (λ _. Y) [ None ↦ none | Some x ↦ f x ]) (suc (length (take count cells)))) is ∙ put-none f none (take count cells)
