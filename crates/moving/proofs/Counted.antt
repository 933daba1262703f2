-- A count at a place, by its mode and where its ends lie against the split. Rests on Kept.
use Rattle.std.proofs.Common.{◌≡◌, ℕ, zero, suc, ◌⊎◌, List, [], ◌∷◌, Some, None, sym, refl, ap, ◌∙◌, subst, inl, inr}
use Rattle.std.specs.Option.{option_map}
use Rattle.keys.specs.declared.key.Key as key
use Rattle.tallies.specs.declared.tally.Tally as tally
use Rattle.requests.specs.declared.request.Request.TheVariants.{Count}
use Rattle.rules.specs.declared.mode.Mode.{Mode}
use Rattle.rules.specs.declared.mode.Mode.TheVariants.{Between, From, Upto}
use Rattle.rules.specs.Kinds.{Kinds, kinds_of, before}
use Rattle.rules.specs.Moves.{Side, on_left, on_right, slot_on, Step, show, add, count_steps, shown, stepped_all, count_at, with_added, whole}
use Rattle.rules.specs.Queues.{numbered}
use Rattle.rules.specs.Sound.{slot_at}
use Rattle.rules.proofs.SoundQueues.{mode_true}
use Rattle.rules.specs.States.{State, Place, Slot, empty, holds, leads}
use Rattle.cells.specs.declared.side.Side.TheVariants.{Left, Right}
use Rattle.cells.specs.declared.slot.Slot as raw
use Rattle.cells.specs.Joins.{Joinable}
use Rattle.board.specs.declared.board.Board.{Board}
use Rattle.board.specs.Cells.{slot_of, slot_beside, tally_of}
use Rattle.board.specs.Of.{board_state, if_given}
use Rattle.board.proofs.Places.{placed}
use Rattle.moving.specs.Movable.{Counts}
use Rattle.moving.proofs.Kept.{given_then, joinable_same, slot_kept}

module _ {K T : Type 0} (w : Kinds K T) where
  pub shown-requests : (s : State K T) (t : ℕ) (lo hi : K) (m : Mode) (x : Slot K) → (shown w s t lo hi m x).requests ≡ s.requests
  shown-requests s t lo hi m empty = refl
  shown-requests s t lo hi m (holds k) = refl
  shown-requests s t lo hi m (leads f) = refl

  -- the upper half of a count that forks may join whatever the lower half met
  fork_may : (s : State K T) (t p : ℕ) (lo hi : K) → Counts s t p Between → (x : Slot K) → slot_at s p on_left ≡ x → (f : ℕ) → slot_at s p on_right ≡ leads f
      → Joinable (shown w s t lo hi From x) t f Upto
  fork_may s t p lo hi may empty at f is = may.0 on_right f Upto is (inr refl)
  fork_may s t p lo hi may (holds k) at f is = may.0 on_right f Upto is (inr refl)
  fork_may s t p lo hi may (leads g) at f is = may.1 g f at is refl

  slot_at-place : (s : State K T) (p : ℕ) (f : Place K T) → (p ≡ 0 → ⊥) → s.place p ≡ Some f → (side : Side) → slot_at s p side ≡ slot_on f side
  slot_at-place s zero f ne is side = absurd (ne refl)
  slot_at-place s (suc p) f ne is side = ap (λ o. elim o as (λ _. Slot K) [ None ↦ empty | Some v ↦ slot_on v side ]) is

  count-here : (s : State K T) (t p : ℕ) (lo hi : K) (m : Mode) (f : Place K T) → (p ≡ 0 → ⊥) → s.place p ≡ Some f
      → count_at w s t p lo hi m ≡ stepped_all w s t lo hi f (count_steps m (w.le f.split lo) (before w hi f.split))
  count-here s t zero lo hi m f ne is = absurd (ne refl)
  count-here s t (suc p) lo hi m f ne is =
      ap (λ o. elim o as (λ _. State K T) [ None ↦ s | Some v ↦ stepped_all w s t lo hi v (count_steps m (w.le v.split lo) (before w hi v.split)) ]) is

module _ {K F T : Type 0} (k : key.Ghosts K F) (t : tally.Ghosts T K F) where
  abbrev w : Kinds K T
  w = kinds_of k t

  -- what showing a count a slot promises
  abbrev Shows : Board K T F k t → Board K T F k t → ℕ → K → K → Mode → raw.Slot → Type 0
  Shows b b' n lo hi m x =
      numbered (board_state k t b).requests n ≡ Some (Count lo hi) → ((f : ℕ) → slot_of k t b x ≡ leads f → Joinable (board_state k t b) n f m)
      → board_state k t b' ≡ shown (kinds_of k t) (board_state k t b) n lo hi m (slot_of k t b x)

  -- at the gate
  pub counted-gate : (b b1 : Board K T F k t) (n p : ℕ) (lo hi : K) (m : Mode) (x : raw.Slot) → p ≡ 0 → x ≡ b.gate → numbered (board_state k t b).requests n ≡ Some (Count lo hi) → Counts (board_state k t b) n p m
      → Shows b b1 n lo hi Between x → board_state k t b1 ≡ count_at (kinds_of k t) (board_state k t b) n p lo hi m
  counted-gate b b1 n p lo hi m x zero-p gate num may shows =
      let s = board_state k t b in
      shows num (λ f is. may.0 on_left f Between (ap (λ v. slot_at s v on_left) zero-p ∙ ap (slot_of k t b) (sym gate) ∙ is) (inr (mode_true m Between (may.2 zero-p))))
      ∙ ap (λ v. shown w s n lo hi Between (slot_of k t b v)) gate
      ∙ ap (λ v. count_at w s n v lo hi m) (sym zero-p)

  module _ (b : Board K T F k t) (n p : ℕ) (lo hi v : K) (m : Mode) (ne : p ≡ 0 → ⊥) (split : option_map (λ (f : Place K T). f.split) ((board_state k t b).place p) ≡ Some v)
      (num : numbered (board_state k t b).requests n ≡ Some (Count lo hi)) (may : Counts (board_state k t b) n p m) where
    abbrev s : State K T
    s = board_state k t b

    abbrev f : Place K T
    f = record { split = v; left = slot_of k t b (slot_beside b p Left); right = slot_of k t b (slot_beside b p Right); tally = tally_of k t b p }

    abbrev slot_raw : Side → raw.Slot
    slot_raw on_left = slot_beside b p Left
    slot_raw on_right = slot_beside b p Right

    raw_is : (side : Side) → slot_of k t b (slot_raw side) ≡ slot_on f side
    raw_is on_left = refl
    raw_is on_right = refl

    at_slot : (side : Side) (x : raw.Slot) → x ≡ slot_raw side → slot_at s p side ≡ slot_of k t b x
    at_slot side x is = slot_at-place w s p f ne (placed k t b p v split) side ∙ sym (raw_is side) ∙ ap (slot_of k t b) (sym is)

    by_steps : (steps : List Step) → count_steps m (k.le v lo) (before (kinds_of k t) hi v) ≡ steps → stepped_all w s n lo hi f steps ≡ count_at w s n p lo hi m
    by_steps steps is = ap (stepped_all w s n lo hi f) (sym is) ∙ sym (count-here w s n p lo hi m f ne (placed k t b p v split))

    -- the count is shown one slot
    pub counted_one : (b1 : Board K T F k t) (side : Side) (m' : Mode) (x : raw.Slot) → x ≡ slot_raw side → (m' ≡ m) ⊎ (m ≡ Between)
        → count_steps m (k.le v lo) (before (kinds_of k t) hi v) ≡ show side m' ∷ [] → Shows b b1 n lo hi m' x
        → board_state k t b1 ≡ count_at (kinds_of k t) (board_state k t b) n p lo hi m
    counted_one b1 side m' x own mode steps shows =
        shows num (λ g is. may.0 side g m' (at_slot side x own ∙ is) mode)
        ∙ ap (λ z. shown w s n lo hi m' (slot_of k t b z)) own
        ∙ ap (shown w s n lo hi m') (raw_is side)
        ∙ by_steps (show side m' ∷ []) steps

    -- the count forks
    pub counted_fork : (b1 b2 : Board K T F k t) (x y : raw.Slot) → x ≡ slot_raw on_left → y ≡ slot_raw on_right → m ≡ Between
        → count_steps m (k.le v lo) (before (kinds_of k t) hi v) ≡ show on_left From ∷ (show on_right Upto ∷ [])
        → Shows b b1 n lo hi From x → Shows b1 b2 n lo hi Upto y
        → board_state k t b2 ≡ count_at (kinds_of k t) (board_state k t b) n p lo hi m
    counted_fork b1 b2 x y left right mode steps first second =
        let both : Counts s n p Between = subst (Counts s n p) mode may in
        let one : board_state k t b1 ≡ shown w s n lo hi From (slot_of k t b x) = first num (λ g is. both.0 on_left g From (at_slot on_left x left ∙ is) (inr refl)) in
        let same : (board_state k t b1).requests ≡ s.requests = ap (λ (z : State K T). z.requests) one ∙ shown-requests w s n lo hi From (slot_of k t b x) in
        let still : numbered (board_state k t b1).requests n ≡ Some (Count lo hi) = ap (λ rs. numbered rs n) same ∙ num in
        let slot : slot_of k t b1 y ≡ slot_of k t b y = slot_kept k t b b1 same y in
        second still
        (λ g is. joinable_same (shown w s n lo hi From (slot_of k t b x)) (board_state k t b1) n g Upto (ap (λ (z : State K T). z.queue) one)
        (fork_may w s n p lo hi both (slot_of k t b x) (at_slot on_left x left) g (at_slot on_right y right ∙ sym slot ∙ is)))
        ∙ ap (λ z. shown w z n lo hi Upto (slot_of k t b1 y)) one
        ∙ ap (shown w (shown w s n lo hi From (slot_of k t b x)) n lo hi Upto) (slot ∙ ap (slot_of k t b) right)
        ∙ ap (λ z. shown w (shown w s n lo hi From (slot_of k t b z)) n lo hi Upto (slot_of k t b (slot_beside b p Right))) left
        ∙ by_steps (show on_left From ∷ (show on_right Upto ∷ [])) steps

    -- the whole of one side is added, and the other shown
    pub counted_added : (b1 b2 : Board K T F k t) (side other : Side) (m' : Mode) (x y : raw.Slot) (sum : T) → x ≡ slot_raw side → y ≡ slot_raw other → m' ≡ m
        → count_steps m (k.le v lo) (before (kinds_of k t) hi v) ≡ add side ∷ (show other m' ∷ [])
        → sum ≡ whole (kinds_of k t) (board_state k t b) (slot_of k t b x)
        → board_state k t b1 ≡ if_given (board_state k t b) n (with_added (kinds_of k t) (board_state k t b) n sum)
        → Shows b1 b2 n lo hi m' y
        → board_state k t b2 ≡ count_at (kinds_of k t) (board_state k t b) n p lo hi m
    counted_added b1 b2 side other m' x y sum here there mode steps total added shows =
        let one : board_state k t b1 ≡ with_added w s n (whole w s (slot_on f side)) =
        added ∙ given_then s n (Count lo hi) (with_added w s n sum) num ∙ ap (with_added w s n) (total ∙ ap (λ z. whole w s (slot_of k t b z)) here ∙ ap (whole w s) (raw_is side)) in
        let same : (board_state k t b1).requests ≡ s.requests = ap (λ (z : State K T). z.requests) one in
        let slot : slot_of k t b1 y ≡ slot_of k t b y = slot_kept k t b b1 same y in
        shows (ap (λ rs. numbered rs n) same ∙ num)
        (λ g is. joinable_same s (board_state k t b1) n g m' (ap (λ (z : State K T). z.queue) one) (may.0 other g m' (at_slot other y there ∙ sym slot ∙ is) (inl mode)))
        ∙ ap (λ z. shown w z n lo hi m' (slot_of k t b1 y)) one
        ∙ ap (shown w (with_added w s n (whole w s (slot_on f side))) n lo hi m') (slot ∙ ap (slot_of k t b) there ∙ raw_is other)
        ∙ by_steps (add side ∷ (show other m' ∷ [])) steps
