-- An enter and a withdraw at a place, by what its slot holds. Rests on Kept.
use Rattle.std.proofs.Common.{◌≡◌, ℕ, cond, Some, None, sym, ap, ◌∙◌}
use Rattle.std.specs.Option.{option_map}
use Rattle.keys.specs.declared.key.Key as key
use Rattle.tallies.specs.declared.tally.Tally as tally
use Rattle.requests.specs.declared.answer.Answer.TheVariants.{Changed}
use Rattle.requests.specs.declared.request.Request.{Request}
use Rattle.requests.specs.declared.request.Request.TheVariants.{Enter, Withdraw}
use Rattle.rules.specs.declared.mode.Mode.TheVariants.{Between}
use Rattle.rules.specs.Changes.{with_answer, with_place, with_waiter}
use Rattle.rules.specs.Kinds.{kinds_of}
use Rattle.rules.specs.Moves.{slot_for, with_slot_for, with_joined, enter_at, withdraw_at, made_place}
use Rattle.rules.specs.Queues.{numbered, given}
use Rattle.rules.specs.States.{State}
use Rattle.rules.specs.States as rules
use Rattle.cells.specs.declared.slot.Slot.{Slot}
use Rattle.cells.specs.declared.slot.Slot.TheVariants as slot
use Rattle.cells.specs.Joins.{Joinable}
use Rattle.board.specs.declared.board.Board.{Board}
use Rattle.board.specs.declared.met.Met.TheVariants as met
use Rattle.board.specs.Cells.{key_of, slot_of, met_of, met_slot, names}
use Rattle.board.specs.Made.{made_after}
use Rattle.board.specs.Of.{board_state, if_given}
use Rattle.board.specs.Taken.{first_key}
use Rattle.moving.specs.Movable.{Passes}
use Rattle.moving.proofs.Kept.{slot-requests, joined-requests, joined-queue, given_then, named-given, joinable_same, key_by_request, key_kept, own_slot, met_shown, met_named}

module _ {K F T : Type 0} (k : key.Ghosts K F) (t : tally.Ghosts T K F) where
  module _ (b : Board K T F k t) (number p : ℕ) (j : K) (x : Slot) (at : slot_of k t b x ≡ slot_for (kinds_of k t) (board_state k t b) p j) where
    abbrev s : State K T
    s = board_state k t b

    -- the slot on the key's side is what was met
    met_is : (v : rules.Slot K) → met_slot (met_of k t b x) ≡ v → slot_for (kinds_of k t) s p j ≡ v
    met_is v e = sym at ∙ sym (met_shown k t b x) ∙ e

    -- slots written by a number that is given
    put-named : (r : Request K) (s' : State K T) → numbered s.requests number ≡ Some r → cond (names (given s) (slot.Key number)) s' s ≡ s'
    put-named r s' num = ap (λ v. cond v s' s) (named-given s number r num)

    pub entered_empty : (b1 b2 : Board K T F k t) → met_of k t b x ≡ met.Nothing → numbered s.requests number ≡ Some (Enter j)
        → board_state k t b1 ≡ cond (names (given s) (slot.Key number)) (with_slot_for (kinds_of k t) s p j (slot_of k t b (slot.Key number))) s
        → board_state k t b2 ≡ if_given (board_state k t b1) number (with_answer (board_state k t b1) number Changed)
        → board_state k t b2 ≡ enter_at (kinds_of k t) s number p j (slot_for (kinds_of k t) s p j)
    entered_empty b1 b2 met num put ans =
        let one : board_state k t b1 ≡ with_slot_for (kinds_of k t) s p j (rules.holds j) =
        put ∙ put-named (Enter j) (with_slot_for (kinds_of k t) s p j (slot_of k t b (slot.Key number))) num ∙ ap (with_slot_for (kinds_of k t) s p j) (own_slot k t b number (Enter j) num) in
        let still : numbered (board_state k t b1).requests number ≡ Some (Enter j) = ap (λ (v : State K T). numbered v.requests number) one ∙ ap (λ rs. numbered rs number) (slot-requests (kinds_of k t) s p j (rules.holds j)) ∙ num in
        ans
        ∙ given_then (board_state k t b1) number (Enter j) (with_answer (board_state k t b1) number Changed) still
        ∙ ap (λ v. with_answer v number Changed) one
        ∙ ap (enter_at (kinds_of k t) s number p j) (sym (met_is rules.empty (ap met_slot met)))

    pub entered_key : (b1 b2 b3 : Board K T F k t) (i : ℕ) (h : K) → met_of k t b x ≡ met.Key i h → numbered s.requests number ≡ Some (Enter j)
        → board_state k t b1 ≡ cond (names (given s) (slot.Place number)) (with_slot_for (kinds_of k t) s p j (slot_of k t b (slot.Place number))) s
        → board_state k t b2 ≡ made_after k t b1 number i
        → board_state k t b3 ≡ if_given (board_state k t b2) number (with_answer (board_state k t b2) number Changed)
        → board_state k t b3 ≡ enter_at (kinds_of k t) s number p j (slot_for (kinds_of k t) s p j)
    entered_key b1 b2 b3 i h met num put make ans =
        let same : (board_state k t b1).requests ≡ s.requests = ap (λ (v : State K T). v.requests) put ∙ slot-requests (kinds_of k t) s p j (rules.leads number) in
        let own : key_of k t b1 number ≡ Some j = key_kept k t b b1 same number ∙ key_by_request k t b number ∙ ap (option_map first_key) num in
        let held : key_of k t b1 i ≡ Some h = key_kept k t b b1 same i ∙ met_named k t b x i h met in
        let two : board_state k t b2 ≡ with_place (with_slot_for (kinds_of k t) s p j (rules.leads number)) number (made_place (kinds_of k t) h j) =
        make
        ∙ ap (λ o. elim o as (λ _. State K T) [ None ↦ board_state k t b1 | Some v ↦ elim (key_of k t b1 i) as (λ _. State K T) [ None ↦ board_state k t b1 | Some u ↦ with_place (board_state k t b1) number (made_place (kinds_of k t) u v) ] ]) own
        ∙ ap (λ o. elim o as (λ _. State K T) [ None ↦ board_state k t b1 | Some u ↦ with_place (board_state k t b1) number (made_place (kinds_of k t) u j) ]) held
        ∙ ap (λ v. with_place v number (made_place (kinds_of k t) h j)) put in
        let still : numbered (board_state k t b2).requests number ≡ Some (Enter j) = ap (λ (v : State K T). numbered v.requests number) two ∙ ap (λ rs. numbered rs number) (slot-requests (kinds_of k t) s p j (rules.leads number)) ∙ num in
        ans
        ∙ given_then (board_state k t b2) number (Enter j) (with_answer (board_state k t b2) number Changed) still
        ∙ ap (λ v. with_answer v number Changed) two
        ∙ ap (enter_at (kinds_of k t) s number p j) (sym (met_is (rules.holds h) (ap met_slot met)))

    -- on to the place that the slot leads to, its tally joined first
    passed : (r : Request K) (b1 b2 : Board K T F k t) (f : ℕ) (weight : T) → met_of k t b x ≡ met.Place f → numbered s.requests number ≡ Some r → Passes (kinds_of k t) s number p j
        → board_state k t b1 ≡ with_joined (kinds_of k t) s f weight
        → (Joinable (board_state k t b1) number f Between → board_state k t b2 ≡ if_given (board_state k t b1) number (with_waiter (board_state k t b1) f number Between))
        → board_state k t b2 ≡ with_waiter (with_joined (kinds_of k t) s f weight) f number Between
    passed r b1 b2 f weight met num may join went =
        let still : numbered (board_state k t b1).requests number ≡ Some r = ap (λ (v : State K T). numbered v.requests number) join ∙ ap (λ rs. numbered rs number) (joined-requests (kinds_of k t) s f weight) ∙ num in
        let queues : (board_state k t b1).queue ≡ s.queue = ap (λ (v : State K T). v.queue) join ∙ joined-queue (kinds_of k t) s f weight in
        went (joinable_same s (board_state k t b1) number f Between queues (may f (met_is (rules.leads f) (ap met_slot met))))
        ∙ given_then (board_state k t b1) number r (with_waiter (board_state k t b1) f number Between) still
        ∙ ap (λ v. with_waiter v f number Between) join

    pub entered_place : (b1 b2 : Board K T F k t) (f : ℕ) → met_of k t b x ≡ met.Place f → numbered s.requests number ≡ Some (Enter j) → Passes (kinds_of k t) s number p j
        → board_state k t b1 ≡ with_joined (kinds_of k t) s f (t.weighed j)
        → (Joinable (board_state k t b1) number f Between → board_state k t b2 ≡ if_given (board_state k t b1) number (with_waiter (board_state k t b1) f number Between))
        → board_state k t b2 ≡ enter_at (kinds_of k t) s number p j (slot_for (kinds_of k t) s p j)
    entered_place b1 b2 f met num may join went =
        passed (Enter j) b1 b2 f (t.weighed j) met num may join went ∙ ap (enter_at (kinds_of k t) s number p j) (sym (met_is (rules.leads f) (ap met_slot met)))

    pub withdrawn_place : (b1 b2 : Board K T F k t) (f : ℕ) → met_of k t b x ≡ met.Place f → numbered s.requests number ≡ Some (Withdraw j) → Passes (kinds_of k t) s number p j
        → board_state k t b1 ≡ with_joined (kinds_of k t) s f (t.opposed (t.weighed j))
        → (Joinable (board_state k t b1) number f Between → board_state k t b2 ≡ if_given (board_state k t b1) number (with_waiter (board_state k t b1) f number Between))
        → board_state k t b2 ≡ withdraw_at (kinds_of k t) s number p j (slot_for (kinds_of k t) s p j)
    withdrawn_place b1 b2 f met num may join went =
        passed (Withdraw j) b1 b2 f (t.opposed (t.weighed j)) met num may join went ∙ ap (withdraw_at (kinds_of k t) s number p j) (sym (met_is (rules.leads f) (ap met_slot met)))

    pub withdrawn_key : (b1 b2 : Board K T F k t) (i : ℕ) (h : K) → met_of k t b x ≡ met.Key i h → numbered s.requests number ≡ Some (Withdraw j)
        → board_state k t b1 ≡ cond (names (given s) slot.Empty) (with_slot_for (kinds_of k t) s p j (slot_of k t b slot.Empty)) s
        → board_state k t b2 ≡ if_given (board_state k t b1) number (with_answer (board_state k t b1) number Changed)
        → board_state k t b2 ≡ withdraw_at (kinds_of k t) s number p j (slot_for (kinds_of k t) s p j)
    withdrawn_key b1 b2 i h met num put ans =
        let still : numbered (board_state k t b1).requests number ≡ Some (Withdraw j) = ap (λ (v : State K T). numbered v.requests number) put ∙ ap (λ rs. numbered rs number) (slot-requests (kinds_of k t) s p j rules.empty) ∙ num in
        ans
        ∙ given_then (board_state k t b1) number (Withdraw j) (with_answer (board_state k t b1) number Changed) still
        ∙ ap (λ v. with_answer v number Changed) put
        ∙ ap (withdraw_at (kinds_of k t) s number p j) (sym (met_is (rules.holds h) (ap met_slot met)))
