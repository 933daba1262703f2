-- What single changes leave: requests, queues, and with them the keys that numbers name. Assumes nothing.
use Rattle.std.proofs.Common.{◌≡◌, ℕ, zero, suc, ◌≤◌, true, leb, List, [], ◌∷◌, length, Some, None, Option, sym, refl, ap, ◌∙◌, arith}
use Rattle.std.specs.Option.{option_map}
use Rattle.keys.specs.declared.key.Key as key
use Rattle.tallies.specs.declared.tally.Tally as tally
use Rattle.requests.specs.declared.kind.Kind.{Kind}
use Rattle.requests.specs.declared.kind.Kind.TheVariants as kind
use Rattle.requests.specs.declared.request.Request.{Request}
use Rattle.rules.specs.Changes.{with_place}
use Rattle.rules.specs.Kinds.{Kinds}
use Rattle.rules.specs.Moves.{side_of, with_slot_on, with_tally, with_slot_for, with_joined}
use Rattle.rules.specs.Queues.{numbered, given, stands}
use Rattle.rules.specs.Sound.{stands_in}
use Rattle.rules.specs.States.{State, Place, Waiter}
use Rattle.rules.specs.States as rules
use Rattle.cells.specs.declared.cell.Cell.{Cell}
use Rattle.cells.specs.declared.slot.Slot.{Slot}
use Rattle.cells.specs.declared.slot.Slot.TheVariants as slot
use Rattle.cells.specs.Joins.{Joinable}
use Rattle.cells.specs.Views.{asked_by, request_in}
use Rattle.cells.proofs.Numbers.{numbered-map}
use Rattle.board.specs.declared.board.Board.{Board}
use Rattle.board.specs.declared.met.Met.{Met}
use Rattle.board.specs.declared.met.Met.TheVariants as met
use Rattle.board.specs.Cells.{live, key_of, slot_of, met_of, met_slot}
use Rattle.board.specs.Of.{board_state, if_given}
use Rattle.board.specs.Taken.{first_key}
use Rattle.rules.specs.declared.mode.Mode.{Mode}

module _ {K T : Type 0} (w : Kinds K T) where
  pub slot-requests : (s : State K T) (p : ℕ) (k : K) (x : rules.Slot K) → (with_slot_for w s p k x).requests ≡ s.requests
  slot-requests s zero k x = refl
  slot-requests s (suc p) k x = go (s.place (suc p))
    where
      go : (o : Option (Place K T)) → (elim o as (λ _. State K T) [ None ↦ s | Some f ↦ with_place s (suc p) (with_slot_on f (side_of w f k) x) ]).requests ≡ s.requests
      go None = refl
      go (Some f) = refl

  pub joined-requests : (s : State K T) (p : ℕ) (v : T) → (with_joined w s p v).requests ≡ s.requests
  joined-requests s p v = go (s.place p)
    where
      go : (o : Option (Place K T)) → (elim o as (λ _. State K T) [ None ↦ s | Some f ↦ with_place s p (with_tally f (w.joined f.tally v)) ]).requests ≡ s.requests
      go None = refl
      go (Some f) = refl

  pub joined-queue : (s : State K T) (p : ℕ) (v : T) → (with_joined w s p v).queue ≡ s.queue
  joined-queue s p v = go (s.place p)
    where
      go : (o : Option (Place K T)) → (elim o as (λ _. State K T) [ None ↦ s | Some f ↦ with_place s p (with_tally f (w.joined f.tally v)) ]).queue ≡ s.queue
      go None = refl
      go (Some f) = refl

-- a change of a request that was given its number
pub given_then : {K T : Type 0} (s : State K T) (t : ℕ) (r : Request K) (s' : State K T) → numbered s.requests t ≡ Some r → if_given s t s' ≡ s'
given_then {K = K} {T = T} s t r s' e = ap (λ o. elim o as (λ _. State K T) [ None ↦ s | Some r ↦ s' ]) e

-- a number that is given is at most their number
bound : {X : Type 0} (xs : List X) (t : ℕ) (x : X) → numbered xs t ≡ Some x → t ≤ length xs
bound [] t x e = absurd (let z : ◌≡◌ {A = ℕ} 0 1 = cc in omega arith)
bound (y ∷ ys) zero x e = omega arith
bound (y ∷ ys) (suc zero) x e = omega arith
bound (y ∷ ys) (suc (suc t)) x e = let ih = bound ys (suc t) x e in omega arith

pub named-given : {K T : Type 0} (s : State K T) (t : ℕ) (r : Request K) → numbered s.requests t ≡ Some r → leb t (given s) ≡ true
named-given s t r e = let h = bound s.requests t r e in grind arith

-- who may join depends on the queues alone
pub joinable_same : {K T : Type 0} (s s' : State K T) (t p : ℕ) (m : Mode) → s'.queue ≡ s.queue → Joinable s t p m → Joinable s' t p m
joinable_same s s' t p m e h =
    let same : (q : ℕ) → s.queue q ≡ s'.queue q = λ q. ap (λ (v : ℕ → List Waiter). v q) (sym e) in
    (λ x st. h.0 x (ap (stands x) (same p) ∙ st), λ q m' st. h.1 q m' (ap (stands_in t m') (same q) ∙ st))

module _ {K F T : Type 0} (k : key.Ghosts K F) (t : tally.Ghosts T K F) where
  first_of : (v : Kind) (a c : F) → first_key (asked_by k t v a c) ≡ k.made a
  first_of kind.Enter a c = refl
  first_of kind.Withdraw a c = refl
  first_of kind.LookUp a c = refl
  first_of kind.Count a c = refl

  -- the key that a number names is the first key of its request
  pub key_by_request : (b : Board K T F k t) (i : ℕ) → key_of k t b i ≡ option_map first_key (numbered (board_state k t b).requests i)
  key_by_request b i = go (numbered (live b) i) ∙ ap (option_map first_key) (sym (numbered-map (request_in k t) (live b) i))
    where
      go : (o : Option (Cell F T)) → option_map (λ (c : Cell F T). k.made c.first) o ≡ option_map first_key (option_map (request_in k t) o)
      go None = refl
      go (Some c) = ap Some (sym (first_of c.kind c.first c.second))

  pub key_kept : (b b' : Board K T F k t) → (board_state k t b').requests ≡ (board_state k t b).requests → (i : ℕ) → key_of k t b' i ≡ key_of k t b i
  key_kept b b' same i = key_by_request b' i ∙ ap (λ rs. option_map first_key (numbered rs i)) same ∙ sym (key_by_request b i)

  pub slot_kept : (b b' : Board K T F k t) → (board_state k t b').requests ≡ (board_state k t b).requests → (x : Slot) → slot_of k t b' x ≡ slot_of k t b x
  slot_kept b b' same slot.Empty = refl
  slot_kept b b' same (slot.Key i) = ap (λ o. elim o as (λ _. rules.Slot K) [ None ↦ rules.empty | Some j ↦ rules.holds j ]) (key_kept b b' same i)
  slot_kept b b' same (slot.Place p) = refl

  -- a slot named by a request holds its first key
  pub own_slot : (b : Board K T F k t) (i : ℕ) (r : Request K) → numbered (board_state k t b).requests i ≡ Some r → slot_of k t b (slot.Key i) ≡ rules.holds (first_key r)
  own_slot b i r e = ap (λ o. elim o as (λ _. rules.Slot K) [ None ↦ rules.empty | Some j ↦ rules.holds j ]) (key_by_request b i ∙ ap (option_map first_key) e)

  -- what is met in a slot is what it holds
  pub met_shown : (b : Board K T F k t) (x : Slot) → met_slot (met_of k t b x) ≡ slot_of k t b x
  met_shown b slot.Empty = refl
  met_shown b (slot.Key i) = go (key_of k t b i)
    where
      go : (o : Option K) → met_slot (elim o as (λ _. Met K) [ None ↦ met.Nothing | Some j ↦ met.Key i j ]) ≡ elim o as (λ _. rules.Slot K) [ None ↦ rules.empty | Some j ↦ rules.holds j ]
      go None = refl
      go (Some j) = refl
  met_shown b (slot.Place p) = refl

  -- a key that is met is that of its number
  pub met_named : (b : Board K T F k t) (x : Slot) (i : ℕ) (j : K) → met_of k t b x ≡ met.Key i j → key_of k t b i ≡ Some j
  met_named b slot.Empty i j e = absurd (let z : ◌≡◌ {A = ℕ} 0 1 = cc in omega arith)
  met_named b (slot.Key v) i j e = go (key_of k t b v) refl e
    where
      go : (o : Option K) → key_of k t b v ≡ o → elim o as (λ _. Met K) [ None ↦ met.Nothing | Some j ↦ met.Key v j ] ≡ met.Key i j → key_of k t b i ≡ Some j
      go None is u = absurd (let z : ◌≡◌ {A = ℕ} 0 1 = cc in omega arith)
      go (Some h) is u = let one : v ≡ i = cc in let own : h ≡ j = cc in ap (key_of k t b) (sym one) ∙ is ∙ ap Some own
  met_named b (slot.Place p) i j e = absurd (let z : ◌≡◌ {A = ℕ} 0 1 = cc in omega arith)
