-- A board with one cell written: which state it then shows. Rests on Parts.
use Rattle.std.proofs.Common.{◌≡◌, ℕ, zero, suc, ◌-◌, ◌<◌, ◌≤◌, List, [], ◌∷◌, length, take, set, Some, None, Option, sym, refl, ap, ◌∙◌, subst, ap₂, arith, length-set}
use mathlib.Core.Logic.{∥∥₁_map}
use Rattle.std.specs.Option.{option_map}
use Rattle.keys.specs.declared.key.Key as key
use Rattle.tallies.specs.declared.tally.Tally as tally
use Rattle.rules.specs.Queues.{numbered}
use Rattle.rules.specs.States.{State}
use Rattle.cells.specs.declared.cell.Cell.{Cell}
use Rattle.cells.specs.Views.{split_of, request_in, state_shown}
use Rattle.board.specs.declared.board.Board.{Board}
use Rattle.board.specs.Cells.{live, key_of}
use Rattle.board.specs.Of.{board_state, Turns, if_given}
use Rattle.board.specs.Written.{Rewritten, Changed}
use Rattle.cells.proofs.Numbers.{numbered_zero}
use Rattle.cells.specs.Names.{CellNamed}
use Rattle.board.proofs.Named.{kept_named}
use Rattle.board.proofs.Parts.{row_none, row_some}

-- a number that is given among the first so many is one of them
pub front_bound : {X : Type 0} (n : ℕ) (xs : List X) (i : ℕ) (x : X) → numbered (take n xs) (suc i) ≡ Some x → i < n
front_bound zero [] i x e = absurd (let z : ◌≡◌ {A = ℕ} 0 1 = cc in omega arith)
front_bound zero (y ∷ ys) i x e = absurd (let z : ◌≡◌ {A = ℕ} 0 1 = cc in omega arith)
front_bound (suc n) [] i x e = absurd (let z : ◌≡◌ {A = ℕ} 0 1 = cc in omega arith)
front_bound (suc n) (y ∷ ys) zero x e = omega arith
front_bound (suc n) (y ∷ ys) (suc i) x e = let ih = front_bound n ys i x e in omega arith

module _ {K F T : Type 0} (k : key.Ghosts K F) (t : tally.Ghosts T K F) where
  pub rewritten_state : (b b' : Board K T F k t) (row : List (Cell F T)) → Rewritten b b' row → board_state k t b' ≡ state_shown k t row b.count b.gate b.desks
  rewritten_state b b' row r =
      ap (λ v. state_shown k t v b'.count b'.gate b'.desks) r.cells
      ∙ ap (λ v. state_shown k t row v b'.gate b'.desks) r.count
      ∙ ap (λ v. state_shown k t row b.count v b'.desks) r.gate
      ∙ ap (state_shown k t row b.count b.gate) r.desks

  -- a number that is given, or that names a key, is at most the count
  pub live_range : (b : Board K T F k t) (number : ℕ) (c : Cell F T) → numbered (live b) number ≡ Some c → (0 < number) × (number ≤ b.count)
  live_range b zero c e = absurd (let z : None ≡ Some c = sym (numbered_zero (live b)) ∙ e in let y : ◌≡◌ {A = ℕ} 0 1 = cc in omega arith)
  live_range b (suc i) c e = let h = front_bound b.count b.cells.now i c e in (omega arith, omega arith)

  pub key_bound : (b : Board K T F k t) (number : ℕ) (v : K) → key_of k t b number ≡ Some v → number ≤ b.count
  key_bound b number v e = go (numbered (live b) number) refl e
    where
      go : (o : Option (Cell F T)) → numbered (live b) number ≡ o → option_map (λ (x : Cell F T). k.made x.first) o ≡ Some v → number ≤ b.count
      go None at is = absurd (let z : ◌≡◌ {A = ℕ} 0 1 = cc in omega arith)
      go (Some c) at is = (live_range b number c at).1

  -- no such request: nothing is written
  pub not-given : (b : Board K T F k t) (number : ℕ) (s' : State K T) → numbered (live b) number ≡ None → board_state k t b ≡ if_given (board_state k t b) number s'
  not-given b number s' e = ap (λ o. elim o as (λ _. State K T) [ None ↦ board_state k t b | Some r ↦ s' ]) (row_none (request_in k t) (live b) number e)

  pub is_given : (b : Board K T F k t) (number : ℕ) (c : Cell F T) (s' : State K T) → numbered (live b) number ≡ Some c → s' ≡ if_given (board_state k t b) number s'
  is_given b number c s' e = ap (λ o. elim o as (λ _. State K T) [ None ↦ board_state k t b | Some r ↦ s' ]) (row_some (request_in k t) (live b) number c e)

  -- a cell whose slots and split are as they were still names only requests that were submitted
  pub still_named : (b : Board K T F k t) (number : ℕ) (c c' : Cell F T) → numbered (live b) number ≡ Some c → c'.left ≡ c.left → c'.right ≡ c.right → split_of c' ≡ split_of c → ∥ CellNamed b.count c' ∥₁
  still_named b number c c' e l r s = ∥∥₁_map b.named (λ old. kept_named b.count (live b) number c c' old.1 e l r s)

  module _ (b b' : Board K T F k t) (number : ℕ) where
    abbrev s : State K T
    s = board_state k t b

    -- what a change of a cell is, by whether the number was given
    abbrev Changes : (Cell F T → Cell F T → Type 0) → Option (Cell F T) → Type 0
    Changes P o = elim o as (λ _. Type 0) [ None ↦ Rewritten b b' b.cells.now | Some c ↦ (c' : Cell F T) × P c c' × Rewritten b b' (set b.cells.now (number - 1) c') ]

    pub changed_by : (P : Cell F T → Cell F T → Type 0) (c c' : Cell F T) → numbered (live b) number ≡ Some c → P c c' → Rewritten b b' (set b.cells.now (number - 1) c') → Changed b b' number P
    changed_by P c c' e p r = subst (Changes P) (sym e) (c', p, r)

    pub changed_as : (P : Cell F T → Cell F T → Type 0) (make : Cell F T → Cell F T) → Changed b b' number P → ((c c' : Cell F T) → P c c' → c' ≡ make c) → Changed b b' number (λ c c'. c' ≡ make c)
    changed_as P make r is = go (numbered (live b) number) r
      where
        go : (o : Option (Cell F T)) → Changes P o → Changes (λ c c'. c' ≡ make c) o
        go None w = w
        go (Some c) w = (w.0, is c w.0 w.1, w.2)

    module _ (make : Cell F T → Cell F T) (r : Changed b b' number (λ c c'. c' ≡ make c)) where
      -- what the write of the changed cell shows is the state now
      pub changed : (R : State K T → State K T → Type 0)
          → (numbered (live b) number ≡ None → R s s)
          → ((i : ℕ) (c : Cell F T) → number ≡ suc i → i < b.count → numbered (live b) (suc i) ≡ Some c → R s (state_shown k t (set b.cells.now i (make c)) b.count b.gate b.desks))
          → Turns k t b b' R
      changed R none some = go number refl (numbered (live b) number) refl r
        where
          go : (n : ℕ) → number ≡ n → (o : Option (Cell F T)) → numbered (live b) number ≡ o → Changes (λ c c'. c' ≡ make c) o → Turns k t b b' R
          go n is None e w = record { after = subst (R s) (sym (rewritten_state b b' b.cells.now w)) (none e); row = ap length w.cells }
          go zero is (Some c) e w = absurd (let z : None ≡ Some c = sym (ap (numbered (live b)) is ∙ numbered_zero (live b)) ∙ e in let y : ◌≡◌ {A = ℕ} 0 1 = cc in omega arith)
          go (suc i) is (Some c) e w =
              let back : number - 1 ≡ i = omega arith in
              let at : numbered (live b) (suc i) ≡ Some c = ap (numbered (live b)) (sym is) ∙ e in
              let shown : board_state k t b' ≡ state_shown k t (set b.cells.now i (make c)) b.count b.gate b.desks =
              rewritten_state b b' (set b.cells.now (number - 1) w.0) w.2 ∙ ap₂ (λ j y. state_shown k t (set b.cells.now j y) b.count b.gate b.desks) back w.1 in
              record {
                after = subst (R s) (sym shown) (some i c is (front_bound b.count b.cells.now i c at) at);
                row = ap length w.2.cells ∙ length-set b.cells.now (number - 1) w.0;
              }

      -- the same where the change is one of a given request
      pub changed_given : (change : ℕ → State K T)
          → ((i : ℕ) (c : Cell F T) → number ≡ suc i → i < b.count → numbered (live b) (suc i) ≡ Some c → state_shown k t (set b.cells.now i (make c)) b.count b.gate b.desks ≡ change (suc i))
          → Turns k t b b' (λ _ s'. s' ≡ if_given (board_state k t b) number (change number))
      changed_given change shown =
          changed (λ _ s'. s' ≡ if_given (board_state k t b) number (change number))
          (not-given b number (change number))
          (λ i c n h at. shown i c n h at ∙ ap change (sym n) ∙ is_given b number c (change number) (ap (numbered (live b)) n ∙ at))
