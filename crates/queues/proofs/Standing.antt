-- Who stands in a board's queues: those whose cells say so. Rests on the rosters of the cells.
use Rattle.std.proofs.Common.{◌≡◌, ℕ, zero, suc, ◌+◌, true, cond, List, [], ◌∷◌, ◌++◌, map, is_some, Some, None, Option, sym, refl, ap, ◌∙◌, true≢false, arith}
use Rattle.std.specs.Option.{option_map}
use Rattle.keys.specs.declared.key.Key as key
use Rattle.tallies.specs.declared.tally.Tally as tally
use Rattle.rules.specs.Queues.{numbered, stands}
use Rattle.rules.specs.Sound.{stands_in}
use Rattle.rules.specs.States.{Waiter}
use Rattle.rules.specs.declared.mode.Mode.{Mode}
use Rattle.std.proofs.lemmas.Bool.{false_from_ne_true}
use Rattle.rules.proofs.SoundQueues.{in_stands, stands_some, head_stands}
use Rattle.rules.proofs.SoundRows.{in_cases}
use Rattle.cells.specs.declared.cell.Cell.{Cell}
use Rattle.cells.specs.declared.waits.Waits.{Waits}
use Rattle.cells.specs.declared.waits.Waits.TheVariants.{Nowhere}
use Rattle.cells.specs.Rosters.{mode_at, waiter_if, roster}
use Rattle.cells.proofs.Leaving.{roster_from, roster_in}
use Rattle.cells.proofs.Numbers.{numbered_zero, numbered-map}
use Rattle.board.specs.declared.board.Board.{Board}
use Rattle.board.specs.Cells.{live, waits_of}
use Rattle.board.specs.Of.{board_state}
use Rattle.queues.specs.Held.{held_at}

-- where the request of a number waits, by a row of waits
abbrev pub waits_in : List Waits → ℕ → Waits
waits_in xs i = elim (numbered xs i) [ None ↦ Nowhere | Some x ↦ x ]

-- who stands in a roster waits there by its entry, in that mode
pub roster-mode : (p t : ℕ) (xs : List Waits) (x i : ℕ) (m : Mode) → x ≡ t + i → stands_in x m (roster p t xs) ≡ true → mode_at (waits_in xs (suc i)) p ≡ Some m
roster-mode p t [] x i m is st = absurd (true≢false (sym st))
roster-mode p t (y ∷ ys) x zero m is st = go (mode_at y p) refl st
  where
    far : stands_in x m (roster p (suc t) ys) ≡ true → ⊥
    far u = let l = roster_from p (suc t) ys x (in_stands x m (roster p (suc t) ys) u) in omega arith

    go : (o : Option Mode) → mode_at y p ≡ o → stands_in x m (waiter_if t o ++ roster p (suc t) ys) ≡ true → mode_at y p ≡ Some m
    go None e u = absurd (far u)
    go (Some l) e u = in_cases x m (record { number = t; mode = l }) (roster p (suc t) ys) u (λ n k. e ∙ ap Some k) (λ v. absurd (far v))
roster-mode p t (y ∷ ys) x (suc i) m is st = go (roster-mode p (suc t) ys x i m (omega arith)) (mode_at y p) st
  where
    go : (stands_in x m (roster p (suc t) ys) ≡ true → mode_at (waits_in ys (suc i)) p ≡ Some m) → (o : Option Mode) → stands_in x m (waiter_if t o ++ roster p (suc t) ys) ≡ true
        → mode_at (waits_in ys (suc i)) p ≡ Some m
    go ih None u = ih u
    go ih (Some l) u = in_cases x m (record { number = t; mode = l }) (roster p (suc t) ys) u (λ n k. absurd (omega arith)) ih

-- who waits by its entry stands in the roster
pub mode-roster : (p : ℕ) (xs : List Waits) (x : ℕ) (m : Mode) → mode_at (waits_in xs x) p ≡ Some m → stands_in x m (roster p 1 xs) ≡ true
mode-roster p xs zero m w = absurd (let z : ◌≡◌ {A = ℕ} 0 1 = cc (numbered_zero xs) in omega arith)
mode-roster p xs (suc i) m w = go (numbered xs (suc i)) refl w
  where
    go : (o : Option Waits) → numbered xs (suc i) ≡ o → mode_at (elim o as (λ _. Waits) [ None ↦ Nowhere | Some y ↦ y ]) p ≡ Some m → stands_in (suc i) m (roster p 1 xs) ≡ true
    go None e u = absurd (let z : ◌≡◌ {A = ℕ} 0 1 = cc in omega arith)
    go (Some y) e u = let next : suc i ≡ 1 + i = omega arith in ap (λ n. stands_in n m (roster p 1 xs)) next ∙ roster_in p 1 xs i y m e u

module _ {K F T : Type 0} (k : key.Ghosts K F) (t : tally.Ghosts T K F) (b : Board K T F k t) where
  waits-shown : (x : ℕ) → waits_in (map (λ c. c.waits) (live b)) x ≡ waits_of b x
  waits-shown x = ap (λ o. elim o as (λ _. Waits) [ None ↦ Nowhere | Some y ↦ y ]) (numbered-map (λ c. c.waits) (live b) x) ∙ go (numbered (live b) x)
    where
      go : (o : Option (Cell F T)) → elim (option_map (λ c. c.waits) o) as (λ _. Waits) [ None ↦ Nowhere | Some y ↦ y ] ≡ elim o as (λ _. Waits) [ None ↦ Nowhere | Some c ↦ c.waits ]
      go None = refl
      go (Some c) = refl

  -- who stands in a queue waits there by its cell, in that mode, and no other does
  pub standing_mode : (p x : ℕ) (m : Mode) → stands_in x m ((board_state k t b).queue p) ≡ true → mode_at (waits_of b x) p ≡ Some m
  standing_mode p zero m st = let l = roster_from p 1 (map (λ c. c.waits) (live b)) 0 (in_stands 0 m ((board_state k t b).queue p) st) in absurd (omega arith)
  standing_mode p (suc i) m st = ap (λ v. mode_at v p) (sym (waits-shown (suc i))) ∙ roster-mode p 1 (map (λ c. c.waits) (live b)) (suc i) i m (omega arith) st

  pub mode_standing : (p x : ℕ) (m : Mode) → mode_at (waits_of b x) p ≡ Some m → stands_in x m ((board_state k t b).queue p) ≡ true
  mode_standing p x m w = mode-roster p (map (λ c. c.waits) (live b)) x m (ap (λ v. mode_at v p) (waits-shown x) ∙ w)

  -- whether a request stands in a queue, by its cell
  pub standing : (p x : ℕ) → stands x ((board_state k t b).queue p) ≡ is_some (mode_at (waits_of b x) p)
  standing p x = go (mode_at (waits_of b x) p) refl
    where
      go : (o : Option Mode) → mode_at (waits_of b x) p ≡ o → stands x ((board_state k t b).queue p) ≡ is_some o
      go None e =
          false_from_ne_true (stands x ((board_state k t b).queue p)) (λ st.
          let v = stands_some x ((board_state k t b).queue p) st in
          let w = standing_mode p x v.0 v.1 in
          let z : ◌≡◌ {A = ℕ} 0 1 = cc in
          omega arith)
      go (Some m) e = in_stands x m ((board_state k t b).queue p) (mode_standing p x m e)

  -- the mode of a queue's head
  pub head_mode : (p x : ℕ) (e : Waiter) (q : List Waiter) → (board_state k t b).queue p ≡ e ∷ q → e.number ≡ x → mode_at (waits_of b x) p ≡ Some e.mode
  head_mode p x e q line is =
      standing_mode p x e.mode (ap (λ v. stands_in x e.mode v) line ∙ ap (λ n. stands_in n e.mode (e ∷ q)) (sym is) ∙ head_stands e q)

  -- what a station holds at a place, by the cell of its request
  pub held-shown : (p n x : ℕ) (o : Option Mode) → ((board_state k t b).desk n).uncollected ≡ Some x → mode_at (waits_of b x) p ≡ o → held_at (board_state k t b) p n ≡ cond (is_some o) (Some x) None
  held-shown p n x o holds at =
      ap (λ u. elim u as (λ _. Option ℕ) [ None ↦ None | Some y ↦ cond (stands y ((board_state k t b).queue p)) (Some y) None ]) holds
      ∙ ap (λ c. cond c (Some x) None) (standing p x ∙ ap is_some at)
