-- Requests taken by a register with room for them: the state after the first submits, whatever the number of cells.
use Rattle.std.proofs.Common.{◌≡◌, ℕ, suc, ◌<◌, ◌≤◌, min, false, leb, [], ◌∷◌, Some, None, refl, ap, ◌∙◌, arith}
use Rattle.keys.specs.declared.refusal.Refusal.TheVariants.{Full}
use Rattle.requests.specs.declared.request.Request.{Request}
use Rattle.rules.specs.declared.mode.Mode.TheVariants.{Between}
use Rattle.rules.specs.Kinds.{Kinds}
use Rattle.rules.specs.States.{State, opening}
use Rattle.rules.specs.Changes.{with_uncollected, with_waiter, with_request}
use Rattle.rules.specs.Queues.{given}
use Rattle.rules.specs.Calls.{check, state_by, submit, run, submit_refusal, submit_after}

-- a register over more than n cells is not full with n requests
room : (cells n : ℕ) → n < cells → n < 1024 → leb (min 1024 cells) n ≡ false
room cells n h j = grind arith

-- the state once a request of a station was taken
abbrev pub taken : {K T : Type 0} → State K T → ℕ → Request K → State K T
taken s n r =
    with_uncollected (with_waiter (with_request s (suc (given s)) n r) 0 (suc (given s)) Between) n (Some (suc (given s)))

module _ {K T : Type 0} (w : Kinds K T) (cells : ℕ) where
  -- stations 1, 2 and 3 submit a request each
  abbrev pub one : Request K → State K T
  one a = taken (opening w cells) 1 a

  abbrev pub two : Request K → Request K → State K T
  two a b = taken (one a) 2 b

  abbrev pub three : Request K → Request K → Request K → State K T
  three a b c = taken (two a b) 3 c

  -- where only room is in question, a request is taken if there is room
  is_taken : (s : State K T) (n : ℕ) (r : Request K)
      → submit_refusal w s n ≡ check (leb (min 1024 cells) (given s)) Full None → given s < cells → given s < 1024
      → submit_after w s n r ≡ taken s n r
  is_taken s n r e h j =
      ap (λ x. state_by x s (taken s n r)) (e ∙ ap (λ b. check b Full None) (room cells (given s) h j))

  pub one_taken : (a : Request K) → 1 ≤ cells → run w cells (submit 1 a ∷ []) ≡ one a
  one_taken a h = is_taken (opening w cells) 1 a refl h (omega arith)

  pub two-taken : (a b : Request K) → 2 ≤ cells → run w cells (submit 1 a ∷ submit 2 b ∷ []) ≡ two a b
  two-taken a b h =
      ap (λ s. submit_after w s 2 b) (one_taken a (omega arith)) ∙ is_taken (one a) 2 b refl h (omega arith)

  pub three_taken : (a b c : Request K) → 3 ≤ cells → run w cells (submit 1 a ∷ submit 2 b ∷ submit 3 c ∷ []) ≡ three a b c
  three_taken a b c h =
      ap (λ s. submit_after w s 3 c) (two-taken a b (omega arith)) ∙ is_taken (two a b) 3 c refl h (omega arith)
