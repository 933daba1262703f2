-- The lowest place where a request waits, by its cell. Rests on Standing and Sets.
use Rattle.std.proofs.Common.{◌≡◌, ℕ, zero, suc, ◌<◌, ◌≤◌, min, Bool, true, false, cond, is_some, Some, None, Option, sym, refl, ap, ◌∙◌, ⊎_elim, arith}
use mathlib.Core.Path.{fun_ext}
use mathlib.Core.Logic.{∥∥₁_elim}
use Rattle.std.proofs.lemmas.Bool.{cases_lt}
use Rattle.keys.specs.declared.key.Key as key
use Rattle.tallies.specs.declared.tally.Tally as tally
use Rattle.rules.specs.Queues.{lowest, given, waiting_place}
use Rattle.rules.specs.Sound.{Sounds, Sound}
use Rattle.cells.specs.declared.waits.Waits.{Waits}
use Rattle.cells.specs.declared.waits.Waits.TheVariants.{Nowhere, Between, From, Upto, Halves}
use Rattle.cells.specs.Rosters.{mode_at}
use Rattle.board.specs.declared.board.Board.{Board}
use Rattle.board.specs.Cells.{waits_of}
use Rattle.board.specs.Of.{board_state}
use Rattle.queues.specs.Waiting.{least_place}
use Rattle.queues.proofs.Standing.{standing}
use Rattle.queues.proofs.Sets.{numbers_set}

-- where none passes there is no lowest
pub lowest-none : (test : ℕ → Bool) (b : ℕ) → ((q : ℕ) → test q ≡ false) → lowest test b ≡ None
lowest-none test zero h = refl
lowest-none test (suc b) h =
    ap (λ o. elim o as (λ _. Option ℕ) [ Some p ↦ Some p | None ↦ cond (test b) (Some b) None ]) (lowest-none test b h) ∙ ap (λ c. cond c (Some b) None) (h b)

-- the lowest one passes, and none below it
pub lowest_is : (test : ℕ → Bool) (b p : ℕ) → p < b → test p ≡ true → ((q : ℕ) → q < p → test q ≡ false) → lowest test b ≡ Some p
lowest_is test zero p l e h = absurd (omega arith)
lowest_is test (suc b) p l e h =
    ⊎_elim
    (λ lt. ap (λ o. elim o as (λ _. Option ℕ) [ Some i ↦ Some i | None ↦ cond (test b) (Some b) None ]) (lowest_is test b p lt e h))
    (λ ge. let same : p ≡ b = omega arith in here same)
    (cases_lt p b)
  where
    below : (c : ℕ) → c ≤ p → lowest test c ≡ None
    below zero k = refl
    below (suc c) k = ap (λ o. elim o as (λ _. Option ℕ) [ Some i ↦ Some i | None ↦ cond (test c) (Some c) None ]) (below c (omega arith)) ∙ ap (λ v. cond v (Some c) None) (h c (omega arith))

    here : p ≡ b → lowest test (suc b) ≡ Some p
    here same =
        ap (λ o. elim o as (λ _. Option ℕ) [ Some i ↦ Some i | None ↦ cond (test b) (Some b) None ]) (below b (omega arith))
        ∙ ap (λ c. cond c (Some b) None) (ap test (sym same) ∙ e) ∙ ap Some (sym same)

-- whether a request waits at a place, by its cell
abbrev pub waits_at : Waits → ℕ → Bool
waits_at w p = is_some (mode_at w p)

least_lowest : (w : Waits) (b : ℕ) → ((p : ℕ) → waits_at w p ≡ true → p < b) → lowest (waits_at w) b ≡ least_place w
least_lowest Nowhere b h = lowest-none (waits_at Nowhere) b (λ q. refl)
least_lowest (Between p) b h = let own : waits_at (Between p) p ≡ true = grind arith in lowest_is (waits_at (Between p)) b p (h p own) own (λ q l. grind arith)
least_lowest (From p) b h = let own : waits_at (From p) p ≡ true = grind arith in lowest_is (waits_at (From p)) b p (h p own) own (λ q l. grind arith)
least_lowest (Upto p) b h = let own : waits_at (Upto p) p ≡ true = grind arith in lowest_is (waits_at (Upto p)) b p (h p own) own (λ q l. grind arith)
least_lowest (Halves p u) b h =
    ⊎_elim
    (λ lt. let is : min p u ≡ p = omega arith in let own : waits_at (Halves p u) p ≡ true = grind arith in
    lowest_is (waits_at (Halves p u)) b p (h p own) own (λ q l. grind arith) ∙ ap Some (sym is))
    (λ ge. let is : min p u ≡ u = omega arith in let own : waits_at (Halves p u) u ≡ true = grind arith in
    lowest_is (waits_at (Halves p u)) b u (h u own) own (λ q l. grind arith) ∙ ap Some (sym is))
    (cases_lt p u)

module _ {K F T : Type 0} (k : key.Ghosts K F) (t : tally.Ghosts T K F) (b : Board K T F k t) where
  -- no place has a higher number than the last request
  place-within : Sounds (board_state k t b) → (x p : ℕ) → waits_at (waits_of b x) p ≡ true → p < suc (given (board_state k t b))
  place-within h x p w =
      ⊎_elim (λ gate. omega arith) (λ made. let l = (h.facts.made p made).1 in omega arith) (h.facts.at_places p x (standing k t b p x ∙ w))

  pub waiting_least : Sound (board_state k t b) → (x : ℕ) → least_place (waits_of b x) ≡ waiting_place (board_state k t b) x
  waiting_least h x =
      ∥∥₁_elim h (numbers_set _ _) (λ v.
      sym (ap (λ test. lowest test (suc (given (board_state k t b)))) (fun_ext (λ p. standing k t b p x)) ∙ least_lowest (waits_of b x) (suc (given (board_state k t b))) (place-within v x)))
