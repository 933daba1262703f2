-- What becomes of the first request of a fresh register: all computed once it is taken.
use Rattle.std.proofs.Common.{◌≡◌, ℕ, ◌≤◌, List, [], ◌∷◌, ◌++◌, Result, sym, refl, ap, ◌∙◌, subst}
use Rattle.keys.specs.declared.refusal.Refusal.{Refusal}
use Rattle.requests.specs.declared.request.Request.{Request}
use Rattle.requests.specs.declared.request.Request.TheVariants.{Enter, Withdraw, LookUp, Count}
use Rattle.rules.specs.declared.carried.Carried.{Carried}
use Rattle.rules.specs.Kinds.{Kinds}
use Rattle.rules.specs.States.{opening}
use Rattle.rules.specs.Queues.{finished, final_answer}
use Rattle.rules.specs.Calls.{Call, submit, follow, carry, run, after_all, carry_answer}
use Rattle.rules.specs.Laws.{Serves}
use Rattle.edges.specs.Cases.{help, help_twice, both_see, both_see_decided, FreshCountsZero, SeenUndecided, SeenDecided, FirstNeedsFour}
use Rattle.edges.proofs.Pieces.{continued}
use Rattle.edges.proofs.Room.{one, one_taken}

module _ {K T : Type 0} (w : Kinds K T) where
  -- a run goes on from the state in which its first request is taken
  goes_on : (cells : ℕ) (r : Request K) (cs : List (Call K)) → 1 ≤ cells → run w cells (submit 1 r ∷ cs) ≡ after_all w (one w cells r) cs
  goes_on cells r cs h = continued w (opening w cells) (one w cells r) (submit 1 r ∷ []) cs (one_taken w cells r h)

  -- so a carry answers there what it answers here
  carries : (cells : ℕ) (r : Request K) (cs : List (Call K)) (n : ℕ) (a : Result Carried Refusal) → 1 ≤ cells
      → carry_answer w (after_all w (one w cells r) cs) n ≡ a → carry_answer w (run w cells (submit 1 r ∷ cs)) n ≡ a
  carries cells r cs n a h e = ap (λ s. carry_answer w s n) (goes_on cells r cs h) ∙ e

  pub fresh_counts_zero : FreshCountsZero w
  fresh_counts_zero cells lo hi h = ap (λ s. final_answer s 1) (goes_on cells (Count lo hi) (help 1 1) h)

  pub seen_undecided : SeenUndecided w
  seen_undecided cells (Enter j) k h e =
      (carries cells (Enter j) both_see 1 _ h refl, carries cells (Enter j) (both_see ++ (carry 1 ∷ [])) 2 _ h refl)
  seen_undecided cells (Withdraw j) k h e =
      (carries cells (Withdraw j) both_see 1 _ h refl, carries cells (Withdraw j) (both_see ++ (carry 1 ∷ [])) 2 _ h refl)
  seen_undecided cells (LookUp j) k h e =
      (carries cells (LookUp j) both_see 1 _ h refl, carries cells (LookUp j) (both_see ++ (carry 1 ∷ [])) 2 _ h refl)
  seen_undecided cells (Count lo hi) k h e = absurd cc

  pub seen_decided : SeenDecided w
  seen_decided cells (Enter j) k h e =
      (carries cells (Enter j) both_see_decided 1 _ h refl, carries cells (Enter j) (both_see_decided ++ (carry 1 ∷ [])) 2 _ h refl)
  seen_decided cells (Withdraw j) k h e =
      (carries cells (Withdraw j) both_see_decided 1 _ h refl, carries cells (Withdraw j) (both_see_decided ++ (carry 1 ∷ [])) 2 _ h refl)
  seen_decided cells (LookUp j) k h e =
      (carries cells (LookUp j) both_see_decided 1 _ h refl, carries cells (LookUp j) (both_see_decided ++ (carry 1 ∷ [])) 2 _ h refl)
  seen_decided cells (Count lo hi) k h e = absurd cc

  pub first_needs_four : FirstNeedsFour w
  first_needs_four cells k h = (
    subst (λ s. Serves w 2 1 s (help_twice 2 1)) (sym (one_taken w cells (Enter k) h))
        ((λ _. refl), ((λ _. refl), ((λ _. refl), ((λ _. refl), tt)))),
    refl,
    refl,
    ap (λ s. finished s 1) (goes_on cells (Enter k) (follow 2 1 ∷ carry 2 ∷ follow 2 1 ∷ []) h),
    ap (λ s. finished s 1) (goes_on cells (Enter k) (help_twice 2 1) h),
  )
