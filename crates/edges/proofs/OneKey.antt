-- One key entered twice, and one entered and withdrawn: computed once the key is found to be the same as itself.
use Rattle.std.proofs.Common.{◌≡◌, ℕ, ◌≤◌, Bool, true, cond, ◌&&◌, [], ◌∷◌, ◌++◌, Some, ap, ◌∙◌}
use Rattle.requests.specs.declared.answer.Answer.TheVariants.{Counted}
use Rattle.requests.specs.declared.request.Request.{Request}
use Rattle.requests.specs.declared.request.Request.TheVariants.{Enter, Withdraw, LookUp, Count}
use Rattle.rules.specs.Kinds.{Kinds, Lawful, same}
use Rattle.rules.specs.States.{State, opening}
use Rattle.rules.specs.Queues.{final_answer}
use Rattle.rules.specs.Changes.{with_decision}
use Rattle.rules.specs.Carries.{dropped}
use Rattle.rules.specs.Calls.{submit, follow, run, after_all}
use Rattle.edges.specs.Cases.{help, help_twice, twice, in_and_out, EnteredTwice, InAndOut}
use Rattle.edges.proofs.Pieces.{continued}
use Rattle.edges.proofs.Room.{three, three_taken}

module _ {K T : Type 0} (w : Kinds K T) (law : Lawful w) where
  same_self : (k : K) → same w k k ≡ true
  same_self k = ap (λ b. b && b) (law.reflexive k)

  module _ (cells : ℕ) (k : K) where
    -- an enter of the key is done, and station 1 has seen the next request at the gate
    abbrev seen : Request K → Request K → State K T
    seen a b = after_all w (three w cells (Enter k) a b) (help_twice 1 1 ++ (follow 1 2 ∷ []))

    abbrev decided : Request K → Request K → Bool → State K T
    decided a b d = dropped w (seen a b) 1 (with_decision (seen a b) 2 d)

    -- the second request, an enter or a withdraw of the key, is decided present
    enter_present : (b : Request K)
        → after_all w (three w cells (Enter k) (Enter k) b) (help_twice 1 1 ++ help 1 2) ≡ decided (Enter k) b true
    enter_present b = ap (decided (Enter k) b) (same_self k)

    withdraw_present : (b : Request K)
        → after_all w (three w cells (Enter k) (Withdraw k) b) (help_twice 1 1 ++ help 1 2) ≡ decided (Withdraw k) b true
    withdraw_present b = ap (decided (Withdraw k) b) (same_self k)

    twice-run : 3 ≤ cells → run w cells (twice k) ≡ after_all w (decided (Enter k) (Count k k) true) (help 1 2 ++ help 1 3)
    twice-run h =
        continued w
        (opening w cells)
        (three w cells (Enter k) (Enter k) (Count k k))
        (submit 1 (Enter k) ∷ submit 2 (Enter k) ∷ submit 3 (Count k k) ∷ [])
        (help_twice 1 1 ++ (help_twice 1 2 ++ help 1 3))
        (three_taken w cells (Enter k) (Enter k) (Count k k) h)
        ∙ continued w
        (three w cells (Enter k) (Enter k) (Count k k))
        (decided (Enter k) (Count k k) true)
        (help_twice 1 1 ++ help 1 2)
        (help 1 2 ++ help 1 3)
        (enter_present (Count k k))

    in_and_out-run : 3 ≤ cells → run w cells (in_and_out k) ≡ after_all w (decided (Withdraw k) (LookUp k) true) (help 1 2 ++ help_twice 1 3)
    in_and_out-run h =
        continued w
        (opening w cells)
        (three w cells (Enter k) (Withdraw k) (LookUp k))
        (submit 1 (Enter k) ∷ submit 2 (Withdraw k) ∷ submit 3 (LookUp k) ∷ [])
        (help_twice 1 1 ++ (help_twice 1 2 ++ help_twice 1 3))
        (three_taken w cells (Enter k) (Withdraw k) (LookUp k) h)
        ∙ continued w
        (three w cells (Enter k) (Withdraw k) (LookUp k))
        (decided (Withdraw k) (LookUp k) true)
        (help_twice 1 1 ++ help 1 2)
        (help 1 2 ++ help_twice 1 3)
        (withdraw_present (LookUp k))

    -- what the count has added, which is zero joined with the key's weight
    counted : Some (Counted (w.joined w.none (cond (same w k k) (w.weighed k) w.none))) ≡ Some (Counted (w.weighed k))
    counted =
        ap (λ b. Some (Counted (w.joined w.none (cond b (w.weighed k) w.none)))) (same_self k)
        ∙ ap (λ x. Some (Counted x)) (law.neutral (w.weighed k))

  pub entered_twice : EnteredTwice w
  entered_twice cells k h =
      let e = twice-run cells k h in
      (ap (λ s. final_answer s 1) e, ap (λ s. final_answer s 2) e, ap (λ s. final_answer s 3) e ∙ counted cells k)

  pub entered_and_withdrawn : InAndOut w
  entered_and_withdrawn cells k h =
      let e = in_and_out-run cells k h in
      (ap (λ s. final_answer s 1) e, ap (λ s. final_answer s 2) e, ap (λ s. final_answer s 3) e)
