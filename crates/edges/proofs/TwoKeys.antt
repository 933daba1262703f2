-- Two keys entered one after the other: the place that they make.
use Rattle.std.proofs.Common.{◌≡◌, ℕ, ◌≤◌, Bool, true, false, cond, not, ◌&&◌, [], ◌∷◌, ◌++◌, Some, sym, refl, ap, ◌∙◌, ap₂}
use Rattle.requests.specs.declared.request.Request.TheVariants.{Enter}
use Rattle.rules.specs.Kinds.{Kinds, Lawful, same}
use Rattle.rules.specs.States.{State, Place, holds, opening}
use Rattle.rules.specs.Changes.{with_decision}
use Rattle.rules.specs.Carries.{dropped}
use Rattle.rules.specs.Calls.{submit, follow, run, after_all}
use Rattle.edges.specs.Cases.{help, help_twice, both, MakesPlace, LesserSecond, GreaterSecond}
use Rattle.edges.proofs.Pieces.{continued}
use Rattle.edges.proofs.Room.{two, two-taken}

pub not_true : (b : Bool) → not b ≡ true → b ≡ false
not_true true e = sym e
not_true false e = refl

module _ {K T : Type 0} (w : Kinds K T) where
  module _ (cells : ℕ) (j k : K) where
    -- the first key is entered, and station 1 has seen the second request at the gate
    abbrev seen : State K T
    seen = after_all w (two w cells (Enter j) (Enter k)) (help_twice 1 1 ++ (follow 1 2 ∷ []))

    abbrev decided : Bool → State K T
    decided d = dropped w seen 1 (with_decision seen 2 d)

    second_absent : same w j k ≡ false → after_all w (two w cells (Enter j) (Enter k)) (help_twice 1 1 ++ help 1 2) ≡ decided false
    second_absent e = ap decided e

    both_run : 2 ≤ cells → same w j k ≡ false → run w cells (both j k) ≡ after_all w (decided false) (help 1 2)
    both_run h e =
        continued w
        (opening w cells)
        (two w cells (Enter j) (Enter k))
        (submit 1 (Enter j) ∷ submit 2 (Enter k) ∷ [])
        (help_twice 1 1 ++ help_twice 1 2)
        (two-taken w cells (Enter j) (Enter k) h)
        ∙ continued w
        (two w cells (Enter j) (Enter k))
        (decided false)
        (help_twice 1 1 ++ help 1 2)
        (help 1 2)
        (second_absent e)

    -- what the two keys make, by whether the first is at most the second
    abbrev made_by : Bool → Place K T
    made_by b = record {
      split = cond b k j;
      left = holds (cond b j k);
      right = holds (cond b k j);
      tally = w.joined (w.weighed j) (w.weighed k);
    }

    makes_place : (b : Bool) → 2 ≤ cells → same w j k ≡ false → w.le j k ≡ b → MakesPlace w (run w cells (both j k)) (made_by b)
    makes_place b h e f =
        let r = both_run h e in
        (ap (λ s. s.slot) r, ap (λ s. s.place 2) r ∙ ap (λ b. Some (made_by b)) f, ap (λ s. s.queue 2) r)

  pub lesser_second : LesserSecond w
  lesser_second cells j k h e =
      let f = not_true (w.le k j) e in
      makes_place cells k j false h (ap (λ b. b && w.le j k) f) f

  pub greater_second : Lawful w → GreaterSecond w
  greater_second law cells j k h e =
      let f = not_true (w.le k j) e in
      let g = law.total k j f in
      makes_place cells j k true h (ap₂ ◌&&◌ g f) g
