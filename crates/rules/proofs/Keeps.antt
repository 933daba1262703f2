-- Opening, submitting, noting and deciding keep the invariant. Rests on Holds.
use Rattle.std.proofs.Common.{◌≡◌, ℕ, ◌<◌, ◌≤◌, Bool, true, false, cond, eqb, ◌⊎◌, List, [], Some, None, Option, sym, refl, ap, ◌∙◌, inl, inr, ⊎_elim, arith}
use Rattle.std.proofs.lemmas.Bool.{eqb-true, ne_eqb}
use Rattle.requests.specs.declared.request.Request.{Request}
use Rattle.requests.specs.declared.request.Request.TheVariants.{Enter, Withdraw, LookUp, Count}
use Rattle.rules.specs.declared.note.Note.TheVariants as note
use Rattle.rules.specs.Kinds.{Kinds, Lawful}
use Rattle.rules.specs.States.{State, Desk, opening}
use Rattle.rules.specs.Queues.{numbered}
use Rattle.rules.specs.Changes.{put, with_desk, with_decision}
use Rattle.rules.specs.Carries.{sought}
use Rattle.rules.proofs.Times.{numbered_within, present_none}
use Rattle.rules.proofs.Befores.{was}
use Rattle.rules.proofs.Trees.{Tree, bare}
use Rattle.rules.proofs.Pends.{waiting}
use Rattle.rules.proofs.Puts.{put_other}
use Rattle.rules.proofs.Holds.{Bears, Walks, Holds}

-- a register just opened
pub opens : {K T : Type 0} (w : Kinds K T) (l : Lawful w) (cells : ℕ) → Holds w [] (opening w cells) bare 1
opens w l cells = record {
  requests = refl;
  rooted = refl;
  drawn = tt;
  others = λ i e. (refl, λ z. refl);
  over = tt;
  gate = refl;
  started = omega arith;
  good = λ k e. present_none w l [] k;
  decided = λ i r k asked seeks. absurd (nobody i r asked);
  unasked = λ i e. refl;
  answers = λ i r asked. absurd (nobody i r asked);
  counts = λ i lo hi asked. absurd (nobody i (Count lo hi) asked);
  uncounted = λ i e. refl;
  walks = λ n t p noted. absurd cc;
}
  where
    nobody : {X : Type 0} (i : ℕ) (r : X) → numbered [] i ≡ Some r → ⊥
    nobody i r e = absurd cc

module _ {K T : Type 0} (w : Kinds K T) (rs : List (Request K)) (x : Tree K T) (time : ℕ) (s : State K T) (h : Holds w rs s x time) where
  -- a station's desk changes, and its note is no wrong walk
  pub desks : (n : ℕ) (d : Desk) → ((t p : ℕ) → d.note ≡ note.Walk t p → s.decision t ≡ None → Walks w rs t p time x) → Holds w rs (with_desk s n d) x time
  desks n d right = record {
    requests = h.requests;
    rooted = h.rooted;
    drawn = h.drawn;
    others = h.others;
    over = h.over;
    gate = h.gate;
    started = h.started;
    good = h.good;
    decided = h.decided;
    unasked = h.unasked;
    answers = λ i r. kept i r;
    counts = h.counts;
    uncounted = h.uncounted;
    walks = λ i t p noted undone. go i t p undone (eqb i n) refl noted;
  }
    where
      kept : (i : ℕ) (r : Request K) → numbered rs i ≡ Some r → i < time → waiting i x ≡ false → Bears w rs (with_desk s n d) i r
      kept i (Enter k) asked lt out = h.answers i (Enter k) asked lt out
      kept i (Withdraw k) asked lt out = h.answers i (Withdraw k) asked lt out
      kept i (LookUp k) asked lt out = h.answers i (LookUp k) asked lt out
      kept i (Count lo hi) asked lt out = tt

      go : (i t p : ℕ) → s.decision t ≡ None → (b : Bool) → eqb i n ≡ b → (put s.desk n d i).note ≡ note.Walk t p → Walks w rs t p time x
      go i t p undone true e noted = right t p (sym (ap (λ v. (cond v d (s.desk i)).note) e) ∙ noted) undone
      go i t p undone false e noted = h.walks i t p (sym (ap (λ v. (cond v d (s.desk i)).note) e) ∙ noted) undone

  -- a decision is written, and right
  pub decides : (t : ℕ) (r : Request K) (k : K) (d : Bool) → numbered rs t ≡ Some r → sought r ≡ Some k → d ≡ was w rs t k → Holds w rs (with_decision s t d) x time
  decides t r k d num seeks right = record {
    requests = h.requests;
    rooted = h.rooted;
    drawn = h.drawn;
    others = h.others;
    over = h.over;
    gate = h.gate;
    started = h.started;
    good = h.good;
    decided = λ i r₁ k₁ asked wants. go i r₁ k₁ asked wants (eqb i t) refl;
    unasked = λ i over. put_other s.decision t (Some d) i (ne_eqb i t (λ same. let b = numbered_within rs t r num in omega (arith, b.1))) ∙ h.unasked i over;
    answers = λ i r. kept i r;
    counts = h.counts;
    uncounted = h.uncounted;
    walks = λ n i p noted undone. h.walks n i p noted (still i undone (eqb i t) refl);
  }
    where
      kept : (i : ℕ) (r₁ : Request K) → numbered rs i ≡ Some r₁ → i < time → waiting i x ≡ false → Bears w rs (with_decision s t d) i r₁
      kept i (Enter j) asked lt out = h.answers i (Enter j) asked lt out
      kept i (Withdraw j) asked lt out = h.answers i (Withdraw j) asked lt out
      kept i (LookUp j) asked lt out = h.answers i (LookUp j) asked lt out
      kept i (Count lo hi) asked lt out = tt

      go : (i : ℕ) (r₁ : Request K) (k₁ : K) → numbered rs i ≡ Some r₁ → sought r₁ ≡ Some k₁ → (b : Bool) → eqb i t ≡ b → (put s.decision t (Some d) i ≡ Some (was w rs i k₁)) ⊎ ((put s.decision t (Some d) i ≡ None) × (time ≤ i))
      go i r₁ k₁ asked wants true e =
          let same = eqb-true i t e in
          let one : Some r ≡ Some r₁ = sym num ∙ ap (numbered rs) (sym same) ∙ asked in
          let is : r ≡ r₁ = cc in
          let keys : Some k ≡ Some k₁ = sym seeks ∙ ap sought is ∙ wants in
          let key : k ≡ k₁ = cc in
          inl (ap (λ v. cond v (Some d) (s.decision i)) e ∙ ap Some (right ∙ ap (λ j. was w rs j k) (sym same) ∙ ap (was w rs i) key))
      go i r₁ k₁ asked wants false e =
          ⊎_elim (λ old. inl (ap (λ v. cond v (Some d) (s.decision i)) e ∙ old)) (λ old. inr (ap (λ v. cond v (Some d) (s.decision i)) e ∙ old.0, old.1)) (h.decided i r₁ k₁ asked wants)

      still : (i : ℕ) → put s.decision t (Some d) i ≡ None → (b : Bool) → eqb i t ≡ b → s.decision i ≡ None
      still i undone true e = absurd (let z : ◌≡◌ {A = ℕ} 0 1 = clash (sym (ap (λ v. cond v (Some d) (s.decision i)) e) ∙ undone) in omega arith)
        where
          clash : ◌≡◌ {A = Option Bool} (Some d) None → ◌≡◌ {A = ℕ} 0 1
          clash c = cc
      still i undone false e = sym (ap (λ v. cond v (Some d) (s.decision i)) e) ∙ undone
