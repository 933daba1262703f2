-- The station's own turns lower the potential, and its bounds. Rests on Potentials.
use Rattle.std.proofs.Common.{◌≡◌, ℕ, suc, ◌+◌, ◌*◌, ◌/◌, ◌<◌, ◌≤◌, Bool, true, false, cond, refl, arith}
use Rattle.std.proofs.lemmas.Bool.{eq-eqb}
use Rattle.rules.specs.declared.note.Note.{Note}
use Rattle.rules.specs.declared.note.Note.TheVariants as note
use Rattle.rules.proofs.Bounds.{sum_mono, sum_one, sum_enough}
use Rattle.rules.proofs.Potentials.{term, potential, NoMore, NoneOpens, cond_less, all_less, one_falls, walk_away}

-- without a note the potential is at most the sum that is enough
pub at_start : (v : ℕ → ℕ) (o : ℕ → Bool) (h : ℕ → ℕ → Bool) (t : ℕ) → ((i : ℕ) → v i ≤ i) → potential v o h note.None t ≤ suc (3 * t * (t + 1) / 2 + t)
at_start v o h t short =
    let u = sum_mono (λ r. 3 * r + 1) (term v o note.None) t (λ i lo hi. let c = upto (o i) (suc i) in let d = short i in omega arith) in
    let e = sum_enough t in
    omega arith
  where
    upto : (b : Bool) (m : ℕ) → cond b m 0 ≤ m
    upto true m = omega arith
    upto false m = omega arith

-- a request that is not finished weighs two
pub at_least : (v : ℕ → ℕ) (o : ℕ → Bool) (h : ℕ → ℕ → Bool) (old : Note) (t : ℕ) → 1 ≤ t → 1 ≤ v t → 2 ≤ potential v o h old t
at_least v o h old t lo some = let u = sum_one (term v o old) t t lo (omega arith) in omega arith

module _ (v : ℕ → ℕ) (o : ℕ → Bool) (h h' : ℕ → ℕ → Bool) (t r p : ℕ) where
  -- a note taken of a head
  pub note-taken : h r p ≡ true → suc (potential v o h (note.Saw r p) t) ≤ potential v o h note.None t
  note-taken e = let u = all_less v v o o note.None (note.Saw r p) t (λ i lo hi. omega arith) (λ i lo hi f. f) (λ i. omega arith) in rw e (omega arith)

  -- a note dropped that is of no use
  pub saw_lapses : h r p ≡ false → suc (potential v o h' note.None t) ≤ potential v o h (note.Saw r p) t
  saw_lapses e = let u = all_less v v o o (note.Saw r p) note.None t (λ i lo hi. omega arith) (λ i lo hi f. f) (λ i. omega arith) in rw e (omega arith)

  pub walk_lapses : 1 ≤ r → r ≤ t → o r ≡ false → suc (potential v o h' note.None t) ≤ potential v o h (note.Walk r p) t
  walk_lapses lo hi e =
      let u = one_falls v v o o (note.Walk r p) note.None t r 0 lo hi (λ i lo hi. omega arith) (λ i lo hi f. f) (λ i ne. rw (walk_away r p i ne) (omega arith)) (rw e (omega arith)) in
      rw e (omega arith)

  -- a walk begun, and gone on
  pub walk_begins : (f : ℕ) → 1 ≤ r → r ≤ t → o r ≡ true → 0 < f → suc (potential v o h' (note.Walk r f) t) ≤ potential v o h (note.Saw r p) t
  walk_begins f lo hi e far =
      let u = one_falls v v o o (note.Saw r p) (note.Walk r f) t r 2 lo hi (λ i lo hi. omega arith) (λ i lo hi f. f) (λ i ne. rw (walk_away r f i ne) (omega arith)) (rw (e, eq-eqb r r refl) (omega arith)) in
      rw e (omega arith)

  pub walk_goes : (f : ℕ) → 1 ≤ r → r ≤ t → o r ≡ true → p < r → p < f → suc (potential v o h' (note.Walk r f) t) ≤ potential v o h (note.Walk r p) t
  walk_goes f lo hi e low far =
      let u = one_falls v v o o (note.Walk r p) (note.Walk r f) t r 1 lo hi (λ i lo hi. omega arith) (λ i lo hi f. f) (λ i ne. rw (walk_away r f i ne, walk_away r p i ne) (omega arith)) (rw (e, eq-eqb r r refl) (omega arith)) in
      rw e (omega arith)

  module _ (o' : ℕ → Bool) (kept : NoneOpens t o o') where
    -- a decision written
    pub saw_decides : 1 ≤ r → r ≤ t → o r ≡ true → o' r ≡ false → suc (potential v o' h' note.None t) ≤ potential v o h (note.Saw r p) t
    saw_decides lo hi e g =
        let u = one_falls v v o o' (note.Saw r p) note.None t r 2 lo hi (λ i lo hi. omega arith) kept (λ i ne. omega arith) (rw (e, g) (omega arith)) in
        omega arith

    pub walk_decides : 1 ≤ r → r ≤ t → o r ≡ true → o' r ≡ false → p < r → suc (potential v o' h' note.None t) ≤ potential v o h (note.Walk r p) t
    walk_decides lo hi e g low =
        let u = one_falls v v o o' (note.Walk r p) note.None t r 1 lo hi (λ i lo hi. omega arith) kept (λ i ne. rw (walk_away r p i ne) (omega arith)) (rw (e, g, eq-eqb r r refl) (omega arith)) in
        rw e (omega arith)

    -- a request moved
    pub saw_moves : (v' : ℕ → ℕ) → 1 ≤ r → r ≤ t → NoMore t v v' → suc (v' r) ≤ v r → suc (potential v' o' h' note.None t) ≤ potential v o h (note.Saw r p) t
    saw_moves v' lo hi less lt =
        let c : cond (o' r) (suc r) 0 ≤ cond (o r) (suc r) 0 = cond_less (o' r) (o r) (suc r) (suc r) (kept r lo hi) (omega arith) in
        let u = one_falls v v' o o' (note.Saw r p) note.None t r 2 lo hi less kept (λ i ne. omega arith) (omega arith) in
        omega arith
