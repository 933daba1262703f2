-- The potential of a station's service, as a number: what it weighs, and what makes it fall. Rests on Bounds.
use Rattle.std.proofs.Common.{◌≡◌, ℕ, suc, ◌+◌, ◌-◌, ◌*◌, ◌<◌, ◌≤◌, Bool, true, false, cond, eqb, ◌⊎◌, sym, refl, ◌∙◌, ⊎_elim, true≢false, arith}
use Rattle.std.proofs.lemmas.Bool.{eq-eqb, ne_eqb}
use Rattle.rules.specs.declared.note.Note.{Note}
use Rattle.rules.specs.declared.note.Note.TheVariants as note
use Rattle.rules.proofs.Bounds.{sum_to, sum_mono, sum_fall}

-- how many calls it takes at most to decide request r, by the note
abbrev pub to_go : Note → ℕ → ℕ
to_go note.None r = suc r
to_go (note.Saw u p) r = suc r
to_go (note.Walk u p) r = cond (eqb u r) (r - p) (suc r)

-- what the note weighs: less while it is of use
abbrev pub burden : (ℕ → Bool) → (ℕ → ℕ → Bool) → Note → ℕ
burden undone heads note.None = 1
burden undone heads (note.Saw r p) = cond (heads r p) 0 2
burden undone heads (note.Walk r p) = cond (undone r) 1 2

-- what request r weighs: two for each visit, and what its decision takes while it is open
abbrev pub term : (ℕ → ℕ) → (ℕ → Bool) → Note → ℕ → ℕ
term visits undone old r = 2 * visits r + cond (undone r) (to_go old r) 0

abbrev pub potential : (ℕ → ℕ) → (ℕ → Bool) → (ℕ → ℕ → Bool) → Note → ℕ → ℕ
potential visits undone heads old t = sum_to (term visits undone old) t + burden undone heads old

-- among the numbers from 1 to t: no more visits, and no decision open that was not
abbrev pub NoMore : ℕ → (ℕ → ℕ) → (ℕ → ℕ) → Type 0
NoMore t v v' = (i : ℕ) → 1 ≤ i → i ≤ t → v' i ≤ v i

abbrev pub NoneOpens : ℕ → (ℕ → Bool) → (ℕ → Bool) → Type 0
NoneOpens t o o' = (i : ℕ) → 1 ≤ i → i ≤ t → o' i ≡ true → o i ≡ true

pub cond_less : (a b : Bool) (m n : ℕ) → (a ≡ true → b ≡ true) → m ≤ n → cond a m 0 ≤ cond b n 0
cond_less true b m n h le = rw (h refl) le
cond_less false b m n h le = omega arith

term_less : (v v' : ℕ → ℕ) (o o' : ℕ → Bool) (old new : Note) (i : ℕ) → v' i ≤ v i → (o' i ≡ true → o i ≡ true) → to_go new i ≤ to_go old i
    → term v' o' new i ≤ term v o old i
term_less v v' o o' old new i a b c = let u = cond_less (o' i) (o i) (to_go new i) (to_go old i) b c in omega arith

pub all_less : (v v' : ℕ → ℕ) (o o' : ℕ → Bool) (old new : Note) (t : ℕ) → NoMore t v v' → NoneOpens t o o' → ((i : ℕ) → to_go new i ≤ to_go old i)
    → sum_to (term v' o' new) t ≤ sum_to (term v o old) t
all_less v v' o o' old new t a b c =
    sum_mono (term v o old) (term v' o' new) t (λ i lo hi. term_less v v' o o' old new i (a i lo hi) (b i lo hi) (c i))

-- the weight of request r falls by d, and no other rises
pub one_falls : (v v' : ℕ → ℕ) (o o' : ℕ → Bool) (old new : Note) (t r d : ℕ) → 1 ≤ r → r ≤ t → NoMore t v v' → NoneOpens t o o'
    → ((i : ℕ) → (i ≡ r → ⊥) → to_go new i ≤ to_go old i) → term v' o' new r + d ≤ term v o old r
    → sum_to (term v' o' new) t + d ≤ sum_to (term v o old) t
one_falls v v' o o' old new t r d lo hi a b c e =
    sum_fall (term v o old) (term v' o' new) t r d lo hi (λ i l m ne. term_less v v' o o' old new i (a i l m) (b i l m) (c i ne)) e

pub walk_away : (r p i : ℕ) → (i ≡ r → ⊥) → to_go (note.Walk r p) i ≡ suc i
walk_away r p i ne = rw (ne_eqb r i (λ e. ne (sym e)))

-- what must be true of a note for others' calls not to raise the potential
abbrev pub Bearable : ℕ → (ℕ → ℕ) → (ℕ → ℕ) → (ℕ → Bool) → (ℕ → ℕ → Bool) → (ℕ → ℕ → Bool) → Note → Type 0
Bearable t v v' o h h' note.None = Unit {0}
Bearable t v v' o h h' (note.Saw r p) = (1 ≤ r) × (r ≤ t) × (h r p ≡ true → (h' r p ≡ true) ⊎ (suc (v' r) ≤ v r))
Bearable t v v' o h h' (note.Walk r p) = (1 ≤ r) × (r ≤ t) × (o r ≡ true → p < r)

pub others_keep : (v v' : ℕ → ℕ) (o o' : ℕ → Bool) (h h' : ℕ → ℕ → Bool) (old : Note) (t : ℕ) → NoMore t v v' → NoneOpens t o o' → Bearable t v v' o h h' old
    → potential v' o' h' old t ≤ potential v o h old t
others_keep v v' o o' h h' note.None t a b f = let u = all_less v v' o o' note.None note.None t a b (λ i. omega arith) in omega arith
others_keep v v' o o' h h' (note.Saw r p) t a b f = go (h r p) refl (h' r p) refl
  where
    sums : sum_to (term v' o' (note.Saw r p)) t ≤ sum_to (term v o (note.Saw r p)) t
    sums = all_less v v' o o' (note.Saw r p) (note.Saw r p) t a b (λ i. omega arith)

    less : suc (v' r) ≤ v r → sum_to (term v' o' (note.Saw r p)) t + 2 ≤ sum_to (term v o (note.Saw r p)) t
    less lt = one_falls v v' o o' (note.Saw r p) (note.Saw r p) t r 2 f.0 f.1 a b (λ i ne. omega arith)
        (let u : cond (o' r) (suc r) 0 ≤ cond (o r) (suc r) 0 = cond_less (o' r) (o r) (suc r) (suc r) (b r f.0 f.1) (omega arith) in omega arith)

    go : (c : Bool) → h r p ≡ c → (d : Bool) → h' r p ≡ d → sum_to (term v' o' (note.Saw r p)) t + cond (h' r p) 0 2 ≤ sum_to (term v o (note.Saw r p)) t + cond (h r p) 0 2
    go c e true g = rw (e, g) (omega (arith, sums))
    go false e false g = rw (e, g) (omega (arith, sums))
    go true e false g = ⊎_elim (λ u. absurd (true≢false (sym u ∙ g))) (λ (u : suc (v' r) ≤ v r). rw (e, g) (omega (arith, less u))) (f.2 e)
others_keep v v' o o' h h' (note.Walk r p) t a b f = go (o r) refl (o' r) refl
  where
    sums : sum_to (term v' o' (note.Walk r p)) t ≤ sum_to (term v o (note.Walk r p)) t
    sums = all_less v v' o o' (note.Walk r p) (note.Walk r p) t a b (λ i. omega arith)

    go : (c : Bool) → o r ≡ c → (d : Bool) → o' r ≡ d → sum_to (term v' o' (note.Walk r p)) t + cond (o' r) 1 2 ≤ sum_to (term v o (note.Walk r p)) t + cond (o r) 1 2
    go true e true g = rw (e, g) (omega (arith, sums))
    go false e true g = rw (e, g) (omega (arith, sums))
    go false e false g = rw (e, g) (omega (arith, sums))
    go true e false g =
        let less = one_falls v v' o o' (note.Walk r p) (note.Walk r p) t r 1 f.0 f.1 a b (λ i ne. omega arith)
        (let lt = f.2 e in let n = a r f.0 f.1 in rw (e, g, eq-eqb r r refl) (omega arith)) in
        rw (e, g) (omega arith)
