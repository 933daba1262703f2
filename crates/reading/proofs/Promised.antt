-- From the keys counted and written over the live cells to what reading off promises. Rests on Shown.
use Rattle.std.proofs.Common.{◌≡◌, ℕ, ◌<◌, ◌≤◌, Bool, true, false, cond, ◌||◌, ltb, List, ◌++◌, map, length, take, drop, None, Ok, Err, Result, sym, refl, ap, ◌∙◌, ap₂, arith}
use mathlib.Core.List.{map-map}
use lib.ListN.{length-map}
use Rattle.std.proofs.lemmas.Bool.{lt-ltb, le-ltb}
use Rattle.keys.specs.declared.key.Key as key
use Rattle.keys.specs.declared.refusal.Refusal.{Refusal}
use Rattle.keys.specs.declared.refusal.Refusal.TheVariants as no
use Rattle.tallies.specs.declared.tally.Tally as tally
use Rattle.rules.specs.Calls.{check, answer_by}
use Rattle.rules.specs.ReadOff.{keys_listed}
use Rattle.cells.specs.declared.cell.Cell.{Cell}
use Rattle.cells.specs.declared.desk.Desk.{Desk}
use Rattle.cells.specs.declared.slot.Slot.{Slot}
use Rattle.cells.specs.Views.{state_shown}
use Rattle.reading.specs.Walks.{firsts_under}
use Rattle.reading.specs.Promises.{Rising, keys_over, counted_within, written_within, keys_answer, keys_after}
use Rattle.reading.proofs.Shown.{listed_same}

-- a refusal says that they do not
pub count_past : (room total : ℕ) (refusal : Refusal) → Err refusal ≡ counted_within room total → ltb room total ≡ true
count_past room total refusal = go (ltb room total) refl
  where
    go : (b : Bool) → ltb room total ≡ b → ◌≡◌ {A = Result ℕ Refusal} (Err refusal) (cond b (Err no.TooShort) (Ok total)) → ltb room total ≡ true
    go true e u = e
    go false e u = absurd cc

module _ {A B : Type 0} (h : A → B) (all : List A) (row : List B) where
  pub over_past : (refusal : Refusal) → Err refusal ≡ counted_within (length row) (length all) → row ≡ written_within h all row
  over_past refusal e = sym (ap (λ b. cond b row (keys_over h all row)) (count_past (length row) (length all) refusal e))

module _ {K F T : Type 0} (k : key.Ghosts K F) (t : tally.Ghosts T K F) (cells : List (Cell F T)) (count : ℕ) (gate : Slot) (desks : List Desk)
    (row : List F) (work : ℕ) (r : Rising (state_shown k t cells count gate desks)) where
  abbrev keys : List K
  keys = keys_listed (state_shown k t cells count gate desks)

  -- too short a work row is refused
  pub short-answer : work < count → Err no.TooShort ≡ keys_answer (length keys) (length row) work count
  short-answer h = sym (ap (λ b. cond b (Err no.TooShort) (counted_within (length row) (length keys))) (lt-ltb work count h))

  pub short-after : work < count → row ≡ keys_after k.parts keys row work count
  short-after h = sym (ap (λ b. cond b row (written_within k.parts keys row)) (lt-ltb work count h))

  -- as many keys as the walk names
  keys_long : length (firsts_under (take count cells) gate) ≡ length keys
  keys_long = sym (ap length (listed_same k t cells count gate desks r) ∙ length-map (firsts_under (take count cells) gate) k.made)

  keys_same : map (λ f. k.parts (k.made f)) (firsts_under (take count cells) gate) ≡ map k.parts keys
  keys_same = sym (ap (map k.parts) (listed_same k t cells count gate desks r) ∙ map-map k.parts k.made (firsts_under (take count cells) gate))

  module _ (live : List (Cell F T)) (is : live ≡ take count cells) (h : count ≤ work) where
    long : length (firsts_under live gate) ≡ length keys
    long = ap (λ v. length (firsts_under v gate)) is ∙ keys_long

    pub read_answer : (a : Result ℕ Refusal) → a ≡ counted_within (length row) (length (firsts_under live gate)) → a ≡ keys_answer (length keys) (length row) work count
    read_answer a e =
        e ∙ ap (counted_within (length row)) long
        ∙ sym (ap (λ b. cond b (Err no.TooShort) (counted_within (length row) (length keys))) (le-ltb work count h))

    pub read-after : (row' : List F) → row' ≡ written_within (λ f. k.parts (k.made f)) (firsts_under live gate) row → row' ≡ keys_after k.parts keys row work count
    read-after row' e =
        e
        ∙ ap₂ (λ n fs. cond (ltb (length row) n) row (fs ++ drop n row)) long (ap (λ v. map (λ f. k.parts (k.made f)) (firsts_under v gate)) is ∙ keys_same)
        ∙ sym (ap (λ b. cond b row (written_within k.parts keys row)) (le-ltb work count h))

-- the answer as the rules give it, to a caller that has refused a work row shorter than the capacity
pub rules-answer : (keys row work count capacity : ℕ) → count ≤ capacity → capacity ≤ work
    → keys_answer keys row work count ≡ answer_by (check (ltb row keys || ltb work capacity) no.TooShort None) keys
rules-answer keys row work count capacity h k =
    ap (λ b. cond b (Err no.TooShort) (counted_within row keys)) (le-ltb work count (omega arith))
    ∙ go (ltb row keys)
    ∙ ap (λ b. answer_by (check (ltb row keys || b) no.TooShort None) keys) (sym (le-ltb work capacity k))
  where
    go : (b : Bool) → cond b (Err no.TooShort) (Ok keys) ≡ answer_by (check (b || false) no.TooShort None) keys
    go true = refl
    go false = refl
