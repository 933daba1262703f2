-- Pairs of tallies and their bytes. Rests on Puts.
use Rattle.std.specs.Prelude.{◌≡◌, ℕ, zero, suc, ◌+◌, ◌-◌, ◌≤◌, true, List, [], ◌∷◌, ◌++◌, length, take, drop, Ok, refl}
use Rattle.std.proofs.Common.{sym, ap, ap₂, ◌∙◌, arith}
use borrow.Rule.Slice.PartMut.{put_mid}
use Rattle.std.proofs.lemmas.List.{take_at, drop_at, take-take, drop-take, length-take-le, length-drop, take-append-drop, drop-drop, drop_all, append-nil, append_assoc, take_rest}
use Rattle.tallies.specs.declared.pair.Pair.{Pair}
use Rattle.stored.specs.Numerals.{all_bytes}
use Rattle.stored.specs.Forms.{TallyForm, put_after, tally_got}
use Rattle.stored.specs.PairBytes.{pair_form}
use Rattle.stored.specs.Puts.{checked_through, put_through}

-- parts of bytes are bytes
pub all_bytes-take : (n : ℕ) (bytes : List ℕ) → all_bytes bytes ≡ true → all_bytes (take n bytes) ≡ true
all_bytes-take zero bytes h = refl
all_bytes-take (suc n) [] h = refl
all_bytes-take (suc n) (b ∷ bs) h = let ih = all_bytes-take n bs (grind arith) in grind arith

pub all_bytes-drop : (n : ℕ) (bytes : List ℕ) → all_bytes bytes ≡ true → all_bytes (drop n bytes) ≡ true
all_bytes-drop zero bytes h = h
all_bytes-drop (suc n) [] h = refl
all_bytes-drop (suc n) (b ∷ bs) h = all_bytes-drop n bs (grind arith)

module _ {A B : Type 0} (a : TallyForm A) (b : TallyForm B) where
  pub pair_reread : ((t : A) → length (a.written t) ≡ a.size) → ((t : A) → a.read (a.written t) ≡ t) → ((t : B) → b.read (b.written t) ≡ t) → (t : Pair A B) → (pair_form a b).read ((pair_form a b).written t) ≡ t
  pair_reread long first second t =
      let front : take a.size (a.written t.first ++ b.written t.second) ≡ a.written t.first = take_at _ _ _ (long t.first) in
      let back : drop a.size (a.written t.first ++ b.written t.second) ≡ b.written t.second = drop_at _ _ _ (long t.first) in
      ap₂ (λ x y. record { first = x; second = y }) (ap a.read front ∙ first t.first) (ap b.read back ∙ second t.second)

  pub pair_rewritten : ((bytes : List ℕ) → length bytes ≡ a.size → all_bytes bytes ≡ true → a.written (a.read bytes) ≡ bytes) → ((bytes : List ℕ) → length bytes ≡ b.size → all_bytes bytes ≡ true → b.written (b.read bytes) ≡ bytes) → (bytes : List ℕ) → length bytes ≡ a.size + b.size → all_bytes bytes ≡ true → (pair_form a b).written ((pair_form a b).read bytes) ≡ bytes
  pair_rewritten first second bytes e h =
      let p = first (take a.size bytes) (length-take-le a.size bytes (omega arith)) (all_bytes-take a.size bytes h) in
      let long : length (drop a.size bytes) ≡ b.size = length-drop a.size bytes ∙ omega arith in
      let q = second (drop a.size bytes) long (all_bytes-drop a.size bytes h) in
      ap₂ (λ x y. x ++ y) p q ∙ take-append-drop a.size bytes

  -- getting both from a row that is long enough
  pub pair_got : (row : List ℕ) → a.size + b.size ≤ 16 → a.size + b.size ≤ length row → tally_got (pair_form a b) row ≡ Ok (record { first = a.read (take a.size row); second = b.read (take b.size (drop a.size row)) })
  pair_got row h k =
      let front : take a.size (take (a.size + b.size) row) ≡ take a.size row = take-take a.size (a.size + b.size) row (omega arith) in
      let back : drop a.size (take (a.size + b.size) row) ≡ take b.size (drop a.size row) = drop-take a.size b.size row in
      checked_through (a.size + b.size) row _ h k ∙ ap₂ (λ x y. Ok (record { first = a.read x; second = b.read y })) front back

-- the second goes behind the first, which was put in front
pub pair_put : (row first-in part first second : List ℕ) (a b k : ℕ) → a + b ≤ 16 → a + b ≤ length row → length first ≡ a → first-in ≡ put_after a first row → k ≡ length row - a → part ≡ put_after b second (take k (drop a first-in)) → put_mid a k first-in part ≡ put_after (a + b) (first ++ second) row
pair_put row first-in part first second a b k h l long e f g =
    let front : first-in ≡ first ++ drop a row = e ∙ put_through a first row (omega arith) (omega arith) in
    let head : take a first-in ≡ first = ap (take a) front ∙ take_at first (drop a row) a long in
    let tail : drop a first-in ≡ drop a row = ap (drop a) front ∙ drop_at first (drop a row) a long in
    let rest : length (drop a row) ≡ length row - a = length-drop a row in
    let whole : take k (drop a first-in) ≡ drop a row = ap (take k) tail ∙ ap (λ n. take n (drop a row)) f ∙ take_rest row a in
    let under = put_through b second (drop a row) (omega arith) (omega arith) in
    let known : part ≡ second ++ drop b (drop a row) = g ∙ ap (put_after b second) whole ∙ under in
    let none : drop k (drop a first-in) ≡ [] = ap (drop k) tail ∙ drop_all k (drop a row) (omega arith) in
    let all = put_through (a + b) (first ++ second) row h l in
    let ends : part ++ drop k (drop a first-in) ≡ part = ap (λ l. part ++ l) none ∙ append-nil part in
    let later : drop b (drop a row) ≡ drop (a + b) row = drop-drop b a row in
    ap₂ (λ x y. x ++ y) head (ends ∙ known ∙ ap (λ l. second ++ l) later) ∙ sym (append_assoc first second (drop (a + b) row)) ∙ sym all
