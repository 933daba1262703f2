-- The laws of the order of texts. Rests on Orders.
use Rattle.std.specs.Prelude.{◌≡◌, ℕ, ◌+◌, ◌<◌, ◌≤◌, true, false, List, [], ◌∷◌, length, drop, slice_index, refl}
use Rattle.std.proofs.Common.{◌∙◌, arith}
use Rattle.std.proofs.lemmas.List.{at_drop_more, at_drop_all}
use Rattle.keys.specs.Orders.{text_le, by_first}
use Rattle.keys.specs.OrdersLemmas.{by_first_refl, by_first-total, by_first_trans, by_first_antisym}

pub text_refl : (xs : List ℕ) → text_le xs xs ≡ true
text_refl [] = refl
text_refl (x ∷ xs) = by_first_refl x _ ∙ text_refl xs

pub text_total : (xs ys : List ℕ) → text_le xs ys ≡ false → text_le ys xs ≡ true
text_total [] [] e = refl
text_total [] (y ∷ ys) e = absurd (let z : ◌≡◌ {A = ℕ} 0 1 = cc in omega arith)
text_total (x ∷ xs) [] e = refl
text_total (x ∷ xs) (y ∷ ys) e = by_first-total x y _ _ (text_total xs ys) e

pub text_trans : (xs ys zs : List ℕ) → text_le xs ys ≡ true → text_le ys zs ≡ true → text_le xs zs ≡ true
text_trans [] ys zs e f = refl
text_trans (x ∷ xs) [] zs e f = absurd (let z : ◌≡◌ {A = ℕ} 0 1 = cc in omega arith)
text_trans (x ∷ xs) (y ∷ ys) [] e f = absurd (let z : ◌≡◌ {A = ℕ} 0 1 = cc in omega arith)
text_trans (x ∷ xs) (y ∷ ys) (z ∷ zs) e f = by_first_trans x y z _ _ _ (text_trans xs ys zs) e f

pub text_antisym : (xs ys : List ℕ) → text_le xs ys ≡ true → text_le ys xs ≡ true → xs ≡ ys
text_antisym [] [] e f = refl
text_antisym [] (y ∷ ys) e f = absurd (let z : ◌≡◌ {A = ℕ} 0 1 = cc in omega arith)
text_antisym (x ∷ xs) [] e f = absurd (let z : ◌≡◌ {A = ℕ} 0 1 = cc in omega arith)
text_antisym (x ∷ xs) (y ∷ ys) e f =
    let p = by_first_antisym x y _ _ e f in
    let first = p.0 in
    let rest = text_antisym xs ys p.1 p.2 in
    cc

-- one byte of each more
pub text_more : (xs ys : List ℕ) (i : ℕ) → i < length xs → i < length ys → text_le (drop i xs) (drop i ys) ≡ by_first (slice_index xs i) (slice_index ys i) (text_le (drop (i + 1) xs) (drop (i + 1) ys))
text_more xs ys i h k =
    at_drop_more (λ l. text_le l (drop i ys)) xs i 0 h ∙ at_drop_more (λ l. text_le (slice_index xs i ∷ drop (i + 1) xs) l) ys i 0 k

-- nothing is left
pub text_end : (xs ys : List ℕ) (i : ℕ) → length xs ≤ i → text_le (drop i xs) (drop i ys) ≡ true
text_end xs ys i h = at_drop_all (λ l. text_le l (drop i ys)) xs i h
