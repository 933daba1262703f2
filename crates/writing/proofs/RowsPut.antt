-- Rows as they are put over zeros. Assumes nothing.
use Rattle.std.proofs.Common.{◌≡◌, ℕ, suc, ◌+◌, ◌-◌, ◌*◌, ◌≤◌, List, [], ◌∷◌, ◌++◌, length, take, drop, set, ap, ◌∙◌, ap₂, arith, length-append}
use borrow.Rule.Slice.PartMut.{put_mid}
use lib.ListN.{length-replicate}
use Rattle.std.proofs.lemmas.List.{take_at, drop_at, drop-replicate, drop_all, append-nil, take_rest}
use Rattle.stored.specs.Forms.{put_after}
use Rattle.stored.specs.Puts.{put_through}
use Rattle.archive.specs.Format.{zeros}

-- a value in front of zeros
pub put_front : (size room : ℕ) (bytes fields last : List ℕ) → size ≤ 16 → size ≤ room → fields ≡ zeros room → last ≡ put_after size bytes fields → last ≡ bytes ++ zeros (room - size)
put_front size room bytes fields last h k e f =
    let long : length fields ≡ room = ap length e ∙ length-replicate room 0 in
    f ∙ put_through size bytes fields h (omega arith) ∙ ap (λ l. bytes ++ drop size l) e ∙ ap (λ l. bytes ++ l) (drop-replicate size room 0)

-- one key, and zeros for a second
pub one_key : (size width : ℕ) (bytes fields last : List ℕ) → size ≤ 16 → width ≡ size → fields ≡ zeros (2 * width) → last ≡ put_after size bytes fields → last ≡ bytes ++ zeros size
one_key size width bytes fields last h w e f =
    put_front size (2 * width) bytes fields last h (omega arith) e f ∙ ap (λ n. bytes ++ zeros n) (omega arith)

-- two keys
pub two_keys : (size width : ℕ) (lo hi fields first last : List ℕ) → size ≤ 16 → width ≡ size → length lo ≡ size → fields ≡ zeros (2 * width) → first ≡ put_after size lo fields → last ≡ put_after size hi (take (length first - width) (drop width first)) → put_mid width (length first - width) first last ≡ lo ++ hi
two_keys size width lo hi fields first last h w l e f g =
    let known : first ≡ lo ++ zeros size = one_key size width lo fields first h w e f in
    let front : take width first ≡ lo = ap₂ take w known ∙ take_at lo (zeros size) size l in
    let back : drop width first ≡ zeros size = ap₂ drop w known ∙ drop_at lo (zeros size) size l in
    let long : length (drop width first) ≡ size = ap length back ∙ length-replicate size 0 in
    let whole : take (length first - width) (drop width first) ≡ zeros size = take_rest first width ∙ back in
    let second : last ≡ hi ++ zeros (size - size) = put_front size size hi (take (length first - width) (drop width first)) last h (omega arith) whole g in
    let nothing : size - size ≡ 0 = omega arith in
    let none : zeros (size - size) ≡ [] = ap zeros nothing in
    let total : length first ≡ size + size = ap length known ∙ length-append lo (zeros size) ∙ ap₂ (λ x y. x + y) l (length-replicate size 0) in
    let past : drop (length first - width) (drop width first) ≡ [] = drop_all (length first - width) (drop width first) (omega arith) in
    let ends : last ++ drop (length first - width) (drop width first) ≡ hi = ap₂ (λ x y. x ++ y) (second ∙ ap (λ z. hi ++ z) none ∙ append-nil hi) past ∙ append-nil hi in
    ap₂ (λ x y. x ++ y) front ends

-- the first four bytes of a row over zeros
pub four_first : (n m a : ℕ) → n ≡ 4 + m → set (zeros n) 0 a ≡ a ∷ 0 ∷ 0 ∷ 0 ∷ zeros m
four_first n m a e = ap (λ k. set (zeros k) 0 a) (e ∙ step m)
  where
    step : (m : ℕ) → 4 + m ≡ suc (suc (suc (suc m)))
    step m = omega arith

-- what follows the first four
pub behind-four : (whole : List ℕ) (a b c d : ℕ) (rest : List ℕ) → whole ≡ a ∷ b ∷ c ∷ d ∷ rest → take (length whole - 4) (drop 4 whole) ≡ rest
behind-four whole a b c d rest e = take_rest whole 4 ∙ ap (drop 4) e

pub put-behind-four : (whole : List ℕ) (a b c d : ℕ) (rest last : List ℕ) → whole ≡ a ∷ b ∷ c ∷ d ∷ rest → put_mid 4 (length whole - 4) whole last ≡ a ∷ b ∷ c ∷ d ∷ last
put-behind-four whole a b c d rest last e =
    let long : length whole ≡ 4 + length rest = ap length e ∙ omega arith in
    let past : drop (length whole - 4) (drop 4 whole) ≡ [] = ap (λ l. drop (length whole - 4) (drop 4 l)) e ∙ drop_all (length whole - 4) rest (omega arith) in
    ap₂ (λ x y. x ++ y) (ap (take 4) e) (ap (λ l. last ++ l) past ∙ append-nil last)
