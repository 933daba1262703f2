-- The header as it is put field by field. Assumes nothing.
use Rattle.std.proofs.Common.{◌≡◌, ℕ, zero, suc, ◌+◌, ◌-◌, ◌*◌, ◌/◌, ◌%◌, ◌^◌, ◌<◌, ◌≤◌, mul-le-mul, List, [], ◌∷◌, ◌++◌, length, get_or, take, drop, sym, refl, ap, ◌∙◌, ap₂, arith, length-append}
use borrow.Rule.Slice.PartMut.{put_mid}
use Rattle.std.proofs.lemmas.List.{take_at, drop_at, drop-drop, append_assoc, take_more, length-take-le, flat_map_more}
use Rattle.std.specs.List.{flat_map}
use Rattle.std.specs.Int.{w32, to_be_bytes}
use Rattle.stored.specs.Numerals.{four}
use Rattle.archive.specs.Format.{header_fields}

fours_long : (ns : List ℕ) → length (flat_map four ns) ≡ 4 * length ns
fours_long [] = refl
fours_long (n ∷ ns) = let ih = fours_long ns in length-append (four n) (flat_map four ns) ∙ omega arith

-- one field more
pub field_put : (ns before buffer part : List ℕ) (i : ℕ) → i < length ns → 4 * length ns ≤ length before → buffer ≡ flat_map four (take i ns) ++ drop (4 * i) before → part ≡ four (get_or ns i 0) → put_mid (4 * i) (4 * i + 4 - 4 * i) buffer part ≡ flat_map four (take (i + 1) ns) ++ drop (4 * (i + 1)) before
field_put ns before buffer part i h l e f =
    let long : length (flat_map four (take i ns)) ≡ 4 * i = fours_long (take i ns) ∙ ap (λ n. 4 * n) (length-take-le i ns (omega arith)) in
    let front : take (4 * i) buffer ≡ flat_map four (take i ns) = ap (take (4 * i)) e ∙ take_at (flat_map four (take i ns)) (drop (4 * i) before) (4 * i) long in
    let back : drop (4 * i) buffer ≡ drop (4 * i) before = ap (drop (4 * i)) e ∙ drop_at (flat_map four (take i ns)) (drop (4 * i) before) (4 * i) long in
    let width : 4 * i + 4 - 4 * i ≡ 4 = omega arith in
    let further : 4 * i + 4 ≡ 4 * (i + 1) = omega arith in
    let later : drop (4 * i + 4 - 4 * i) (drop (4 * i) buffer) ≡ drop (4 * (i + 1)) before = ap₂ drop width back ∙ drop-drop 4 (4 * i) before ∙ ap (λ n. drop n before) further in
    let more : flat_map four (take i ns) ++ four (get_or ns i 0) ≡ flat_map four (take (i + 1) ns) = flat_map_more four [] (take i ns) (get_or ns i 0) ∙ ap (flat_map four) (sym (take_more ns i 0 h)) in
    ap₂ (λ x y. x ++ y) front (ap₂ (λ x y. x ++ y) f later) ∙ sym (append_assoc (flat_map four (take i ns)) (four (get_or ns i 0)) (drop (4 * (i + 1)) before)) ∙ ap (λ l. l ++ drop (4 * (i + 1)) before) more

-- each field of a header fits in four bytes
pub fields_fit : (rows key tally i : ℕ) → rows ≤ 1024 → key ≤ 16 → tally ≤ 16 → get_or (header_fields rows key tally) i 0 < 2 ^ 32
fields_fit rows key tally zero r k t = omega arith
fields_fit rows key tally (suc zero) r k t = omega arith
fields_fit rows key tally (suc (suc zero)) r k t = omega arith
fields_fit rows key tally (suc (suc (suc zero))) r k t = omega arith
fields_fit rows key tally (suc (suc (suc (suc zero)))) r k t = omega arith
fields_fit rows key tally (suc (suc (suc (suc (suc zero))))) r k t = omega arith
fields_fit rows key tally (suc (suc (suc (suc (suc (suc zero)))))) r k t = omega arith
fields_fit rows key tally (suc (suc (suc (suc (suc (suc (suc zero))))))) r k t =
    let m = mul-le-mul {n₁ = rows} {m₁ = 4 + 2 * key} {n₂ = 1024} {m₂ = 36} r (omega arith) in
    omega arith
fields_fit rows key tally (suc (suc (suc (suc (suc (suc (suc (suc zero)))))))) r k t =
    let m = mul-le-mul {n₁ = rows} {m₁ = 8 + 2 * key + tally} {n₂ = 1024} {m₂ = 56} r (omega arith) in
    omega arith
fields_fit rows key tally (suc (suc (suc (suc (suc (suc (suc (suc (suc i))))))))) r k t = omega arith

-- the library's four bytes of a number that fits in them
pub library_four : (n : ℕ) → n < 2 ^ 32 → to_be_bytes w32 n ≡ four n
library_four n h =
    let p : n / 16777216 % 256 ≡ n / 65536 / 256 = omega arith in
    let q : n / 256 % 256 ≡ n % 65536 / 256 = omega arith in
    let r : n % 256 ≡ n % 65536 % 256 = omega arith in
    rw (p, q, r)
