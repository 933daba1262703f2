-- Numbers in bytes: what was written is read back, and bytes that were read are written again. Assumes nothing.
use Rattle.std.specs.Prelude.{◌≡◌, ℕ, ◌/◌, ◌%◌, ◌<◌, [], ◌∷◌}
use Rattle.std.proofs.Common.{ap₂, arith}
use Rattle.stored.specs.Numerals.{two, four, value}

pub two_read : (n : ℕ) → value (two n) ≡ n
two_read n = omega arith

pub two_written : (a b : ℕ) → b < 256 → two (value (a ∷ b ∷ [])) ≡ a ∷ b ∷ []
two_written a b h =
    let high : value (a ∷ b ∷ []) / 256 ≡ a = omega arith in
    let low : value (a ∷ b ∷ []) % 256 ≡ b = omega arith in
    ap₂ (λ x y. x ∷ y ∷ []) high low

pub four_read : (n : ℕ) → value (four n) ≡ n
four_read n = omega arith

pub four_written : (a b c d : ℕ) → b < 256 → c < 256 → d < 256 → four (value (a ∷ b ∷ c ∷ d ∷ [])) ≡ a ∷ b ∷ c ∷ d ∷ []
four_written a b c d h k l =
    let n : ℕ = value (a ∷ b ∷ c ∷ d ∷ []) in
    let p : value (a ∷ b ∷ c ∷ d ∷ []) / 65536 / 256 ≡ a = omega arith in
    let q : value (a ∷ b ∷ c ∷ d ∷ []) / 65536 % 256 ≡ b = omega arith in
    let r : value (a ∷ b ∷ c ∷ d ∷ []) % 65536 / 256 ≡ c = omega arith in
    let s : value (a ∷ b ∷ c ∷ d ∷ []) % 65536 % 256 ≡ d = omega arith in
    rw (p, q, r, s)
