-- The laws of an order by parts: what holds of the rest holds of the whole. Assumes nothing.
use Rattle.std.specs.Prelude.{◌≡◌, ℕ, Bool, true, false, ◌≢◌, nat_le, nat_lt}
use Rattle.std.proofs.Common.{arith}
use Rattle.keys.specs.Orders.{by_first}

pub by_first_refl : (a : ℕ) (r : Bool) → by_first a a r ≡ r
by_first_refl a r = grind arith

-- the rest's answer comes through where the first parts are equal
pub by_first-total : (a b : ℕ) (r s : Bool) → (r ≡ false → s ≡ true) → by_first a b r ≡ false → by_first b a s ≡ true
by_first-total a b r s h e = grind arith

pub by_first_trans : (a b c : ℕ) (r s t : Bool) → (r ≡ true → s ≡ true → t ≡ true) → by_first a b r ≡ true → by_first b c s ≡ true → by_first a c t ≡ true
by_first_trans a b c r s t h e f = grind arith

pub by_first_antisym : (a b : ℕ) (r s : Bool) → by_first a b r ≡ true → by_first b a s ≡ true → (a ≡ b) × (r ≡ true) × (s ≡ true)
by_first_antisym a b r s e f = (grind arith, grind arith, grind arith)

-- the same of plain numbers
pub leb-total : (a b : ℕ) → nat_le a b ≡ false → nat_le b a ≡ true
leb-total a b e = grind arith

pub leb_trans : (a b c : ℕ) → nat_le a b ≡ true → nat_le b c ≡ true → nat_le a c ≡ true
leb_trans a b c e f = grind arith

pub leb_antisym : (a b : ℕ) → nat_le a b ≡ true → nat_le b a ≡ true → a ≡ b
leb_antisym a b e f = grind arith

-- first parts that differ decide, and equal ones leave it to the rest
pub by_first_differ : (a b : ℕ) (r : Bool) → (a ≢ b) → by_first a b r ≡ nat_lt a b
by_first_differ a b r n = grind arith

pub by_first-same : (a b : ℕ) (r : Bool) → a ≡ b → by_first a b r ≡ r
by_first-same a b r e = grind arith
