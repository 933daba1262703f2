-- What the order laws give of keys. Assumes nothing.
use Rattle.std.proofs.Common.{◌≡◌, true, false, arith}
use Rattle.rules.specs.Kinds.{Kinds, Lawful, same, before}

module _ {K T : Type 0} (w : Kinds K T) (l : Lawful w) where
  pub same_refl : (a : K) → same w a a ≡ true
  same_refl a = let e = l.reflexive a in grind arith

  pub same_eq : (a b : K) → same w a b ≡ true → a ≡ b
  same_eq a b e = grind (arith, l.antisymmetric)

  pub same_sym : (a b : K) → same w a b ≡ same w b a
  same_sym a b = grind arith

  pub before_irrefl : (a : K) → before w a a ≡ false
  before_irrefl a = let e = l.reflexive a in grind arith

  pub before_trans : (a b c : K) → before w a b ≡ true → before w b c ≡ true → before w a c ≡ true
  before_trans a b c e f = let t = l.transitive c a b in let u = l.total c b in grind arith

  pub before-le : (a b : K) → before w a b ≡ true → w.le a b ≡ true
  before-le a b e = let u = l.total b a in grind arith

  pub before-le_trans : (a b c : K) → before w a b ≡ true → w.le b c ≡ true → before w a c ≡ true
  before-le_trans a b c e f = let t = l.transitive b c a in grind arith

  pub le-before_trans : (a b c : K) → w.le a b ≡ true → before w b c ≡ true → before w a c ≡ true
  le-before_trans a b c e f = let t = l.transitive c a b in grind arith

  -- keys that are not the same are one before the other
  pub apart : (a b : K) → same w a b ≡ false → w.le a b ≡ true → before w a b ≡ true
  apart a b n e = grind arith
