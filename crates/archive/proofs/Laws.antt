-- The laws of stored kinds that archives rest on, as they stand in the traits.
use Rattle.std.proofs.Common.{◌≡◌, ℕ, true, List, length, Some}
use Rattle.stored.specs.Forms.{KeyForm, TallyForm}
use Rattle.stored.specs.Numerals.{all_bytes}

pub record KeyLaws {K : Type 0} (keys : KeyForm K) : Type 0 where
  pub long : (k : K) → length (keys.written k) ≡ keys.size
  pub reread : (k : K) → keys.read (keys.written k) ≡ Some k
  pub rewritten : (bytes : List ℕ) (k : K) → keys.read bytes ≡ Some k → keys.written k ≡ bytes

pub record TallyLaws {T : Type 0} (tallies : TallyForm T) : Type 0 where
  pub long : (t : T) → length (tallies.written t) ≡ tallies.size
  pub reread : (t : T) → tallies.read (tallies.written t) ≡ t
  pub rewritten : (bytes : List ℕ) → length bytes ≡ tallies.size → all_bytes bytes ≡ true → tallies.written (tallies.read bytes) ≡ bytes
