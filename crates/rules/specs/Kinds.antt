-- A kind of key and a kind of tally over it, as the rules see them: by their members, and by their laws.
use Rattle.std.specs.Prelude.{◌≡◌, Bool, true, false, cond, not, ◌&&◌}
use Rattle.keys.specs.declared.key.Key as key
use Rattle.tallies.specs.declared.tally.Tally as tally

pub record Kinds (K T : Type 0) : Type 0 where
  -- whether one key is at most another
  pub le : K → K → Bool
  -- the tally of no key
  pub none : T
  pub joined : T → T → T
  pub opposed : T → T
  -- the tally of one key
  pub weighed : K → T

abbrev pub kinds_of : {K F T : Type 0} → key.Ghosts K F → tally.Ghosts T K F → Kinds K T
kinds_of k t = record {
  le = k.le;
  none = t.none;
  joined = t.joined;
  opposed = t.opposed;
  weighed = t.weighed;
}

-- the laws of order and of joining
pub record Lawful {K T : Type 0} (w : Kinds K T) : Type 0 where
  pub reflexive : (a : K) → w.le a a ≡ true
  pub total : (a b : K) → w.le a b ≡ false → w.le b a ≡ true
  pub transitive : (a b c : K) → w.le a b ≡ true → w.le b c ≡ true → w.le a c ≡ true
  pub antisymmetric : (a b : K) → w.le a b ≡ true → w.le b a ≡ true → a ≡ b
  pub associative : (a b c : T) → w.joined (w.joined a b) c ≡ w.joined a (w.joined b c)
  pub commutative : (a b : T) → w.joined a b ≡ w.joined b a
  pub neutral : (a : T) → w.joined w.none a ≡ a
  pub cancelling : (a : T) → w.joined a (w.opposed a) ≡ w.none

module _ {K T : Type 0} (w : Kinds K T) where
  -- keys at most each other are one key
  abbrev pub same : K → K → Bool
  same a b = w.le a b && w.le b a

  abbrev pub before : K → K → Bool
  before a b = not (w.le b a)

  abbrev pub greater : K → K → K
  greater a b = cond (w.le a b) b a

  abbrev pub lesser : K → K → K
  lesser a b = cond (w.le a b) a b
