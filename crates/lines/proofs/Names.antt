-- A word that names a call or a kind is its word. Assumes nothing.
use Rattle.std.proofs.Common.{◌≡◌, ℕ, true, List, Some, refl, arith}
use Rattle.std.specs.Str.{bytes_eq}
use Rattle.std.proofs.lemmas.Slice.Eq.{bytes_eq-Decides}
use Rattle.octets.proofs.Joins.{lacks}
use Rattle.requests.specs.declared.kind.Kind.{Kind}
use Rattle.requests.specs.declared.kind.Kind.TheVariants.{Enter, Withdraw, LookUp, Count}
use Rattle.lines.specs.declared.vocabulary.Verb.{Verb}
use Rattle.lines.specs.declared.vocabulary.Verb.TheVariants.{Submit, Follow, Carry, Collect}
use Rattle.lines.specs.Vocabulary.{verb_word, kind_word, verb_in, kind_in}

same_text : (word text : List ℕ) → bytes_eq word text ≡ true → word ≡ text
same_text word text e = (bytes_eq-Decides word text).0 e

pub verb_named : (word : List ℕ) (v : Verb) → verb_in word ≡ Some v → word ≡ verb_word v
verb_named word Submit h = same_text word _ (grind arith)
verb_named word Follow h = same_text word _ (grind arith)
verb_named word Carry h = same_text word _ (grind arith)
verb_named word Collect h = same_text word _ (grind arith)

pub kind_named : (word : List ℕ) (k : Kind) → kind_in word ≡ Some k → word ≡ kind_word k
kind_named word Enter h = same_text word _ (grind arith)
kind_named word Withdraw h = same_text word _ (grind arith)
kind_named word LookUp h = same_text word _ (grind arith)
kind_named word Count h = same_text word _ (grind arith)

pub verb_back : (v : Verb) → verb_in (verb_word v) ≡ Some v
verb_back Submit = refl
verb_back Follow = refl
verb_back Carry = refl
verb_back Collect = refl

pub kind_back : (k : Kind) → kind_in (kind_word k) ≡ Some k
kind_back Enter = refl
kind_back Withdraw = refl
kind_back LookUp = refl
kind_back Count = refl

-- no space in them
pub verb_lacks : (v : Verb) → lacks 32 (verb_word v) ≡ true
verb_lacks Submit = refl
verb_lacks Follow = refl
verb_lacks Carry = refl
verb_lacks Collect = refl

pub kind_lacks : (k : Kind) → lacks 32 (kind_word k) ≡ true
kind_lacks Enter = refl
kind_lacks Withdraw = refl
kind_lacks LookUp = refl
kind_lacks Count = refl
