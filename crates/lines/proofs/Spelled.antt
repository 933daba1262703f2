-- A word as long as a text, with the bytes of that text, is the text. Rests on Names.
use Rattle.std.proofs.Common.{◌≡◌, ℕ, ◌+◌, ◌<◌, List, [], ◌∷◌, length, drop, slice_index, Some, sym, add-one, arith}
use Rattle.std.proofs.Math.Seq.{drop-cons}
use Rattle.std.proofs.lemmas.List.{drop_all}
use Rattle.requests.specs.declared.kind.Kind.{Kind}
use Rattle.lines.specs.declared.vocabulary.Verb.{Verb}
use Rattle.lines.specs.Vocabulary.{verb_word, kind_word, verb_in, kind_in}
use Rattle.lines.proofs.Names.{verb_back, kind_back}

-- the bytes of the text stand in the word from that place on
abbrev pub Spells : List ℕ → ℕ → List ℕ → Type 0
Spells word at [] = Unit {0}
Spells word at (b ∷ bs) = (slice_index word at ≡ b) × Spells word (at + 1) bs

dropped : (word text : List ℕ) (at : ℕ) → length word ≡ at + length text → Spells word at text → drop at word ≡ text
dropped word [] at l s = drop_all at word (omega arith)
dropped word (b ∷ bs) at l s =
    let inside : at < length word = omega arith in
    let more : drop (at + 1) word ≡ bs = dropped word bs (at + 1) (omega arith) s.1 in
    let here = s.0 in
    rw (drop-cons word at 0, ← add-one at, here, more)

pub verb_spelled : (word : List ℕ) (v : Verb) → length word ≡ length (verb_word v) → Spells word 0 (verb_word v) → Some v ≡ verb_in word
verb_spelled word v l s =
    let same : word ≡ verb_word v = dropped word (verb_word v) 0 (omega arith) s in
    rw same (sym (verb_back v))

pub kind_spelled : (word : List ℕ) (k : Kind) → length word ≡ length (kind_word k) → Spells word 0 (kind_word k) → Some k ≡ kind_in word
kind_spelled word k l s =
    let same : word ≡ kind_word k = dropped word (kind_word k) 0 (omega arith) s in
    rw same (sym (kind_back k))
