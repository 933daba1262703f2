-- The word of each call and of each kind of request, and which of them a word is.
use Rattle.std.specs.Prelude.{ℕ, cond, List, Some, None, codes, Option}
use Rattle.std.specs.Str.{bytes_eq}
use Rattle.requests.specs.declared.kind.Kind.{Kind}
use Rattle.requests.specs.declared.kind.Kind.TheVariants.{Enter, Withdraw, LookUp, Count}
use Rattle.lines.specs.declared.vocabulary.Verb.{Verb}
use Rattle.lines.specs.declared.vocabulary.Verb.TheVariants.{Submit, Follow, Carry, Collect}

abbrev pub verb_word : Verb → List ℕ
verb_word Submit = codes "submit"
verb_word Follow = codes "follow"
verb_word Carry = codes "carry"
verb_word Collect = codes "collect"

abbrev pub kind_word : Kind → List ℕ
kind_word Enter = codes "enter"
kind_word Withdraw = codes "withdraw"
kind_word LookUp = codes "lookup"
kind_word Count = codes "count"

-- the call that a word names
abbrev pub verb_in : List ℕ → Option Verb
verb_in word =
    cond (bytes_eq word (verb_word Submit)) (Some Submit)
    (cond (bytes_eq word (verb_word Follow)) (Some Follow)
    (cond (bytes_eq word (verb_word Carry)) (Some Carry)
    (cond (bytes_eq word (verb_word Collect)) (Some Collect) None)))

-- the kind of request that a word names
abbrev pub kind_in : List ℕ → Option Kind
kind_in word =
    cond (bytes_eq word (kind_word Enter)) (Some Enter)
    (cond (bytes_eq word (kind_word Withdraw)) (Some Withdraw)
    (cond (bytes_eq word (kind_word LookUp)) (Some LookUp)
    (cond (bytes_eq word (kind_word Count)) (Some Count) None)))
