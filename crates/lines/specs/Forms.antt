-- The form that words in a row are: they are read from the front, and none may be left over.
use Rattle.std.specs.Prelude.{ℕ, List, [], ◌∷◌, Some, None, Option}
use Rattle.std.specs.Option.{option_map}
use Rattle.requests.specs.declared.kind.Kind.{Kind}
use Rattle.requests.specs.declared.kind.Kind.TheVariants as kind
use Rattle.requests.specs.declared.request.Request.{Request}
use Rattle.requests.specs.declared.request.Request.TheVariants.{Enter, Withdraw, LookUp, Count}
use Rattle.words.specs.declared.routes.RouteWords.{RouteWords}
use Rattle.words.specs.Figures.{number_in}
use Rattle.words.specs.Lines.{route_words, row_words}
use Rattle.lines.specs.declared.call.Call.TheVariants.{Submit, Follow, Carry, Collect}
use Rattle.lines.specs.declared.vocabulary.Verb.{Verb}
use Rattle.lines.specs.declared.vocabulary.Verb.TheVariants as verb
use Rattle.lines.specs.Grammar.{Form}
use Rattle.lines.specs.Vocabulary.{verb_in, kind_in}

-- nothing more, or else nothing
abbrev pub at_end : {X : Type 0} → List (List ℕ) → X → Option X
at_end [] x = Some x
at_end (w ∷ ws) x = None

-- one number and nothing more
abbrev pub last_number : List (List ℕ) → Option ℕ
last_number [] = None
last_number (w ∷ []) = number_in w
last_number (w ∷ v ∷ vs) = None

-- both, or none
abbrev pub both_ends : Option RouteWords → Option RouteWords → Option (Request RouteWords)
both_ends None hi = None
both_ends (Some lo) None = None
both_ends (Some lo) (Some hi) = Some (Count lo hi)

-- two routes and nothing more
abbrev pub count_in : List (List ℕ) → Option (Request RouteWords)
count_in [] = None
count_in (a ∷ []) = None
count_in (a ∷ b ∷ []) = None
count_in (a ∷ b ∷ c ∷ hi) = both_ends (route_words a b c) (row_words hi)

-- the keys of a request of that kind
abbrev pub request_in : Kind → List (List ℕ) → Option (Request RouteWords)
request_in kind.Enter row = option_map Enter (row_words row)
request_in kind.Withdraw row = option_map Withdraw (row_words row)
request_in kind.LookUp row = option_map LookUp (row_words row)
request_in kind.Count row = count_in row

-- a request of the kind that was named, if one was
abbrev pub named_in : Option Kind → List (List ℕ) → Option (Request RouteWords)
named_in None row = None
named_in (Some k) row = request_in k row

-- the kind and then the keys
abbrev pub asked_in : List (List ℕ) → Option (Request RouteWords)
asked_in [] = None
asked_in (k ∷ row) = named_in (kind_in k) row

-- what stands behind the station
abbrev pub call_in : Verb → ℕ → List (List ℕ) → Option Form
call_in verb.Submit station row = option_map (λ request. Submit station request) (asked_in row)
call_in verb.Follow station row = option_map (λ request. Follow station request) (last_number row)
call_in verb.Carry station row = at_end row (Carry station)
call_in verb.Collect station row = at_end row (Collect station)

-- the call and the station, if both were read
abbrev pub begun_in : Option Verb → Option ℕ → List (List ℕ) → Option Form
begun_in None station row = None
begun_in (Some v) None row = None
begun_in (Some v) (Some station) row = call_in v station row

-- the form that words in a row are
abbrev pub row_form : List (List ℕ) → Option Form
row_form [] = None
row_form (v ∷ []) = None
row_form (v ∷ n ∷ row) = begun_in (verb_in v) (number_in n) row
