-- The grammar: the words of a line and its text, from what stands in it.
use Rattle.std.specs.Prelude.{ℕ, ◌<◌, List, [], ◌∷◌, ◌++◌, decimal}
use Rattle.keys.specs.Classes.{class_letter}
use Rattle.requests.specs.declared.request.Request.{Request}
use Rattle.requests.specs.declared.request.Request.TheVariants.{Enter, Withdraw, LookUp, Count}
use Rattle.requests.specs.Requests.{kind_of}
use Rattle.words.specs.declared.routes.RouteWords.{RouteWords}
use Rattle.lines.specs.declared.call.Call.{Call}
use Rattle.lines.specs.declared.call.Call.TheVariants.{Submit, Follow, Carry, Collect}
use Rattle.lines.specs.declared.vocabulary.Verb.TheVariants as verb
use Rattle.lines.specs.Vocabulary.{verb_word, kind_word}

-- what stands in a line: a call, the fields of its keys not yet checked for range
abbrev pub Form : Type 0
Form = Call RouteWords

-- entry, exit and class
abbrev pub route_row : RouteWords → List (List ℕ)
route_row w = decimal w.entry ∷ decimal w.exit ∷ (class_letter w.class ∷ []) ∷ []

-- the keys of a request, the lower end of a count first
abbrev pub keys_row : Request RouteWords → List (List ℕ)
keys_row (Enter w) = route_row w
keys_row (Withdraw w) = route_row w
keys_row (LookUp w) = route_row w
keys_row (Count lo hi) = route_row lo ++ route_row hi

-- the word of the call, the station, and what the call needs besides
abbrev pub line_row : Form → List (List ℕ)
line_row (Submit station request) = verb_word verb.Submit ∷ decimal station ∷ kind_word (kind_of request) ∷ keys_row request
line_row (Follow station request) = verb_word verb.Follow ∷ decimal station ∷ decimal request ∷ []
line_row (Carry station) = verb_word verb.Carry ∷ decimal station ∷ []
line_row (Collect station) = verb_word verb.Collect ∷ decimal station ∷ []

-- words in a row, one space (32 in ASCII) between two
abbrev pub spaced : List (List ℕ) → List ℕ
spaced [] = []
spaced (w ∷ []) = w
spaced (w ∷ v ∷ vs) = w ++ (32 ∷ spaced (v ∷ vs))

-- the text of a line
abbrev pub line_text : Form → List ℕ
line_text form = spaced (line_row form)

-- at most five digits
abbrev pub Short : ℕ → Type 0
Short n = n < 100000

abbrev pub ShortRoute : RouteWords → Type 0
ShortRoute w = Short w.entry × Short w.exit

abbrev pub ShortRequest : Request RouteWords → Type 0
ShortRequest (Enter w) = ShortRoute w
ShortRequest (Withdraw w) = ShortRoute w
ShortRequest (LookUp w) = ShortRoute w
ShortRequest (Count lo hi) = ShortRoute lo × ShortRoute hi

-- every numeral of the line has at most five digits
abbrev pub ShortForm : Form → Type 0
ShortForm (Submit station request) = Short station × ShortRequest request
ShortForm (Follow station request) = Short station × Short request
ShortForm (Carry station) = Short station
ShortForm (Collect station) = Short station
