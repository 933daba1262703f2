-- What it means that a line is a call, or is none: by the text alone, with no word of how it is read.
use Rattle.std.specs.Prelude.{◌≡◌, ℕ, Bool, false, ◌&&◌, ◌⊎◌, List, Ok, Err, Result}
use Rattle.keys.specs.declared.refusal.Refusal.{Refusal}
use Rattle.keys.specs.declared.refusal.Refusal.TheVariants.{OutOfRange, NoSuchLine}
use Rattle.keys.specs.declared.route.Route.{Route}
use Rattle.keys.specs.Ranges.{is_signal}
use Rattle.requests.specs.declared.request.Request.{Request}
use Rattle.requests.specs.declared.request.Request.TheVariants.{Enter, Withdraw, LookUp, Count}
use Rattle.rules.specs.Calls as rules
use Rattle.words.specs.declared.routes.RouteWords.{RouteWords}
use Rattle.lines.specs.declared.call.Call.{Call}
use Rattle.lines.specs.declared.call.Call.TheVariants.{Submit, Follow, Carry, Collect}
use Rattle.lines.specs.Grammar.{Form, Short, ShortForm, line_text}
use Rattle.lines.specs.Readings.{call_of, line_call}

-- the line is the text of that form, its numerals of at most five digits
pub record Written (line : List ℕ) (form : Form) : Type 0 where
  pub short : ShortForm form
  pub text : line ≡ line_text form

-- whether both numbers of a route are signals
abbrev pub route_in_range : RouteWords → Bool
route_in_range w = is_signal w.entry && is_signal w.exit

abbrev pub request_in_range : Request RouteWords → Bool
request_in_range (Enter w) = route_in_range w
request_in_range (Withdraw w) = route_in_range w
request_in_range (LookUp w) = route_in_range w
request_in_range (Count lo hi) = route_in_range lo && route_in_range hi

-- the form is a submit, and a number of its route or routes is no signal
abbrev pub IsOutOfRange : Form → Type 0
IsOutOfRange (Submit station request) = request_in_range request ≡ false
IsOutOfRange (Follow station request) = ⊥
IsOutOfRange (Carry station) = ⊥
IsOutOfRange (Collect station) = ⊥

-- the line is the text of a form that is out of range
pub record Outside (line : List ℕ) : Type 0 where
  pub form : Form
  pub written : Written line form
  pub outside : IsOutOfRange form

-- a route, a request and a call as a line has them
abbrev pub route_plain : Route → RouteWords
route_plain r = record { entry = r.entry; exit = r.exit; class = r.class }

abbrev pub request_plain : Request Route → Request RouteWords
request_plain (Enter r) = Enter (route_plain r)
request_plain (Withdraw r) = Withdraw (route_plain r)
request_plain (LookUp r) = LookUp (route_plain r)
request_plain (Count lo hi) = Count (route_plain lo) (route_plain hi)

abbrev pub call_plain : Call Route → Form
call_plain (Submit station request) = Submit station (request_plain request)
call_plain (Follow station request) = Follow station request
call_plain (Carry station) = Carry station
call_plain (Collect station) = Collect station

-- a call read is the call whose text the line is; out of range, the line is the text of a form with a number that is no signal; else it is the text of no form
abbrev pub Reads : List ℕ → Result (Call Route) Refusal → Type 0
Reads line (Ok call) = Written line (call_plain call)
Reads line (Err refusal) =
    ((refusal ≡ OutOfRange) × Outside line) ⊎ ((refusal ≡ NoSuchLine) × ((form : Form) → Written line form → ⊥))

-- the numbers of a call have at most five digits; those of its routes do anyway
abbrev pub ShortCall : rules.Call Route → Type 0
ShortCall (rules.submit station request) = Short station
ShortCall (rules.follow station request) = Short station × Short request
ShortCall (rules.carry station) = Short station
ShortCall (rules.collect station) = Short station

-- a text that is read as that call
pub record HasLine (call : rules.Call Route) : Type 0 where
  pub read : Call Route
  pub same : call_of read ≡ call
  pub line : line_call (line_text (call_plain read)) ≡ Ok read

-- every call of the rules with such numbers has a line that means it
abbrev pub EveryCallHasALine : Type 0
EveryCallHasALine = (call : rules.Call Route) → ShortCall call → HasLine call

-- no line is the text of two forms
abbrev pub OneForm : Type 0
OneForm = (line : List ℕ) (a b : Form) → Written line a → Written line b → a ≡ b
