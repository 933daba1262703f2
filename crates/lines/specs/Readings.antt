-- The call that a line is, or its refusal.
use Rattle.std.specs.Prelude.{ℕ, cond, List, length, Some, None, Ok, Err, Option, Result, nat_le}
use Rattle.std.specs.Result.{result_map_both}
use Rattle.octets.specs.Cuts.{pieces}
use Rattle.keys.specs.declared.refusal.Refusal.{Refusal}
use Rattle.keys.specs.declared.refusal.Refusal.TheVariants.{NoSuchLine}
use Rattle.keys.specs.declared.route.Route.{Route}
use Rattle.keys.specs.Routes.{route_of}
use Rattle.requests.specs.declared.request.Request.{Request}
use Rattle.requests.specs.declared.request.Request.TheVariants.{Enter, Withdraw, LookUp, Count}
use Rattle.rules.specs.Calls as rules
use Rattle.words.specs.declared.routes.RouteWords.{RouteWords}
use Rattle.lines.specs.declared.call.Call.{Call}
use Rattle.lines.specs.declared.call.Call.TheVariants.{Submit, Follow, Carry, Collect}
use Rattle.lines.specs.Grammar.{Form}
use Rattle.lines.specs.Forms.{row_form}

-- the call of the rules that a call read from a line is
abbrev pub call_of : {K : Type 0} → Call K → rules.Call K
call_of (Submit station request) = rules.submit station request
call_of (Follow station request) = rules.follow station request
call_of (Carry station) = rules.carry station
call_of (Collect station) = rules.collect station

-- the route of these fields, or that one of them is out of range
abbrev pub route_checked : RouteWords → Result Route Refusal
route_checked w = route_of w.entry w.exit w.class

-- what was checked, put together; a refusal is handed on
abbrev pub with_checked : {X Y : Type 0} → (X → Y) → Result X Refusal → Result Y Refusal
with_checked f r = result_map_both f (λ refusal. refusal) r

abbrev pub both_checked : Result Route Refusal → Result Route Refusal → Result (Request Route) Refusal
both_checked (Err refusal) hi = Err refusal
both_checked (Ok lo) (Err refusal) = Err refusal
both_checked (Ok lo) (Ok hi) = Ok (Count lo hi)

abbrev pub request_checked : Request RouteWords → Result (Request Route) Refusal
request_checked (Enter w) = with_checked Enter (route_checked w)
request_checked (Withdraw w) = with_checked Withdraw (route_checked w)
request_checked (LookUp w) = with_checked LookUp (route_checked w)
request_checked (Count lo hi) = both_checked (route_checked lo) (route_checked hi)

-- the call of a form whose signals are all in range
abbrev pub form_checked : Form → Result (Call Route) Refusal
form_checked (Submit station request) = with_checked (λ r. Submit station r) (request_checked request)
form_checked (Follow station request) = Ok (Follow station request)
form_checked (Carry station) = Ok (Carry station)
form_checked (Collect station) = Ok (Collect station)

-- words that are no form are no line
abbrev pub form_call : Option Form → Result (Call Route) Refusal
form_call None = Err NoSuchLine
form_call (Some form) = form_checked form

-- a line has at most so many bytes
abbrev pub longest_line : ℕ
longest_line = 64

-- the call that a line is: its words stand between single spaces (32 in ASCII)
abbrev pub line_call : List ℕ → Result (Call Route) Refusal
line_call line = cond (nat_le (length line) longest_line) (form_call (row_form (pieces 32 line))) (Err NoSuchLine)
