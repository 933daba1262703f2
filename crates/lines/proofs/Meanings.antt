-- What is read of a line is what it means; every call has a line, and no line two forms. Rests on Rows, Texts and Checks.
use Rattle.std.proofs.Common.{◌≡◌, ℕ, ◌≤◌, Bool, true, false, leb, List, length, Some, None, Ok, Err, Option, Result, sym, refl, ap, ◌∙◌, subst, inl, inr, arith}
use Rattle.octets.specs.Cuts.{pieces}
use Rattle.keys.specs.declared.refusal.Refusal.{Refusal}
use Rattle.keys.specs.declared.route.Route.{Route}
use Rattle.requests.specs.declared.request.Request.{Request}
use Rattle.requests.specs.declared.request.Request.TheVariants.{Enter, Withdraw, LookUp, Count}
use Rattle.rules.specs.Calls as rules
use Rattle.lines.specs.declared.call.Call.{Call}
use Rattle.lines.specs.declared.call.Call.TheVariants.{Submit, Follow, Carry, Collect}
use Rattle.lines.specs.Forms.{row_form}
use Rattle.lines.specs.Grammar.{Form, ShortRoute, ShortRequest, ShortForm, spaced, line_text}
use Rattle.lines.specs.Meaning.{Written, Reads, IsOutOfRange, route_plain, request_plain, call_plain, EveryCallHasALine, OneForm}
use Rattle.lines.specs.Readings.{form_checked, form_call, line_call}
use Rattle.lines.proofs.Checks.{Checked, form-says, call_back}
use Rattle.lines.proofs.Rows.{form_are, form_back}
use Rattle.lines.proofs.Texts.{spaced-pieces, text-pieces, text-short}

-- a line whose words are a form is its text
form-written : (line : List ℕ) (f : Form) → row_form (pieces 32 line) ≡ Some f → Written line f
form-written line f e =
    let a = form_are (pieces 32 line) f e in
    record { short = a.short; text = sym (spaced-pieces line) ∙ ap spaced a.same }

-- the text of a form has the words that are the form
written-form : (line : List ℕ) (f : Form) → Written line f → row_form (pieces 32 line) ≡ Some f
written-form line f w =
    ap (λ t. row_form (pieces 32 t)) w.text ∙ ap row_form (text-pieces f w.short) ∙ form_back f w.short

written-short : (line : List ℕ) (f : Form) → Written line f → length line ≤ 64
written-short line f w = let s = text-short f w.short in let e = ap length w.text in omega arith

reads-checked : (line : List ℕ) (f : Form) → Written line f → (r : Result (Call Route) Refusal) → Checked call_plain IsOutOfRange f r → Reads line r
reads-checked line f w (Ok c) h = subst (Written line) (sym h) w
reads-checked line f w (Err e) h = inl (h.0, record { form = f; written = w; outside = h.1 })

pub reads-line : (line : List ℕ) → Reads line (line_call line)
reads-line line = go (leb (length line) 64) (row_form (pieces 32 line)) refl refl
  where
    go : (b : Bool) (o : Option Form) → leb (length line) 64 ≡ b → row_form (pieces 32 line) ≡ o → Reads line (line_call line)
    go false o p q = rw p (inr (refl, λ f w. let s = written-short line f w in grind arith))
    go true None p q =
        rw (p, q) (inr (refl, λ f w. let e = written-form line f w in absurd cc))
    go true (Some f) p q = rw (p, q) (reads-checked line f (form-written line f q) (form_checked f) (form-says f))

-- what an answer means that is known to be what the line is
pub reads-answer : (line : List ℕ) (r : Result (Call Route) Refusal) → r ≡ line_call line → Reads line r
reads-answer line r e = subst (Reads line) (sym e) (reads-line line)

call_line : (c : Call Route) → ShortForm (call_plain c) → line_call (line_text (call_plain c)) ≡ Ok c
call_line c s =
    let f = call_plain c in
    let w : Written (line_text f) f = record { short = s; text = refl } in
    let long = written-short (line_text f) f w in
    let e : leb (length (line_text f)) 64 ≡ true = grind arith in
    rw e (ap form_call (written-form (line_text f) f w) ∙ call_back c)

-- signals are short
route-short : (k : Route) → ShortRoute (route_plain k)
route-short k = let s = k.starts in let e = k.ends in (omega arith, omega arith)

request_short : (r : Request Route) → ShortRequest (request_plain r)
request_short (Enter k) = route-short k
request_short (Withdraw k) = route-short k
request_short (LookUp k) = route-short k
request_short (Count lo hi) = (route-short lo, route-short hi)

pub every_call_has_a_line : EveryCallHasALine
every_call_has_a_line (rules.submit n r) s =
    record { read = Submit n r; same = refl; line = call_line (Submit n r) (s, request_short r) }
every_call_has_a_line (rules.follow n t) s = record { read = Follow n t; same = refl; line = call_line (Follow n t) s }
every_call_has_a_line (rules.carry n) s = record { read = Carry n; same = refl; line = call_line (Carry n) s }
every_call_has_a_line (rules.collect n) s = record { read = Collect n; same = refl; line = call_line (Collect n) s }

pub one_form : OneForm
one_form line a b p q = let e = written-form line a p in let g = written-form line b q in cc
