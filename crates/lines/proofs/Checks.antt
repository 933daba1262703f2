-- The check of a form's signals: what passes is the call whose form it is, and what does not is out of range. Assumes nothing.
use Rattle.std.proofs.Common.{◌≡◌, ℕ, Bool, true, false, ◌&&◌, Ok, Err, Result, sym, refl, ap, ◌∙◌, arith}
use Rattle.keys.specs.declared.refusal.Refusal.{Refusal}
use Rattle.keys.specs.declared.refusal.Refusal.TheVariants.{OutOfRange}
use Rattle.keys.specs.declared.route.Route.{Route}
use Rattle.keys.specs.Ranges.{is_signal, nearest_signal}
use Rattle.keys.specs.RoutesLemmas.{route_of_fields}
use Rattle.requests.specs.declared.request.Request.{Request}
use Rattle.requests.specs.declared.request.Request.TheVariants.{Enter, Withdraw, LookUp, Count}
use Rattle.words.specs.declared.routes.RouteWords.{RouteWords}
use Rattle.lines.specs.declared.call.Call.{Call}
use Rattle.lines.specs.declared.call.Call.TheVariants.{Submit, Follow, Carry, Collect}
use Rattle.lines.specs.Grammar.{Form}
use Rattle.lines.specs.Meaning.{route_in_range, request_in_range, IsOutOfRange, route_plain, request_plain, call_plain}
use Rattle.lines.specs.Readings.{route_checked, with_checked, both_checked, request_checked, form_checked}

signal_kept : (n : ℕ) → is_signal n ≡ true → nearest_signal n ≡ n
signal_kept n h = grind arith

-- what a check says of what was checked: the plain form of what it gives, or that it is outside
abbrev pub Checked : {X Y : Type 0} → (Y → X) → (X → Type 0) → X → Result Y Refusal → Type 0
Checked plain Out x (Ok y) = plain y ≡ x
Checked plain Out x (Err e) = (e ≡ OutOfRange) × Out x

abbrev RouteOut : RouteWords → Type 0
RouteOut w = route_in_range w ≡ false

abbrev RequestOut : Request RouteWords → Type 0
RequestOut r = request_in_range r ≡ false

route-says : (w : RouteWords) → Checked route_plain RouteOut w (route_checked w)
route-says w = go (is_signal w.entry) (is_signal w.exit) refl refl
  where
    go : (a b : Bool) → is_signal w.entry ≡ a → is_signal w.exit ≡ b → Checked route_plain RouteOut w (route_checked w)
    go true true p q =
        let s = signal_kept w.entry p in
        let t = signal_kept w.exit q in
        rw (p, q, s, t)
    go true false p q = rw (p, q) (refl, rw (p, q))
    go false b p q = rw p (refl, rw p)

-- the same under a constructor
under : {X Y Z W : Type 0} (plain : Y → X) (Out : X → Type 0) (more : W → Z) (Out' : Z → Type 0) (f : Y → W) (g : X → Z) (x : X) → ((y : Y) → more (f y) ≡ g (plain y)) → (Out x → Out' (g x)) → (r : Result Y Refusal) → Checked plain Out x r → Checked more Out' (g x) (with_checked f r)
under plain Out more Out' f g x made out (Ok y) h = made y ∙ ap g h
under plain Out more Out' f g x made out (Err e) h = (h.0, out h.1)

either_out : (a b : Bool) → b ≡ false → (a && b) ≡ false
either_out true b h = h
either_out false b h = refl

ends_say : (lo hi : RouteWords) (p q : Result Route Refusal) → Checked route_plain RouteOut lo p → Checked route_plain RouteOut hi q → Checked request_plain RequestOut (Count lo hi) (both_checked p q)
ends_say lo hi (Err e) q g h = let o = g.1 in (g.0, rw o)
ends_say lo hi (Ok a) (Err e) g h = (h.0, either_out (route_in_range lo) (route_in_range hi) h.1)
ends_say lo hi (Ok a) (Ok b) g h = rw (g, h)

request_says : (r : Request RouteWords) → Checked request_plain RequestOut r (request_checked r)
request_says (Enter w) = under route_plain RouteOut request_plain RequestOut Enter Enter w (λ y. refl) (λ o. o) (route_checked w) (route-says w)
request_says (Withdraw w) = under route_plain RouteOut request_plain RequestOut Withdraw Withdraw w (λ y. refl) (λ o. o) (route_checked w) (route-says w)
request_says (LookUp w) = under route_plain RouteOut request_plain RequestOut LookUp LookUp w (λ y. refl) (λ o. o) (route_checked w) (route-says w)
request_says (Count lo hi) = ends_say lo hi (route_checked lo) (route_checked hi) (route-says lo) (route-says hi)

pub form-says : (f : Form) → Checked call_plain IsOutOfRange f (form_checked f)
form-says (Submit n r) =
    under request_plain RequestOut call_plain IsOutOfRange (λ q. Submit n q) (λ q. Submit n q) r (λ y. refl) (λ o. o) (request_checked r) (request_says r)
form-says (Follow n t) = refl
form-says (Carry n) = refl
form-says (Collect n) = refl

route_back : (k : Route) → route_checked (route_plain k) ≡ Ok k
route_back k = sym (route_of_fields k)

request_back : (r : Request Route) → request_checked (request_plain r) ≡ Ok r
request_back (Enter k) = ap (with_checked Enter) (route_back k)
request_back (Withdraw k) = ap (with_checked Withdraw) (route_back k)
request_back (LookUp k) = ap (with_checked LookUp) (route_back k)
request_back (Count lo hi) =
    ap (λ p. both_checked p (route_checked (route_plain hi))) (route_back lo) ∙ ap (both_checked (Ok lo)) (route_back hi)

-- the form of a call passes as that call
pub call_back : (c : Call Route) → form_checked (call_plain c) ≡ Ok c
call_back (Submit n r) = ap (with_checked (λ q. Submit n q)) (request_back r)
call_back (Follow n t) = refl
call_back (Carry n) = refl
call_back (Collect n) = refl
