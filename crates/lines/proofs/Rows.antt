-- Words that are read as a form are the words of that form, and the other way round. Rests on Names.
use Rattle.std.proofs.Common.{◌≡◌, ℕ, List, [], ◌∷◌, ◌++◌, Some, None, decimal, Option, refl, ap, ◌∙◌}
use Rattle.std.specs.Option.{option_map}
use Rattle.requests.specs.declared.kind.Kind.{Kind}
use Rattle.requests.specs.declared.kind.Kind.TheVariants as kind
use Rattle.requests.specs.declared.request.Request.{Request}
use Rattle.requests.specs.declared.request.Request.TheVariants.{Enter, Withdraw, LookUp, Count}
use Rattle.requests.specs.Requests.{kind_of}
use Rattle.words.specs.declared.routes.RouteWords.{RouteWords}
use Rattle.words.specs.Figures.{number_in}
use Rattle.words.specs.Letters.{letter_in}
use Rattle.words.specs.Lines.{route_words, row_words}
use Rattle.words.proofs.Rows.{all_three_parts}
use Rattle.words.proofs.Texts.{number_text, number_short, number_back, letter_text, letter_back}
use Rattle.lines.specs.declared.call.Call.TheVariants.{Submit, Follow, Carry, Collect}
use Rattle.lines.specs.declared.vocabulary.Verb.{Verb}
use Rattle.lines.specs.declared.vocabulary.Verb.TheVariants as verb
use Rattle.lines.specs.Forms.{at_end, last_number, both_ends, count_in, request_in, asked_in, call_in, row_form}
use Rattle.lines.specs.Grammar.{Form, route_row, keys_row, line_row, Short, ShortRoute, ShortRequest, ShortForm}
use Rattle.lines.specs.Vocabulary.{verb_word, kind_word, verb_in, kind_in}
use Rattle.lines.proofs.Names.{verb_named, kind_named, kind_back}

-- the words are those, and the numbers short
pub record Are (row words : List (List ℕ)) (Small : Type 0) : Type 0 where
  pub same : row ≡ words
  pub short : Small

-- what a value under a constructor came from
record From {X Y : Type 0} (f : X → Y) (o : Option X) (y : Y) : Type 0 where
  value : X
  some : o ≡ Some value
  made : f value ≡ y

mapped_from : {X Y : Type 0} (f : X → Y) (o : Option X) (y : Y) → option_map f o ≡ Some y → From f o y
mapped_from f None y e = absurd cc
mapped_from f (Some x) y e = record { value = x; some = refl; made = cc }

route_words_are : (a b c : List ℕ) (w : RouteWords) → route_words a b c ≡ Some w → Are (a ∷ b ∷ c ∷ []) (route_row w) (ShortRoute w)
route_words_are a b c w h =
    let parts = all_three_parts (number_in a) (number_in b) (letter_in c) w h in
    let p = number_text a w.entry parts.entry in
    let q = number_text b w.exit parts.exit in
    let r = letter_text c w.class parts.class in
    record { same = rw (p, q, r); short = (number_short a w.entry parts.entry, number_short b w.exit parts.exit) }

route_are : (row : List (List ℕ)) (w : RouteWords) → row_words row ≡ Some w → Are row (route_row w) (ShortRoute w)
route_are [] w h = absurd cc
route_are (a ∷ []) w h = absurd cc
route_are (a ∷ b ∷ []) w h = absurd cc
route_are (a ∷ b ∷ c ∷ []) w h = route_words_are a b c w h
route_are (a ∷ b ∷ c ∷ d ∷ ds) w h = absurd cc

-- both ends of a count
record Ends (p q : Option RouteWords) (r : Request RouteWords) : Type 0 where
  lo : RouteWords
  hi : RouteWords
  low : p ≡ Some lo
  high : q ≡ Some hi
  made : Count lo hi ≡ r

ends_from : (p q : Option RouteWords) (r : Request RouteWords) → both_ends p q ≡ Some r → Ends p q r
ends_from None q r h = absurd cc
ends_from (Some lo) None r h = absurd cc
ends_from (Some lo) (Some hi) r h = record { lo = lo; hi = hi; low = refl; high = refl; made = cc }

-- the words of the keys of a request, which is of that kind
record Asks (row : List (List ℕ)) (k : Kind) (r : Request RouteWords) : Type 0 where
  of_kind : kind_of r ≡ k
  same : row ≡ keys_row r
  short : ShortRequest r

count_asks : (row : List (List ℕ)) (r : Request RouteWords) → count_in row ≡ Some r → Asks row kind.Count r
count_asks [] r h = absurd cc
count_asks (a ∷ []) r h = absurd cc
count_asks (a ∷ b ∷ []) r h = absurd cc
count_asks (a ∷ b ∷ c ∷ row) r h =
    let e = ends_from (route_words a b c) (row_words row) r h in
    let p = route_words_are a b c e.lo e.low in
    let q = route_are row e.hi e.high in
    let low = ap (λ ws. ws ++ route_row e.hi) p.same in
    let high = ap (λ ws. a ∷ b ∷ c ∷ ws) q.same in
    rw (← e.made) (record { of_kind = refl; same = high ∙ low; short = (p.short, q.short) })

request_asks : (k : Kind) (row : List (List ℕ)) (r : Request RouteWords) → request_in k row ≡ Some r → Asks row k r
request_asks kind.Enter row r h =
    let m = mapped_from Enter (row_words row) r h in
    let p = route_are row m.value m.some in
    rw (← m.made) (record { of_kind = refl; same = p.same; short = p.short })
request_asks kind.Withdraw row r h =
    let m = mapped_from Withdraw (row_words row) r h in
    let p = route_are row m.value m.some in
    rw (← m.made) (record { of_kind = refl; same = p.same; short = p.short })
request_asks kind.LookUp row r h =
    let m = mapped_from LookUp (row_words row) r h in
    let p = route_are row m.value m.some in
    rw (← m.made) (record { of_kind = refl; same = p.same; short = p.short })
request_asks kind.Count row r h = count_asks row r h

asked_are : (row : List (List ℕ)) (r : Request RouteWords) → asked_in row ≡ Some r → Are row (kind_word (kind_of r) ∷ keys_row r) (ShortRequest r)
asked_are [] r h = absurd cc
asked_are (w ∷ row) r h = go (kind_in w) refl
  where
    go : (o : Option Kind) → kind_in w ≡ o → Are (w ∷ row) (kind_word (kind_of r) ∷ keys_row r) (ShortRequest r)
    go None e = let i : None ≡ Some r = rw e at h in absurd cc
    go (Some k) e =
        let i : request_in k row ≡ Some r = rw e at h in
        let p = request_asks k row r i in
        let q = kind_named w k e in
        record { same = rw (q, p.of_kind) (ap (λ ws. kind_word k ∷ ws) p.same); short = p.short }

number_are : (row : List (List ℕ)) (n : ℕ) → last_number row ≡ Some n → Are row (decimal n ∷ []) (Short n)
number_are [] n h = absurd cc
number_are (w ∷ []) n h = record { same = ap (λ v. v ∷ []) (number_text w n h); short = number_short w n h }
number_are (w ∷ v ∷ vs) n h = absurd cc

end_are : (row : List (List ℕ)) (f g : Form) → at_end row f ≡ Some g → (row ≡ []) × (f ≡ g)
end_are [] f g h = (refl, cc)
end_are (w ∷ ws) f g h = absurd cc

call_are : (v : Verb) (n : ℕ) (row : List (List ℕ)) (f : Form) → Short n → call_in v n row ≡ Some f → Are (verb_word v ∷ decimal n ∷ row) (line_row f) (ShortForm f)
call_are verb.Submit n row f s h =
    let m = mapped_from (λ request. Submit n request) (asked_in row) f h in
    let p = asked_are row m.value m.some in
    rw (← m.made) (record { same = ap (λ ws. verb_word verb.Submit ∷ decimal n ∷ ws) p.same; short = (s, p.short) })
call_are verb.Follow n row f s h =
    let m = mapped_from (λ request. Follow n request) (last_number row) f h in
    let p = number_are row m.value m.some in
    rw (← m.made) (record { same = ap (λ ws. verb_word verb.Follow ∷ decimal n ∷ ws) p.same; short = (s, p.short) })
call_are verb.Carry n row f s h =
    let p = end_are row (Carry n) f h in
    rw (← p.1) (record { same = ap (λ ws. verb_word verb.Carry ∷ decimal n ∷ ws) p.0; short = s })
call_are verb.Collect n row f s h =
    let p = end_are row (Collect n) f h in
    rw (← p.1) (record { same = ap (λ ws. verb_word verb.Collect ∷ decimal n ∷ ws) p.0; short = s })

-- the words that are read as a form are its words
pub form_are : (row : List (List ℕ)) (f : Form) → row_form row ≡ Some f → Are row (line_row f) (ShortForm f)
form_are [] f h = absurd cc
form_are (v ∷ []) f h = absurd cc
form_are (v ∷ n ∷ row) f h = go (verb_in v) (number_in n) refl refl
  where
    go : (o : Option Verb) (p : Option ℕ) → verb_in v ≡ o → number_in n ≡ p → Are (v ∷ n ∷ row) (line_row f) (ShortForm f)
    go None p d e = let i : None ≡ Some f = rw d at h in absurd cc
    go (Some a) None d e = let i : None ≡ Some f = rw (d, e) at h in absurd cc
    go (Some a) (Some b) d e =
        let i : call_in a b row ≡ Some f = rw (d, e) at h in
        let r = call_are a b row f (number_short n b e) i in
        let p = verb_named v a d in
        let q = number_text n b e in
        record { same = rw (p, q) r.same; short = r.short }

-- the words of a route, a request and a form are read as it
route_back : (w : RouteWords) → ShortRoute w → row_words (route_row w) ≡ Some w
route_back w s =
    let p = number_back w.entry s.0 in
    let q = number_back w.exit s.1 in
    let r = letter_back w.class in
    rw (p, q, r)

count_back : (lo hi : RouteWords) → ShortRoute lo → ShortRoute hi → count_in (route_row lo ++ route_row hi) ≡ Some (Count lo hi)
count_back lo hi s t = let p = route_back lo s in let q = route_back hi t in rw (p, q)

request_back : (r : Request RouteWords) → ShortRequest r → request_in (kind_of r) (keys_row r) ≡ Some r
request_back (Enter w) s = ap (option_map Enter) (route_back w s)
request_back (Withdraw w) s = ap (option_map Withdraw) (route_back w s)
request_back (LookUp w) s = ap (option_map LookUp) (route_back w s)
request_back (Count lo hi) s = count_back lo hi s.0 s.1

pub form_back : (f : Form) → ShortForm f → row_form (line_row f) ≡ Some f
form_back (Submit n r) s =
    let p = number_back n s.0 in
    let q = kind_back (kind_of r) in
    let t = request_back r s.1 in
    rw (p, q, t)
form_back (Follow n t) s = let p = number_back n s.0 in let q = number_back t s.1 in rw (p, q)
form_back (Carry n) s = let p = number_back n s in rw p
form_back (Collect n) s = let p = number_back n s in rw p
