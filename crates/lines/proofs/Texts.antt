-- The text of a form is cut into the words of the form, and is short. Rests on Names and on the pieces of a text.
use Rattle.std.proofs.Common.{◌≡◌, ℕ, ◌≤◌, true, List, [], ◌∷◌, ◌++◌, length, decimal, refl, ap, ◌∙◌, arith, length-append}
use Rattle.std.proofs.lemmas.Fmt.{length-decimal-le}
use Rattle.octets.specs.Cuts.{pieces}
use Rattle.octets.proofs.Joins.{joined_by, lacks, joined-pieces, pieces_alone, pieces-before}
use Rattle.requests.specs.declared.request.Request.{Request}
use Rattle.requests.specs.declared.request.Request.TheVariants.{Enter, Withdraw, LookUp, Count}
use Rattle.requests.specs.Requests.{kind_of}
use Rattle.words.specs.declared.routes.RouteWords.{RouteWords}
use Rattle.words.proofs.Texts.{decimal_lacks, letter_lacks}
use Rattle.lines.specs.declared.call.Call.TheVariants.{Submit, Follow, Carry, Collect}
use Rattle.lines.specs.declared.vocabulary.Verb.TheVariants as verb
use Rattle.lines.specs.Grammar.{Form, route_row, keys_row, line_row, spaced, line_text, Short, ShortRoute, ShortRequest, ShortForm}
use Rattle.lines.proofs.Names.{verb_lacks, kind_lacks}

-- no word has a space
abbrev AllLack : List (List ℕ) → Type 0
AllLack [] = Unit {0}
AllLack (w ∷ ws) = (lacks 32 w ≡ true) × AllLack ws

pieces-spaced : (w : List ℕ) (ws : List (List ℕ)) → AllLack (w ∷ ws) → pieces 32 (spaced (w ∷ ws)) ≡ w ∷ ws
pieces-spaced w [] h = pieces_alone 32 w h.0
pieces-spaced w (v ∷ vs) h = pieces-before 32 w _ h.0 ∙ ap (λ ps. w ∷ ps) (pieces-spaced v vs h.1)

spaced-joined : (ws : List (List ℕ)) → spaced ws ≡ joined_by 32 ws
spaced-joined [] = refl
spaced-joined (w ∷ []) = refl
spaced-joined (w ∷ v ∷ vs) = ap (λ t. w ++ (32 ∷ t)) (spaced-joined (v ∷ vs))

-- a text is its words, spaced
pub spaced-pieces : (line : List ℕ) → spaced (pieces 32 line) ≡ line
spaced-pieces line = spaced-joined (pieces 32 line) ∙ joined-pieces 32 line

route_lack : (w : RouteWords) → ShortRoute w → AllLack (route_row w)
route_lack w s = (decimal_lacks w.entry s.0, (decimal_lacks w.exit s.1, (letter_lacks w.class, tt)))

both_lack : (vs ws : List (List ℕ)) → AllLack vs → AllLack ws → AllLack (vs ++ ws)
both_lack [] ws p q = q
both_lack (v ∷ vs) ws p q = (p.0, both_lack vs ws p.1 q)

keys_lack : (r : Request RouteWords) → ShortRequest r → AllLack (keys_row r)
keys_lack (Enter w) s = route_lack w s
keys_lack (Withdraw w) s = route_lack w s
keys_lack (LookUp w) s = route_lack w s
keys_lack (Count lo hi) s = both_lack (route_row lo) (route_row hi) (route_lack lo s.0) (route_lack hi s.1)

-- the text of a form is cut into its words
pub text-pieces : (f : Form) → ShortForm f → pieces 32 (line_text f) ≡ line_row f
text-pieces (Submit n r) s =
    pieces-spaced _ _ (verb_lacks verb.Submit, (decimal_lacks n s.0, (kind_lacks (kind_of r), keys_lack r s.1)))
text-pieces (Follow n t) s = pieces-spaced _ _ (verb_lacks verb.Follow, (decimal_lacks n s.0, (decimal_lacks t s.1, tt)))
text-pieces (Carry n) s = pieces-spaced _ _ (verb_lacks verb.Carry, (decimal_lacks n s, tt))
text-pieces (Collect n) s = pieces-spaced _ _ (verb_lacks verb.Collect, (decimal_lacks n s, tt))

five : (n : ℕ) → Short n → length (decimal n) ≤ 5
five n h = length-decimal-le 5 n (omega arith) (omega arith) (omega arith)

-- no text is longer than 46 bytes
pub text-short : (f : Form) → ShortForm f → length (line_text f) ≤ 46
text-short (Submit n (Enter w)) s =
    let a = five n s.0 in
    let b = five w.entry s.1.0 in
    let c = five w.exit s.1.1 in
    simp length-append (omega arith)
text-short (Submit n (Withdraw w)) s =
    let a = five n s.0 in
    let b = five w.entry s.1.0 in
    let c = five w.exit s.1.1 in
    simp length-append (omega arith)
text-short (Submit n (LookUp w)) s =
    let a = five n s.0 in
    let b = five w.entry s.1.0 in
    let c = five w.exit s.1.1 in
    simp length-append (omega arith)
text-short (Submit n (Count lo hi)) s =
    let a = five n s.0 in
    let b = five lo.entry s.1.0.0 in
    let c = five lo.exit s.1.0.1 in
    let d = five hi.entry s.1.1.0 in
    let e = five hi.exit s.1.1.1 in
    simp length-append (omega arith)
text-short (Follow n t) s = let a = five n s.0 in let b = five t s.1 in simp length-append (omega arith)
text-short (Carry n) s = let a = five n s in simp length-append (omega arith)
text-short (Collect n) s = let a = five n s in simp length-append (omega arith)
