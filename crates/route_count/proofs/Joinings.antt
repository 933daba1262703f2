-- The order in which routes are counted does not matter. Rests on the laws of the two tallies.
use Rattle.std.proofs.Common.{◌≡◌, ℕ, ◌^◌, List, [], ◌∷◌, map, Ok, Err, Result, sym, refl, ap, ◌∙◌}
use Rattle.keys.specs.declared.refusal.Refusal.{Refusal}
use Rattle.keys.specs.declared.route.Route.{Route}
use Rattle.tallies.specs.declared.classes.Classes.{Classes}
use Rattle.tallies.specs.declared.number.Number.{Number}
use Rattle.tallies.specs.declared.pair.Pair.{Pair}
use Rattle.tallies.specs.Modular.{mod_associative, mod_commutative, mod_neutral}
use Rattle.tallies.specs.ClassCountsLemmas.{classes_path}
use Rattle.tallies.specs.NumbersLemmas.{number_path}
use Rattle.words.specs.Lines.{line_route}
use Rattle.route_count.specs.Rows.{lines, readings}
use Rattle.route_count.specs.Totals.{no_route, route_weight, both_joined, with_reading, routes_weight}

pair_path : (a b : Pair Number Classes) → a.first ≡ b.first → a.second ≡ b.second → a ≡ b
pair_path a b p q = λ i. record { first = p i; second = q i }

both-associative : (a b c : Pair Number Classes) → both_joined (both_joined a b) c ≡ both_joined a (both_joined b c)
both-associative a b c =
    pair_path _ _ (number_path _ _ (mod_associative (2 ^ 32) a.first.value b.first.value c.first.value))
    (classes_path _ _
    (mod_associative (2 ^ 16) a.second.m b.second.m c.second.m)
    (mod_associative (2 ^ 16) a.second.w b.second.w c.second.w)
    (mod_associative (2 ^ 16) a.second.c b.second.c c.second.c)
    (mod_associative (2 ^ 16) a.second.s b.second.s c.second.s))

both-commutative : (a b : Pair Number Classes) → both_joined a b ≡ both_joined b a
both-commutative a b =
    pair_path _ _ (number_path _ _ (mod_commutative (2 ^ 32) a.first.value b.first.value))
    (classes_path _ _
    (mod_commutative (2 ^ 16) a.second.m b.second.m)
    (mod_commutative (2 ^ 16) a.second.w b.second.w)
    (mod_commutative (2 ^ 16) a.second.c b.second.c)
    (mod_commutative (2 ^ 16) a.second.s b.second.s))

-- nothing counted yet
pub joined-none : (a : Pair Number Classes) → both_joined no_route a ≡ a
joined-none a =
    pair_path _ a (number_path _ a.first (mod_neutral (2 ^ 32) a.first.value a.first.fits))
    (classes_path _ a.second
    (mod_neutral (2 ^ 16) a.second.m a.second.front.0)
    (mod_neutral (2 ^ 16) a.second.w a.second.front.1)
    (mod_neutral (2 ^ 16) a.second.c a.second.back.0)
    (mod_neutral (2 ^ 16) a.second.s a.second.back.1))

-- nothing left to count
joined_all : (a : Pair Number Classes) → both_joined a no_route ≡ a
joined_all a = both-commutative a no_route ∙ joined-none a

-- one line more is counted, one less is left
joined_more : (reading : Result Route Refusal) (a b : Pair Number Classes) → both_joined (with_reading reading a) b ≡ both_joined a (with_reading reading b)
joined_more (Ok route) a b =
    ap (λ t. both_joined t b) (both-commutative (route_weight route) a) ∙ both-associative a (route_weight route) b
joined_more (Err refusal) a b = refl

-- the same for a text of which the first line is counted
pub count_more : (left line rest : List ℕ) (total : Pair Number Classes) → lines left ≡ line ∷ lines rest → both_joined (with_reading (line_route line) total) (routes_weight (readings rest)) ≡ both_joined total (routes_weight (readings left))
count_more left line rest total e =
    joined_more (line_route line) total (routes_weight (readings rest)) ∙ ap (λ ls. both_joined total (routes_weight (map line_route ls))) (sym e)

-- the same for a text without a line
pub count_all : (left : List ℕ) (total : Pair Number Classes) → lines left ≡ [] → both_joined total (routes_weight (readings left)) ≡ total
count_all left total e = ap (λ ls. both_joined total (routes_weight (map line_route ls))) e ∙ joined_all total
