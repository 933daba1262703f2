-- The weights joined are the numbers of routes. Assumes nothing.
use Rattle.std.proofs.Common.{◌≡◌, ◌+◌, ◌%◌, ◌^◌, List, [], ◌∷◌, Ok, Err, Result, sym, refl, ap, ◌∙◌, subst}
use native.Mathlib.Nat.{add-mod-mod}
use Rattle.keys.specs.declared.class.Class.{Class}
use Rattle.keys.specs.declared.class.Class.TheVariants.{M, W, C, S}
use Rattle.keys.specs.declared.refusal.Refusal.{Refusal}
use Rattle.keys.specs.declared.route.Route.{Route}
use Rattle.tallies.specs.declared.classes.Classes.{Classes}
use Rattle.tallies.specs.declared.number.Number.{Number}
use Rattle.tallies.specs.declared.pair.Pair.{Pair}
use Rattle.tallies.specs.ClassCounts.{classes_joined, class_weight, count_in}
use Rattle.route_count.specs.Totals.{routes_weight, routes_in, one_in, class_in, Counts}

count-joined : (a b : Classes) (class : Class) → count_in (classes_joined a b) class ≡ (count_in a class + count_in b class) % 2 ^ 16
count-joined a b M = refl
count-joined a b W = refl
count-joined a b C = refl
count-joined a b S = refl

count_one : (class other : Class) → count_in (class_weight other) class ≡ one_in class other
count_one M M = refl
count_one M W = refl
count_one M C = refl
count_one M S = refl
count_one W M = refl
count_one W W = refl
count_one W C = refl
count_one W S = refl
count_one C M = refl
count_one C W = refl
count_one C C = refl
count_one C S = refl
count_one S M = refl
count_one S W = refl
count_one S C = refl
count_one S S = refl

count_none : (class : Class) → count_in (routes_weight []).second class ≡ 0
count_none M = refl
count_none W = refl
count_none C = refl
count_none S = refl

routes-counted : (readings : List (Result Route Refusal)) → (routes_weight readings).first.value ≡ routes_in readings % 2 ^ 32
routes-counted [] = refl
routes-counted (Ok route ∷ readings) =
    ap (λ n. (1 + n) % 2 ^ 32) (routes-counted readings) ∙ add-mod-mod 1 (routes_in readings) (2 ^ 32)
routes-counted (Err refusal ∷ readings) = routes-counted readings

class-counted : (class : Class) (readings : List (Result Route Refusal)) → count_in (routes_weight readings).second class ≡ class_in class readings % 2 ^ 16
class-counted class [] = count_none class
class-counted class (Ok route ∷ readings) =
    let rest = (routes_weight readings).second in
    let joined = count-joined (class_weight route.class) rest class in
    let one = ap (λ n. (n + count_in rest class) % 2 ^ 16) (count_one class route.class) in
    let more = ap (λ n. (one_in class route.class + n) % 2 ^ 16) (class-counted class readings) in
    joined ∙ (one ∙ (more ∙ add-mod-mod (one_in class route.class) (class_in class readings) (2 ^ 16)))
class-counted class (Err refusal ∷ readings) = class-counted class readings

-- a tally that is the joined weights counts the routes
pub counts : (readings : List (Result Route Refusal)) (tally : Pair Number Classes) → tally ≡ routes_weight readings → Counts readings tally
counts readings tally e =
    subst (Counts readings) (sym e) (record { routes = routes-counted readings; classes = λ class. class-counted class readings })
