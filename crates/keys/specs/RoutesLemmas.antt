-- When two routes are equal, and the laws of their order. Rests on Orders.
use Rattle.std.specs.Prelude.{◌≡◌, true, Ok, refl}
use Rattle.std.proofs.Common.{ap, arith}
use mathlib.Core.HLevel.{is_prop→PathP, ×_prop}
use Rattle.std.proofs.Math.Bridge.{le_prop}
use Rattle.keys.specs.declared.class.Class.{Class}
use Rattle.keys.specs.declared.class.Class.TheVariants.{M, W, C, S}
use Rattle.keys.specs.declared.route.Route.{Route}
use Rattle.keys.specs.Classes.{class_number}
use Rattle.keys.specs.Ranges.{Signal, is_signal}
use Rattle.keys.specs.Routes.{route_of}

-- routes with equal fields are equal
pub route_path : (a b : Route) → a.entry ≡ b.entry → a.exit ≡ b.exit → a.class ≡ b.class → a ≡ b
route_path a b p q r = λ i. record {
  entry = p i;
  exit = q i;
  class = r i;
  starts = is_prop→PathP (λ j. Signal (p j)) (λ j. ×_prop le_prop le_prop) a.starts b.starts i;
  ends = is_prop→PathP (λ j. Signal (q j)) (λ j. ×_prop le_prop le_prop) a.ends b.ends i;
}

-- classes with one number are one class
pub class_same : (a b : Class) → class_number a ≡ class_number b → a ≡ b
class_same M M e = refl
class_same M W e = absurd (omega arith)
class_same M C e = absurd (omega arith)
class_same M S e = absurd (omega arith)
class_same W M e = absurd (omega arith)
class_same W W e = refl
class_same W C e = absurd (omega arith)
class_same W S e = absurd (omega arith)
class_same C M e = absurd (omega arith)
class_same C W e = absurd (omega arith)
class_same C C e = refl
class_same C S e = absurd (omega arith)
class_same S M e = absurd (omega arith)
class_same S W e = absurd (omega arith)
class_same S C e = absurd (omega arith)
class_same S S e = refl

-- a route has just the fields that make it
pub route_of_fields : (k : Route) → Ok k ≡ route_of k.entry k.exit k.class
route_of_fields k =
    let s : is_signal k.entry ≡ true = grind arith in
    let t : is_signal k.exit ≡ true = grind arith in
    rw (s, t) (ap Ok (route_path k _ (omega arith) (omega arith) refl))
