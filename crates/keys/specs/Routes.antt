-- Routes: their order, their plain fields, and which fields make one.
use Rattle.std.specs.Prelude.{ℕ, Bool, cond, ◌&&◌, Ok, Err, Result, nat_le}
use Rattle.std.proofs.Common.{arith}
use Rattle.keys.specs.declared.class.Class.{Class}
use Rattle.keys.specs.declared.refusal.Refusal.{Refusal}
use Rattle.keys.specs.declared.refusal.Refusal.TheVariants.{OutOfRange}
use Rattle.keys.specs.declared.route.Route.{Route}
use Rattle.keys.specs.declared.route.RouteFields.{RouteFields}
use Rattle.keys.specs.Classes.{class_number}
use Rattle.keys.specs.Orders.{by_first}
use Rattle.keys.specs.Ranges.{is_signal, nearest_signal}

-- entry is compared first, then exit, then class
abbrev pub route_le : Route → Route → Bool
route_le a b = by_first a.entry b.entry (by_first a.exit b.exit (nat_le (class_number a.class) (class_number b.class)))

abbrev pub route_fields : Route → RouteFields
route_fields a = record { entry = a.entry; exit = a.exit; class = a.class }

-- a number that is no signal's gives way to the nearest that is
abbrev pub route_made : RouteFields → Route
route_made f = record {
  entry = nearest_signal f.entry;
  exit = nearest_signal f.exit;
  class = f.class;
  starts = omega arith;
  ends = omega arith;
}

-- the route of these fields, or that one of them is out of range
abbrev pub route_of : ℕ → ℕ → Class → Result Route Refusal
route_of entry exit class =
    cond (is_signal entry && is_signal exit) (Ok (route_made (record { entry = entry; exit = exit; class = class }))) (Err OutOfRange)
