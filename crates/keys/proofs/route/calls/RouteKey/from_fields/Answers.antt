-- The fields made are the nearest signals.
use Rattle.std.proofs.Common.{refl}
use Rattle.keys.specs.RoutesLemmas.{route_path}
use Rattle.keys.proofs.route.calls.RouteKey.from_fields.Goals as goal

pub returns : goal.returns
returns c = route_path _ _ c.nearest_signal.ensures c.nearest_signal-2.ensures refl
