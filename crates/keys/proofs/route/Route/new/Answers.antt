-- Numbers that are signals make the route of just these fields.
use Rattle.keys.specs.RoutesLemmas.{route_of_fields}
use Rattle.keys.proofs.route.Route.new.Goals as goal

pub returns : goal.returns
returns c = route_of_fields _
