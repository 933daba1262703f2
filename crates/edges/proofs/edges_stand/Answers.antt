-- The laws that the kinds owe are all that the cases need.
use Rattle.std.proofs.Common.{rules}
use Rattle.rules.specs.Kinds.{kinds_of}
use Rattle.edges.proofs.Cases.{edge_cases}
use Rattle.edges.proofs.edges_stand.Goals as goal

pub returns : goal.returns
returns g c = edge_cases (kinds_of g.K.Key g.T.Tally) (search (rules, g.met.K.Key, g.met.T.Tally))
