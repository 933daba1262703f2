-- The laws of the kinds are those of their traits.
use Rattle.std.proofs.Common.{rules}
use Rattle.rules.specs.Kinds.{Lawful, kinds_of}
use Rattle.rules.proofs.Facts.{register_facts}
use Rattle.rules.proofs.Registers.{register_laws}
use Rattle.rules.proofs.laws.laws_stand.Goals as goal

pub returns : goal.returns
returns g c =
    let w = kinds_of g.K.Key g.T.Tally in
    let lawful : Lawful w = search (rules, g.met.K.Key, g.met.T.Tally) in
    record { laws = register_laws w lawful; facts = register_facts w lawful }
