-- A word as long as the kind's, of the same bytes, is the kind's.
use Rattle.std.proofs.Common.{rules, arith}
use Rattle.requests.specs.declared.kind.Kind.TheVariants.{Enter, Withdraw, LookUp, Count}
use Rattle.lines.proofs.Spelled.{kind_spelled}
use Rattle.lines.proofs.vocabulary.kind_in.Goals as goal

pub returns-in-enter : goal.returns-in-enter
returns-in-enter c = kind_spelled c.args.word.now Enter (omega arith) (search rules)

pub returns-in-withdraw : goal.returns-in-withdraw
returns-in-withdraw c = kind_spelled c.args.word.now Withdraw (omega arith) (search rules)

pub returns-in-lookup : goal.returns-in-lookup
returns-in-lookup c = kind_spelled c.args.word.now LookUp (omega arith) (search rules)

pub returns-in-count : goal.returns-in-count
returns-in-count c = kind_spelled c.args.word.now Count (omega arith) (search rules)
