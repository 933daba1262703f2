-- A word as long as the verb's, of the same bytes, is the verb's.
use Rattle.std.proofs.Common.{rules, arith}
use Rattle.lines.specs.declared.vocabulary.Verb.TheVariants.{Submit, Follow, Carry, Collect}
use Rattle.lines.proofs.Spelled.{verb_spelled}
use Rattle.lines.proofs.vocabulary.verb_in.Goals as goal

pub returns-in-submit : goal.returns-in-submit
returns-in-submit c = verb_spelled c.args.word.now Submit (omega arith) (search rules)

pub returns-in-follow : goal.returns-in-follow
returns-in-follow c = verb_spelled c.args.word.now Follow (omega arith) (search rules)

pub returns-in-carry : goal.returns-in-carry
returns-in-carry c = verb_spelled c.args.word.now Carry (omega arith) (search rules)

pub returns-in-collect : goal.returns-in-collect
returns-in-collect c = verb_spelled c.args.word.now Collect (omega arith) (search rules)
