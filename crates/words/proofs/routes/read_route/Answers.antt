-- The answer is what the line is, and so has its meaning.
use Rattle.std.proofs.Common.{rules}
use Rattle.words.proofs.Meanings.{reads-answer}
use Rattle.words.proofs.routes.read_route.Goals as goal

pub returns-in_err-ok_or-clause-meaning : goal.returns-in_err-ok_or-clause-meaning
returns-in_err-ok_or-clause-meaning c = reads-answer c.args.line.now c.from_residual.result (search rules)

pub returns-clause-meaning : goal.returns-clause-meaning
returns-clause-meaning c = reads-answer c.args.line.now c.route.result (search rules)
