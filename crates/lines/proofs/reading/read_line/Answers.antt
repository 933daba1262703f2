-- The answer is what the line is, and so has its meaning.
use Rattle.std.proofs.Common.{Err, rules}
use Rattle.keys.specs.declared.refusal.Refusal.TheVariants.{NoSuchLine}
use Rattle.lines.proofs.Meanings.{reads-answer}
use Rattle.lines.proofs.reading.read_line.Goals as goal

pub returns-then-line-gt-LONGEST_LINE-clause-meaning : goal.returns-then-line-gt-LONGEST_LINE-clause-meaning
returns-then-line-gt-LONGEST_LINE-clause-meaning c = reads-answer c.args.line.now (Err NoSuchLine) (search rules)

pub returns-in_err-form-clause-meaning : goal.returns-in_err-form-clause-meaning
returns-in_err-form-clause-meaning c = reads-answer c.args.line.now _ (search rules)

pub returns-clause-meaning : goal.returns-clause-meaning
returns-clause-meaning c = reads-answer c.args.line.now _ (search rules)
