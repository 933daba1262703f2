-- The theorems of the grammar.
use Rattle.lines.proofs.Meanings.{every_call_has_a_line, one_form}
use Rattle.lines.proofs.reading.grammar_stands.Goals as goal

pub returns : goal.returns
returns c = record { every = every_call_has_a_line; one = one_form }
