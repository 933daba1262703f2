-- What stands behind the name is what is left.
use Rattle.std.proofs.Common.{sym, ◌∙◌, arith}
use Rattle.keys.specs.NamesLemmas.{section_by_rest}
use Rattle.keys.proofs.section.names.is_section.Goals as goal

pub returns : goal.returns
returns c =
    c.are_all.ensures ∙ section_by_rest c.args.bytes.now c.before-name.result.now c.before-name.ensures (omega arith) (sym c.if-not-is_name.ensures)
