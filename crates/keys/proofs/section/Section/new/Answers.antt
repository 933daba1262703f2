-- A name filled up is the bytes of a section.
use Rattle.std.proofs.Common.{sym, ap, ◌∙◌}
use Rattle.keys.specs.Names.{is_section}
use Rattle.keys.specs.NamesLemmas.{is_section-filled}
use Rattle.keys.specs.SectionsLemmas.{section-named}
use Rattle.keys.proofs.section.Section.new.Goals as goal

pub invariant_of-result : goal.invariant_of-result
invariant_of-result c =
    record { named = ap is_section c.fill.ensures ∙ is_section-filled c.args.name.now (sym c.if-not-is_name.ensures) }

pub returns : goal.returns
returns c = section-named _ c.args.name.now (sym c.if-not-is_name.ensures) c.fill.ensures
