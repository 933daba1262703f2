-- Bytes that hold a name are kept, others give way to the section A.
use Rattle.std.proofs.Common.{sym, refl}
use Rattle.keys.specs.SectionsLemmas.{section_kept, section_lost}
use Rattle.keys.proofs.section.calls.SectionKey.from_fields.Goals as goal

pub returns-then-is_section : goal.returns-then-is_section
returns-then-is_section c = section_kept _ c.args.fields refl

pub returns : goal.returns
returns c = section_lost _ c.args.fields (sym c.if-is_section.ensures) refl
