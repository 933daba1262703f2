-- The section made of the bytes is theirs if it has these bytes.
use Rattle.std.proofs.Common.{sym, ap, ◌∙◌, true≢false}
use Rattle.std.proofs.lemmas.Slice.Eq.{slice_eq-Decides}
use Rattle.stored.specs.Forms.{in_range}
use Rattle.stored.specs.SectionBytesLemmas.{section_read_kept, section_read_lost}
use Rattle.stored.proofs.section.section_of.Goals as goal
use Rattle.std.proofs.lemmas.Bool.Decides.{Decides-eqb}

pub returns-then-eq : goal.returns-then-eq
returns-then-eq c =
    let same = (slice_eq-Decides Decides-eqb c.fields.result c.args.bytes c.eq.result c.eq.ensures).0 c.if-eq.true in
    sym (ap in_range (section_read_kept c.args.bytes c.from_fields-section.result (sym c.fields.ensures ∙ same)))

pub returns : goal.returns
returns c =
    let tells = (slice_eq-Decides Decides-eqb c.fields.result c.args.bytes c.eq.result c.eq.ensures).1 in
    let made = ap (λ s. s.bytes) c.from_fields-section.ensures in
    sym (ap in_range (section_read_lost c.args.bytes (λ e. true≢false (sym (tells (c.fields.ensures ∙ made ∙ e)) ∙ c.if-eq.false))))
