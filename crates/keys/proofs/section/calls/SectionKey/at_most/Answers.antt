-- Sections are in the order of their bytes.
use Rattle.std.proofs.Common.{sym, refl, ◌∙◌, arith}
use Rattle.std.specs.Ordering.{nat_cmp, is_le}
use Rattle.std.proofs.lemmas.Bool.Decides.{nat_tests}
use Rattle.std.proofs.lemmas.Cmp.{same_from_slice_cmp_tested}
use Rattle.keys.specs.Orders.{text_le}
use Rattle.keys.specs.SectionsLemmas.{section-bytes-le}
use Rattle.keys.proofs.section.calls.SectionKey.at_most.Goals as goal

pub returns : goal.returns
returns c =
    let by = same_from_slice_cmp_tested nat_cmp is_le text_le refl (λ _ _. refl) (λ _ _. refl) (λ x y xs ys o h. grind (arith, nat_tests)) in
    by c.args.self.bytes c.args.other.bytes _ c.le.ensures ∙ sym (section-bytes-le c.args.self c.args.other)
