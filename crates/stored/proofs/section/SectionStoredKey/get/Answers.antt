-- The first eight bytes of the row.
use Rattle.std.proofs.Common.{◌≡◌, ◌≤◌, length, take, sym, ap, ◌∙◌, rules, arith}
use Rattle.stored.specs.Forms.{in_range}
use Rattle.stored.specs.SectionBytes.{section_read}
use Rattle.stored.specs.Puts.{checked_through}
use Rattle.stored.proofs.section.SectionStoredKey.get.Goals as goal

pub returns : goal.returns
returns c =
    let row = c.args.row.now in
    let same : c.in_ok-front.front.now ≡ take 8 row = search rules in
    let long : 8 ≤ length row = search rules in
    c.section_of.ensures ∙ ap (λ l. in_range (section_read l)) same ∙ sym (checked_through 8 row (in_range (section_read (take 8 row))) (omega arith) long)
