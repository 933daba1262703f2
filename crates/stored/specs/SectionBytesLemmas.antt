-- Sections and their eight bytes. Rests on the equality of sections.
use Rattle.std.specs.Prelude.{◌≡◌, ℕ, Bool, true, false, List, Some, None, ◌≢◌, refl}
use Rattle.std.proofs.Common.{sym, ap, ◌∙◌, true≢false}
use Rattle.keys.specs.declared.section.Section.{Section}
use Rattle.keys.specs.Names.{is_section}
use Rattle.keys.specs.Sections.{section_made, section_by}
use Rattle.keys.specs.SectionsLemmas.{section_path}
use Rattle.stored.specs.SectionBytes.{section_read, section_if}

section_if_kept : (bytes : List ℕ) (named : Bool) (e : is_section bytes ≡ named) (k : Section) → k.bytes ≡ bytes → section_if bytes named e ≡ Some k
section_if_kept bytes true e k p = ap Some (section_path _ k (sym p))
section_if_kept bytes false e k p = absurd (true≢false (sym (ap is_section (sym p) ∙ k.named) ∙ e))

-- bytes of a section are read as that section
pub section_read_kept : (bytes : List ℕ) (k : Section) → k.bytes ≡ bytes → section_read bytes ≡ Some k
section_read_kept bytes k p = section_if_kept bytes (is_section bytes) refl k p

-- bytes that the section made of them does not have are no section
pub section_read_lost : (bytes : List ℕ) → ((section_made bytes).bytes ≢ bytes) → section_read bytes ≡ None
section_read_lost bytes h = go (is_section bytes) refl h
  where
    go : (named : Bool) (e : is_section bytes ≡ named) → ((section_by bytes named e).bytes ≢ bytes) → section_if bytes named e ≡ None
    go true e h = absurd (h refl)
    go false e h = refl
