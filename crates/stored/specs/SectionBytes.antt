-- The eight bytes of a section: its name's characters, and zeros after them.
use Rattle.std.specs.Prelude.{◌≡◌, ℕ, Bool, true, false, List, Some, None, Option, refl}
use Rattle.keys.specs.declared.section.Section.{Section}
use Rattle.keys.specs.Names.{is_section}
use Rattle.stored.specs.Forms.{KeyForm}

-- the section of bytes that were found to hold a name
abbrev pub section_if : (bytes : List ℕ) (named : Bool) → is_section bytes ≡ named → Option Section
section_if bytes true named = Some (record { bytes = bytes; named = named })
section_if bytes false named = None

abbrev pub section_read : List ℕ → Option Section
section_read bytes = section_if bytes (is_section bytes) refl

abbrev pub section_form : KeyForm Section
section_form = record { size = 8; written = λ k. k.bytes; read = section_read }
