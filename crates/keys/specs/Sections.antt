-- Track sections: their names, the eight bytes that hold a name, their order, and which names make one.
use Rattle.std.specs.Prelude.{◌≡◌, ℕ, Bool, true, false, cond, List, Ok, Err, Result, refl}
use Rattle.keys.specs.declared.refusal.Refusal.{Refusal}
use Rattle.keys.specs.declared.refusal.Refusal.TheVariants.{OutOfRange}
use Rattle.keys.specs.declared.section.Section.{Section}
use Rattle.keys.specs.Names.{is_name, is_section, filled, name_in, nameless}
use Rattle.keys.specs.Orders.{text_le}

-- sections are ordered by their names
abbrev pub section_le : Section → Section → Bool
section_le a b = text_le (name_in a.bytes) (name_in b.bytes)

-- eight bytes that hold no name give way to the section A
abbrev pub section_by : (f : List ℕ) (b : Bool) → is_section f ≡ b → Section
section_by f true e = record { bytes = f; named = e }
section_by f false e = record { bytes = nameless; named = refl }

abbrev pub section_made : List ℕ → Section
section_made f = section_by f (is_section f) refl

-- the section of this name, or that it is no name
abbrev pub section_of : List ℕ → Result Section Refusal
section_of name = cond (is_name name) (Ok (section_made (filled name))) (Err OutOfRange)
