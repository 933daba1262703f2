-- When two sections are equal, and what their bytes tell. Rests on Names and Texts.
use Rattle.std.specs.Prelude.{◌≡◌, ℕ, Bool, true, false, List, length, drop, Ok, refl}
use Rattle.std.proofs.Common.{sym, ap, ◌∙◌, true≢false, arith}
use Rattle.std.proofs.Math.Bool.{Bool-set}
use mathlib.Core.HLevel.{is_prop→PathP}
use Rattle.octets.specs.Runs.{all_are}
use Rattle.keys.specs.declared.section.Section.{Section}
use Rattle.keys.specs.Names.{name_in, is_name, is_section, filled, nameless}
use Rattle.keys.specs.Orders.{text_le}
use Rattle.keys.specs.Sections.{section_le, section_by, section_made, section_of}
use Rattle.keys.specs.NamesLemmas.{filled-le}

-- sections with the same bytes are equal
pub section_path : (a b : Section) → a.bytes ≡ b.bytes → a ≡ b
section_path a b p = λ i. record {
  bytes = p i;
  named = is_prop→PathP (λ j. is_section (p j) ≡ true) (λ j. Bool-set (is_section (p j)) true) a.named b.named i;
}

pub section_long : (a : Section) → length a.bytes ≡ 8
section_long a = let h = a.named in grind arith

section-zeros : (a : Section) → all_are 0 (drop (length (name_in a.bytes)) a.bytes) ≡ true
section-zeros a = let h = a.named in grind arith

-- sections are in the order of their bytes
pub section-bytes-le : (a b : Section) → section_le a b ≡ text_le a.bytes b.bytes
section-bytes-le a b =
    let p = section_long a in
    let q = section_long b in
    filled-le a.bytes b.bytes (omega arith) (section-zeros a) (section-zeros b)

made_kept : (f : List ℕ) (b : Bool) (e : is_section f ≡ b) → b ≡ true → (section_by f b e).bytes ≡ f
made_kept f true e t = refl
made_kept f false e t = absurd (true≢false (sym t))

made_lost : (f : List ℕ) (b : Bool) (e : is_section f ≡ b) → b ≡ false → (section_by f b e).bytes ≡ nameless
made_lost f true e t = absurd (true≢false t)
made_lost f false e t = refl

-- the section of bytes that hold a name has these bytes
pub section_kept : (s : Section) (f : List ℕ) → s.bytes ≡ f → s ≡ section_made f
section_kept s f p = section_path s _ (p ∙ sym (made_kept f _ refl (ap is_section (sym p) ∙ s.named)))

-- the section of bytes that hold no name is A
pub section_lost : (s : Section) (f : List ℕ) → is_section f ≡ false → s.bytes ≡ nameless → s ≡ section_made f
section_lost s f n p = section_path s _ (p ∙ sym (made_lost f _ refl n))

-- the section of a name has the name's bytes
pub section-named : (s : Section) (name : List ℕ) → is_name name ≡ true → s.bytes ≡ filled name → Ok s ≡ section_of name
section-named s name h p = let made = section_kept s (filled name) p in rw h (ap Ok made)
