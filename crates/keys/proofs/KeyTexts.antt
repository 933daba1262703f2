-- Names are ASCII. Assumes nothing.
use Rattle.std.proofs.Common.{◌≡◌, ℕ, ◌<◌, true, List, [], ◌∷◌, IsUtf8, IsAscii, arith}
use Rattle.std.proofs.lemmas.Str.Ascii.{IsAscii-nil, IsAscii-cons}
use Rattle.std.proofs.lemmas.Str.{IsUtf8-from_ascii}
use Rattle.keys.specs.declared.section.Section.{Section}
use Rattle.keys.specs.Names.{all_characters, name_in}

characters_ascii : (name : List ℕ) → all_characters name ≡ true → IsAscii name
characters_ascii [] h = IsAscii-nil
characters_ascii (c ∷ cs) h =
    let low : c < 128 = grind arith in
    let rest : all_characters cs ≡ true = grind arith in
    IsAscii-cons c cs low (characters_ascii cs rest)

pub name_utf8 : (s : Section) → IsUtf8 (name_in s.bytes)
name_utf8 s =
    let named = s.named in
    let good : all_characters (name_in s.bytes) ≡ true = grind arith in
    IsUtf8-from_ascii (name_in s.bytes) (characters_ascii (name_in s.bytes) good)
