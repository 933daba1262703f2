-- Names of track sections, and the eight bytes that hold a name.
use Rattle.std.specs.Prelude.{ℕ, ◌-◌, Bool, true, ◌&&◌, ◌||◌, List, [], ◌∷◌, ◌++◌, length, drop, replicate, ◌==◌, nat_le}
use Rattle.octets.specs.Runs.{up_to, all_are}

-- a name has one to eight characters
abbrev pub longest_name : ℕ
longest_name = 8

-- A to Z or 0 to 9, in ASCII
abbrev pub is_character : ℕ → Bool
is_character c = (nat_le 65 c && nat_le c 90) || (nat_le 48 c && nat_le c 57)

abbrev pub all_characters : List ℕ → Bool
all_characters [] = true
all_characters (c ∷ cs) = is_character c && all_characters cs

abbrev pub is_name : List ℕ → Bool
is_name name = (nat_le 1 (length name) && nat_le (length name) longest_name) && all_characters name

-- the eight bytes of a name: its characters, and zeros after them
abbrev pub filled : List ℕ → List ℕ
filled name = name ++ replicate (longest_name - length name) 0

-- the name that eight bytes hold: what stands before the first zero
abbrev pub name_in : List ℕ → List ℕ
name_in bytes = up_to 0 bytes

-- eight bytes that hold a name, and zeros alone after it
abbrev pub is_section : List ℕ → Bool
is_section bytes =
    (length bytes == longest_name && is_name (name_in bytes)) && all_are 0 (drop (length (name_in bytes)) bytes)

-- the bytes of the name A
abbrev pub nameless : List ℕ
nameless = filled (65 ∷ [])
