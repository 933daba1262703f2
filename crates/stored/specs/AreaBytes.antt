-- The bytes of an area's key: the area's number in two, and then the key below.
use Rattle.std.specs.Prelude.{ℕ, ◌+◌, cond, List, [], ◌∷◌, ◌++◌, Some, None, Option, nat_lt}
use Rattle.keys.specs.declared.area.Area.{Area}
use Rattle.stored.specs.Numerals.{byte, two, value}
use Rattle.stored.specs.Forms.{KeyForm}

-- a key of the kind below, in that area
abbrev pub area_in : {K : Type 0} → ℕ → Option K → Option (Area K)
area_in number None = None
area_in number (Some key) = Some (record { number = number; key = key })

abbrev pub area_written : {K : Type 0} → KeyForm K → Area K → List ℕ
area_written below a = two a.number ++ below.written a.key

-- any two bytes, then bytes that read as a key of the kind below
abbrev pub area_read : {K : Type 0} → KeyForm K → List ℕ → Option (Area K)
area_read below [] = None
area_read below (a ∷ []) = None
area_read below (a ∷ b ∷ rest) = cond (nat_lt b byte) (area_in (value (a ∷ b ∷ [])) (below.read rest)) None

abbrev pub area_form : {K : Type 0} → KeyForm K → KeyForm (Area K)
area_form below = record { size = 2 + below.size; written = area_written below; read = area_read below }
