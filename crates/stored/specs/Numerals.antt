-- Numbers in two and in four bytes, high byte first, and the number that bytes are.
use Rattle.std.specs.Prelude.{ℕ, ◌+◌, ◌*◌, ◌/◌, ◌%◌, Bool, true, ◌&&◌, List, [], ◌∷◌, ◌++◌, nat_lt}

-- how many values a byte has
abbrev pub byte : ℕ
byte = 256

-- whether each of a row is a byte
abbrev pub all_bytes : List ℕ → Bool
all_bytes [] = true
all_bytes (b ∷ bs) = nat_lt b byte && all_bytes bs

-- a number in two bytes; what is past two bytes is the first's
abbrev pub two : ℕ → List ℕ
two n = n / byte ∷ n % byte ∷ []

-- a number in four bytes
abbrev pub four : ℕ → List ℕ
four n = two (n / (byte * byte)) ++ two (n % (byte * byte))

-- the number that bytes after those of a number make with it
abbrev pub value_after : ℕ → List ℕ → ℕ
value_after n [] = n
value_after n (b ∷ bs) = value_after (byte * n + b) bs

-- the number that bytes are
abbrev pub value : List ℕ → ℕ
value bs = value_after 0 bs
