-- Words that are numbers.
use Rattle.std.specs.Prelude.{ℕ, Bool, true, false, cond, not, ◌&&◌, List, [], ◌∷◌, length, Some, None, Option, ◌==◌, nat_le}
use Rattle.std.specs.Str.Parse.{digits_value}
use Rattle.std.specs.Str.{all_ascii_digits}

-- a number has one to five digits
abbrev pub longest_number : ℕ
longest_number = 5

-- there is a first digit, and it is no zero (48 in ASCII) in front of others
abbrev pub starts_well : List ℕ → Bool
starts_well [] = false
starts_well (c ∷ []) = true
starts_well (c ∷ d ∷ ds) = not (c == 48)

-- what digits are worth; a byte that is no digit spoils them
abbrev pub all_value : List ℕ → Option ℕ
all_value word = cond (all_ascii_digits word) (Some (digits_value 10 word)) None

-- the number that a word is
abbrev pub number_in : List ℕ → Option ℕ
number_in word = cond (nat_le (length word) longest_number && starts_well word) (all_value word) None
