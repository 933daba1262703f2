-- What stands before a byte, and rows of one byte.
use Rattle.std.specs.Prelude.{ℕ, Bool, true, cond, ◌&&◌, List, [], ◌∷◌, ◌==◌}

-- what stands before the first stop; all where there is none
abbrev pub up_to : ℕ → List ℕ → List ℕ
up_to stop [] = []
up_to stop (c ∷ cs) = cond (c == stop) [] (c ∷ up_to stop cs)

-- whether each byte is this one
abbrev pub all_are : ℕ → List ℕ → Bool
all_are value [] = true
all_are value (c ∷ cs) = c == value && all_are value cs
