-- The lines of a text, and what is read of them.
use Rattle.std.specs.Prelude.{ℕ, List, [], ◌∷◌, map, Some, None, Option, Result}
use Rattle.std.specs.Borrow.{Bor}
use Rattle.octets.specs.Cuts.{pieces}
use Rattle.keys.specs.declared.refusal.Refusal.{Refusal}
use Rattle.keys.specs.declared.route.Route.{Route}
use Rattle.words.specs.Lines.{line_route}

-- an empty last piece is no line
abbrev pub but_empty_last : List (List ℕ) → List (List ℕ)
but_empty_last [] = []
but_empty_last ([] ∷ []) = []
but_empty_last ((c ∷ cs) ∷ []) = (c ∷ cs) ∷ []
but_empty_last (p ∷ q ∷ qs) = p ∷ but_empty_last (q ∷ qs)

-- the lines of a text: its pieces between newlines (10 in ASCII), and none behind the last newline where the text ends there
abbrev pub lines : List ℕ → List (List ℕ)
lines text = but_empty_last (pieces 10 text)

-- a first line and the lines of what stands behind it
abbrev pub parted : Option (Bor (List ℕ) × Bor (List ℕ)) → List (List ℕ)
parted None = []
parted (Some p) = p.0.now ∷ lines p.1.now

-- what is read of each line
abbrev pub readings : List ℕ → List (Result Route Refusal)
readings text = map line_route (lines text)
