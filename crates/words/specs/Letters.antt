-- Words that are the letter of a class.
use Rattle.std.specs.Prelude.{ℕ, cond, List, [], ◌∷◌, Some, None, Option, ◌==◌}
use Rattle.keys.specs.declared.class.Class.{Class}
use Rattle.keys.specs.declared.class.Class.TheVariants.{M, W, C, S}
use Rattle.keys.specs.Classes.{class_letter}

-- the class whose letter a byte is
abbrev pub class_of : ℕ → Option Class
class_of letter =
    cond (letter == class_letter M) (Some M)
    (cond (letter == class_letter W) (Some W)
    (cond (letter == class_letter C) (Some C)
    (cond (letter == class_letter S) (Some S) None)))

-- the class that a word is: one byte, and that the letter of a class
abbrev pub letter_in : List ℕ → Option Class
letter_in [] = None
letter_in (letter ∷ []) = class_of letter
letter_in (letter ∷ next ∷ more) = None
