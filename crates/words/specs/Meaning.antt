-- What it means that a line is a route, or is none: by the text that is written of a route, with no word of how it is read.
use Rattle.std.specs.Prelude.{◌≡◌, ℕ, ◌<◌, ◌⊎◌, List, [], ◌∷◌, ◌++◌, Ok, Err, decimal, Result}
use Rattle.keys.specs.declared.class.Class.{Class}
use Rattle.keys.specs.declared.refusal.Refusal.{Refusal}
use Rattle.keys.specs.declared.refusal.Refusal.TheVariants.{OutOfRange, NoSuchLine}
use Rattle.keys.specs.declared.route.Route.{Route}
use Rattle.keys.specs.Classes.{class_letter}
use Rattle.keys.specs.Routes.{route_of}

-- the text of a route: both numbers in decimal and the letter of the class, a space between them
abbrev pub fields_text : ℕ → ℕ → Class → List ℕ
fields_text entry exit class = decimal entry ++ (32 ∷ (decimal exit ++ (32 ∷ (class_letter class ∷ []))))

-- the line is the text of two numbers of at most five digits and a class
pub record Written (line : List ℕ) (entry exit : ℕ) (class : Class) : Type 0 where
  pub entry_short : entry < 100000
  pub exit_short : exit < 100000
  pub text : line ≡ fields_text entry exit class

-- the line is such a text, and one of its numbers is no signal
pub record Outside (line : List ℕ) : Type 0 where
  pub entry : ℕ
  pub exit : ℕ
  pub class : Class
  pub written : Written line entry exit class
  pub refused : route_of entry exit class ≡ Err OutOfRange

-- a route read is the route whose text the line is; out of range, the line is a text with a number that is no signal; else it is no such text at all
abbrev pub Reads : List ℕ → Result Route Refusal → Type 0
Reads line (Ok route) = line ≡ fields_text route.entry route.exit route.class
Reads line (Err refusal) =
    ((refusal ≡ OutOfRange) × Outside line) ⊎ ((refusal ≡ NoSuchLine) × ((entry exit : ℕ) (class : Class) → Written line entry exit class → ⊥))
