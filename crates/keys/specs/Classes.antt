-- The number and the letter of each class of route. Every promise that speaks of them goes by these definitions.
use Rattle.std.specs.Prelude.{◌≡◌, ◌≢◌, ℕ, Result, MatchResult}
use Rattle.keys.specs.declared.class.Class.{Class}
use Rattle.keys.specs.declared.class.Class.TheVariants.{M, W, C, S}
use Rattle.keys.specs.declared.refusal.Refusal.{Refusal}
use Rattle.keys.specs.declared.refusal.Refusal.TheVariants.{OutOfRange, NoSuchLine}

abbrev pub class_number : Class → ℕ
class_number M = 1
class_number W = 2
class_number C = 3
class_number S = 4

-- ASCII codes
abbrev pub class_letter : Class → ℕ
class_letter M = 77
class_letter W = 87
class_letter C = 67
class_letter S = 83

-- the class of a number, or that the number is out of range, as no class has it
abbrev pub ClassOfNumber : ℕ → Result Class Refusal → Type 0
ClassOfNumber number result =
    MatchResult result (λ c. class_number c ≡ number) (λ e. (e ≡ OutOfRange) × ((c : Class) → class_number c ≢ number))

-- the class of a letter, or that no line has the letter, as no class has it
abbrev pub ClassOfLetter : ℕ → Result Class Refusal → Type 0
ClassOfLetter letter result =
    MatchResult result (λ c. class_letter c ≡ letter) (λ e. (e ≡ NoSuchLine) × ((c : Class) → class_letter c ≢ letter))
