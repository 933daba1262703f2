-- Small facts about truth values that searches in large contexts do not reach. Assumes nothing.
use Rattle.std.proofs.Common.{◌≡◌, Bool, true, false, cond, not, ◌&&◌, ◌||◌, refl}

pub bool_case : (b : Bool) (P : Bool → Type 0) → P true → P false → P b
bool_case true P p q = p
bool_case false P p q = q

pub both_true : {a b : Bool} → a ≡ true → b ≡ true → (a && b) ≡ true
both_true {a = true} {b = b} p q = q
both_true {a = false} {b = b} p q = p

pub or_cases : {P : Type 0} (a b : Bool) → (a || b) ≡ true → (a ≡ true → P) → (b ≡ true → P) → P
or_cases true b e f g = f refl
or_cases false b e f g = g e

-- either of two facts carried over, by a truth value
pub bool_map : {P P' Q Q' : Type 0} (b : Bool) → (P → P') → (Q → Q') → cond b P Q → cond b P' Q'
bool_map true f g h = f h
bool_map false f g h = g h

pub or_false : (b : Bool) → (b || false) ≡ b
or_false true = refl
or_false false = refl

pub not_and : (b : Bool) → (not b && b) ≡ false
not_and true = refl
not_and false = refl
