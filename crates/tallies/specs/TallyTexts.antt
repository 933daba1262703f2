-- Tallies as people read them.
use Rattle.std.specs.Prelude.{ℕ, List, ◌++◌, codes, decimal}
use Rattle.tallies.specs.declared.classes.Classes.{Classes}
use Rattle.tallies.specs.declared.number.Number.{Number}
use Rattle.tallies.specs.declared.pair.Pair.{Pair}

abbrev pub number_text : Number → List ℕ
number_text t = decimal t.value

-- the four counts, M, W, C and S
abbrev pub classes_text : Classes → List ℕ
classes_text t = decimal t.m ++ (codes " " ++ (decimal t.w ++ (codes " " ++ (decimal t.c ++ (codes " " ++ decimal t.s)))))

-- both parts in turn
abbrev pub pair_text : {A B : Type 0} → (A → List ℕ) → (B → List ℕ) → Pair A B → List ℕ
pair_text first second t = first t.first ++ (codes " " ++ second t.second)
