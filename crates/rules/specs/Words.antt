-- The word for each thing that a carry answers, each mode of a count, and each note.
use Rattle.std.specs.Prelude.{ℕ, List, codes}
use Rattle.rules.specs.declared.carried.Carried.{Carried}
use Rattle.rules.specs.declared.carried.Carried.TheVariants.{Late, Decided, Walking, Moved}
use Rattle.rules.specs.declared.mode.Mode.{Mode}
use Rattle.rules.specs.declared.mode.Mode.TheVariants.{Between, From, Upto}
use Rattle.rules.specs.declared.note.Note.{Note}
use Rattle.rules.specs.declared.note.Note.TheVariants.{None, Saw, Walk}

abbrev pub carried_word : Carried → List ℕ
carried_word Late = codes "late"
carried_word Decided = codes "decided"
carried_word Walking = codes "walking"
carried_word Moved = codes "moved"

abbrev pub mode_word : Mode → List ℕ
mode_word Between = codes "between"
mode_word From = codes "from"
mode_word Upto = codes "upto"

abbrev pub note_word : Note → List ℕ
note_word None = codes "none"
note_word (Saw r p) = codes "saw"
note_word (Walk r p) = codes "walk"
