-- What writing an archive answers, and what the bytes then hold.
use Rattle.std.specs.Prelude.{ℕ, cond, ◌||◌, List, ◌++◌, length, drop, Ok, Err, Result, nat_lt}
use Rattle.keys.specs.declared.refusal.Refusal.{Refusal}
use Rattle.keys.specs.declared.refusal.Refusal.TheVariants.{TooShort, TooWide}
use Rattle.requests.specs.declared.row.Row.{Row}
use Rattle.stored.specs.Forms.{KeyForm, TallyForm, widest}
use Rattle.archive.specs.Format.{file}

-- a kind that is too wide is told first, then bytes that are too few
abbrev pub write_answer : {K T : Type 0} → KeyForm K → TallyForm T → List (Row K T) → List ℕ → Result ℕ Refusal
write_answer keys tallies rows buffer =
    cond (nat_lt widest keys.size || nat_lt widest tallies.size) (Err TooWide) (cond (nat_lt (length buffer) (length (file keys tallies rows))) (Err TooShort) (Ok (length (file keys tallies rows))))

-- the file and the later bytes; a refusal leaves all
abbrev pub write_after : {K T : Type 0} → KeyForm K → TallyForm T → List (Row K T) → List ℕ → List ℕ
write_after keys tallies rows buffer =
    cond (nat_lt widest keys.size || nat_lt widest tallies.size) buffer (cond (nat_lt (length buffer) (length (file keys tallies rows))) buffer (file keys tallies rows ++ drop (length (file keys tallies rows)) buffer))
