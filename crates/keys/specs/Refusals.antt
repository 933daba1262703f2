-- The number of each refusal. Every promise that speaks of a refusal's number goes by this definition.
use Rattle.std.specs.Prelude.{ℕ}
use Rattle.keys.specs.declared.refusal.Refusal.{Refusal}
use Rattle.keys.specs.declared.refusal.Refusal.TheVariants.{NoStation, Uncollected, Full, NotGiven, Finished, NoNote, NothingToCollect, Unfinished, TooShort, OutOfRange, NoSuchLine, HeaderField, FileLength, RequestRow, AnswerRow, TooWide}

abbrev pub refusal_number : Refusal → ℕ
refusal_number NoStation = 1
refusal_number Uncollected = 2
refusal_number Full = 3
refusal_number NotGiven = 4
refusal_number Finished = 5
refusal_number NoNote = 6
refusal_number NothingToCollect = 7
refusal_number Unfinished = 8
refusal_number TooShort = 9
refusal_number OutOfRange = 10
refusal_number NoSuchLine = 11
refusal_number HeaderField = 12
refusal_number FileLength = 13
refusal_number RequestRow = 14
refusal_number AnswerRow = 15
refusal_number TooWide = 16
