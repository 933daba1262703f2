-- The four bytes of a number tally, and the eight of counts by class: M, W, C and S in two each.
use Rattle.std.specs.Prelude.{ℕ, List, ◌++◌, take, drop}
use Rattle.tallies.specs.declared.number.Number.{Number}
use Rattle.tallies.specs.declared.classes.Classes.{Classes}
use Rattle.tallies.specs.Numbers.{number_of}
use Rattle.tallies.specs.ClassCounts.{classes_of}
use Rattle.stored.specs.Numerals.{two, four, value}
use Rattle.stored.specs.Forms.{TallyForm}

abbrev pub number_form : TallyForm Number
number_form = record { size = 4; written = λ t. four t.value; read = λ bytes. number_of (value bytes) }

abbrev pub classes_written : Classes → List ℕ
classes_written t = two t.m ++ (two t.w ++ (two t.c ++ two t.s))

abbrev pub classes_read : List ℕ → Classes
classes_read bytes = classes_of (value (take 2 bytes)) (value (take 2 (drop 2 bytes))) (value (take 2 (drop 4 bytes))) (value (take 2 (drop 6 bytes)))

abbrev pub classes_form : TallyForm Classes
classes_form = record { size = 8; written = classes_written; read = classes_read }
