-- What is left decides, and goes on from what the digits so far are worth.
use Rattle.std.proofs.Common.{◌≡◌, ◌^◌, ◌<◌, drop}
use Rattle.std.specs.Str.Parse.{digits_value_after}
use Rattle.std.specs.Str.{all_ascii_digits}
use Rattle.words.proofs.numbers.all_value.Given as goal

abbrev pub invariant-loop-byte : goal.invariant-loop-byte
invariant-loop-byte l =
    (all_ascii_digits l.word ≡ all_ascii_digits (drop l.byte-index l.word)) × (digits_value_after 10 0 l.word ≡ digits_value_after 10 l.value (drop l.byte-index l.word)) × (l.value < 10 ^ l.byte-index)
