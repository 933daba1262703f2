-- The number tally: counts modulo 2^32.
use Rattle.std.specs.Prelude.{ℕ, ◌+◌, ◌-◌, ◌%◌, ◌^◌}
use Rattle.std.proofs.Common.{mod-lt, lit<}
use Rattle.tallies.specs.declared.number.Number.{Number}

-- what is left of a number modulo 2^32
abbrev pub number_of : ℕ → Number
number_of n = record { value = n % 2 ^ 32; fits = mod-lt n (lit< tt) }

abbrev pub number_joined : Number → Number → Number
number_joined a b = number_of (a.value + b.value)

abbrev pub number_opposed : Number → Number
number_opposed a = number_of (2 ^ 32 - a.value)
