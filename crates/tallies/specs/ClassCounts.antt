-- The classes tally: a count for each class of route, modulo 2^16.
use Rattle.std.specs.Prelude.{ℕ, ◌+◌, ◌-◌, ◌%◌, ◌^◌}
use Rattle.std.proofs.Common.{mod-lt, lit<}
use Rattle.keys.specs.declared.class.Class.{Class}
use Rattle.keys.specs.declared.class.Class.TheVariants.{M, W, C, S}
use Rattle.tallies.specs.declared.classes.Classes.{Classes}

-- what is left of four numbers modulo 2^16
abbrev pub classes_of : ℕ → ℕ → ℕ → ℕ → Classes
classes_of m w c s = record {
  m = m % 2 ^ 16;
  w = w % 2 ^ 16;
  c = c % 2 ^ 16;
  s = s % 2 ^ 16;
  front = (mod-lt m (lit< tt), mod-lt w (lit< tt));
  back = (mod-lt c (lit< tt), mod-lt s (lit< tt));
}

abbrev pub classes_joined : Classes → Classes → Classes
classes_joined a b = classes_of (a.m + b.m) (a.w + b.w) (a.c + b.c) (a.s + b.s)

abbrev pub classes_opposed : Classes → Classes
classes_opposed a = classes_of (2 ^ 16 - a.m) (2 ^ 16 - a.w) (2 ^ 16 - a.c) (2 ^ 16 - a.s)

-- a route weighs one in its own class
abbrev pub class_weight : Class → Classes
class_weight M = classes_of 1 0 0 0
class_weight W = classes_of 0 1 0 0
class_weight C = classes_of 0 0 1 0
class_weight S = classes_of 0 0 0 1

-- how many routes of a class
abbrev pub count_in : Classes → Class → ℕ
count_in t M = t.m
count_in t W = t.w
count_in t C = t.c
count_in t S = t.s
