-- Which files have a layout: what a header is refused for, by its rows and the sizes of its kinds.
use Rattle.std.specs.Prelude.{ℕ, cond, ◌||◌, Some, None, Option, nat_lt}
use Rattle.keys.specs.declared.refusal.Refusal.{Refusal}
use Rattle.keys.specs.declared.refusal.Refusal.TheVariants.{TooWide, HeaderField}
use Rattle.stored.specs.Forms.{widest}
use Rattle.archive.specs.Format.{most_rows}

-- a kind that is too wide first, then rows that are too many
abbrev pub layout_refused : ℕ → ℕ → ℕ → Option Refusal
layout_refused rows key tally =
    cond (nat_lt widest key || nat_lt widest tally) (Some TooWide) (cond (nat_lt most_rows rows) (Some HeaderField) None)
