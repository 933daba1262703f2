-- The number of each kind of request.
use Rattle.std.specs.Prelude.{◌≡◌, ◌≢◌, ℕ, Result, MatchResult}
use Rattle.keys.specs.declared.refusal.Refusal.{Refusal}
use Rattle.keys.specs.declared.refusal.Refusal.TheVariants.{RequestRow}
use Rattle.requests.specs.declared.kind.Kind.{Kind}
use Rattle.requests.specs.declared.kind.Kind.TheVariants.{Enter, Withdraw, LookUp, Count}

abbrev pub kind_number : Kind → ℕ
kind_number Enter = 1
kind_number Withdraw = 2
kind_number LookUp = 3
kind_number Count = 4

-- the kind of a number, or that no row of a request has the number, as no kind has it
abbrev pub KindOfNumber : ℕ → Result Kind Refusal → Type 0
KindOfNumber number result =
    MatchResult result (λ k. kind_number k ≡ number) (λ e. (e ≡ RequestRow) × ((k : Kind) → kind_number k ≢ number))
