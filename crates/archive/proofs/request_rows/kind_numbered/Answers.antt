-- There is a kind of the number, or none.
use Rattle.std.proofs.Common.{◌≡◌, ℕ, Ok, Err, Result, ◌∙◌, arith}
use Rattle.std.specs.Result.{result_ok}
use Rattle.keys.specs.declared.refusal.Refusal.{Refusal}
use Rattle.requests.specs.declared.kind.Kind.{Kind}
use Rattle.requests.specs.declared.kind.Kind.TheVariants.{Enter, Withdraw, LookUp, Count}
use Rattle.requests.specs.Kinds.{KindOfNumber}
use Rattle.archive.specs.Checks.{kind_numbered}
use Rattle.archive.proofs.request_rows.kind_numbered.Goals as goal

known : (n : ℕ) (r : Result Kind Refusal) → KindOfNumber n r → result_ok r ≡ kind_numbered n
known n (Ok k) h = grind arith
known n (Err e) h = let p = h.1 Enter in let q = h.1 Withdraw in let r = h.1 LookUp in let s = h.1 Count in grind arith

pub returns : goal.returns
returns c = c.ok.ensures.value ∙ known c.args.number c.try_from.result c.try_from.ensures
