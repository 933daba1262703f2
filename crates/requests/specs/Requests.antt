-- The kind of a request.
use Rattle.requests.specs.declared.kind.Kind.{Kind}
use Rattle.requests.specs.declared.kind.Kind.TheVariants as kind
use Rattle.requests.specs.declared.request.Request.{Request}
use Rattle.requests.specs.declared.request.Request.TheVariants.{Enter, Withdraw, LookUp, Count}

abbrev pub kind_of : {K : Type 0} → Request K → Kind
kind_of (Enter k) = kind.Enter
kind_of (Withdraw k) = kind.Withdraw
kind_of (LookUp k) = kind.LookUp
kind_of (Count lo hi) = kind.Count
