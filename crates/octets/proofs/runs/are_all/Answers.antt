-- The test at each byte is the definition's.
use Rattle.std.proofs.Common.{eqb, refl, rules}
use Rattle.std.proofs.lemmas.List.Recursion.{and_is}
use Rattle.octets.specs.Runs.{all_are}
use Rattle.octets.proofs.runs.are_all.Goals as goal

pub returns : goal.returns
returns c = and_is (all_are c.args.value) (λ x. eqb x c.args.value) refl (λ _ _. refl) c.args.bytes.now 0 _ (search rules) (search rules)
