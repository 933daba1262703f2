-- The first stop's index is the length of what stands before it.
use Rattle.std.proofs.Common.{ℕ, eqb, length, refl, ap, ◌∙◌, arith, rules}
use borrow.Author.Tests.{tests}
use Rattle.std.specs.Option.{unwrap_or}
use Rattle.std.proofs.lemmas.Bool.Decides.{nat_tests}
use Rattle.std.proofs.lemmas.Iterator.{YieldsList-from_slice}
use Rattle.std.proofs.lemmas.Iterator.Search.{position_from_yields_List}
use Rattle.std.proofs.lemmas.List.Recursion.{is_position_or_len}
use Rattle.octets.specs.Runs.{up_to}
use Rattle.octets.proofs.Fronts.{up_to-short}
use Rattle.octets.proofs.runs.length_before.Goals as goal

pub returns : goal.returns
returns c =
    let bytes = c.args.bytes.now in
    let test = λ (x : ℕ). eqb x c.args.stop in
    let front = is_position_or_len (λ l. length (up_to c.args.stop l)) test refl (λ x xs. grind arith) bytes in
    let first = position_from_yields_List test _ _ c.position.result c.position.ensures.ran (YieldsList-from_slice bytes cc) (λ x b q k. search (rules, tests)) in
    let short = up_to-short c.args.stop bytes in
    c.unwrap_or.ensures ∙ ap (λ o. unwrap_or o (length bytes)) first ∙ grind (arith, nat_tests)
