-- The code of an answer that counts has one digit.
use Rattle.std.proofs.Common.{◌≡◌, ◌∙◌, length, ap, arith, length-append}
use Rattle.std.proofs.lemmas.Fmt.{length-decimal-le}
use Rattle.requests.specs.Answers.{answer_code}
use Rattle.replies.proofs.writing.words_of.Goals as goal

pub returns-in-Counted-clause-bound : goal.returns-in-Counted-clause-bound
returns-in-Counted-clause-bound c =
    let code : c.code.result ≡ 5 = c.code.ensures ∙ ap answer_code c.in-Counted.is in
    let digit = length-decimal-le 1 c.code.result (omega arith) (omega arith) (omega arith) in
    let long = simp length-append at (ap length c.push_named-in-Collected-2.ensures.bytes) in
    let none = ap length c.new-text.ensures in
    omega arith
