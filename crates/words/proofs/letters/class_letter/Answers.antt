-- The one byte is a letter or none.
use Rattle.std.proofs.Common.{◌∙◌, subst, arith}
use Rattle.keys.specs.Classes.{ClassOfLetter}
use Rattle.words.proofs.Marks.{letter_by}
use Rattle.words.proofs.letters.class_letter.Goals as goal

pub returns : goal.returns
returns c =
    let letter = subst (λ l. ClassOfLetter l c.try_from.result) c.from.ensures c.try_from.ensures in
    c.ok.ensures.value ∙ letter_by c.args.word.now c.try_from.result (omega arith) letter
