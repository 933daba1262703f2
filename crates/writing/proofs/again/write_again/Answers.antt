-- The rows' file is the archive.
use Rattle.std.proofs.Common.{◌∙◌}
use Rattle.writing.proofs.FileAgain.{again_answer, again_after, again_short}
use Rattle.writing.proofs.again.write_again.Goals as goal

pub returns : goal.returns
returns g c =
    let keys = g.K.StoredKey.form in
    let tallies = g.T.StoredTally.form in
    let bytes = c.args.archive.now.bytes.now in
    record {
      told = c.write.ensures.answer;
      left = c.write.ensures.after;
      kept = c.write.ensures.kept;
      answer = λ rows o room. c.write.ensures.answer rows o ∙ again_answer keys tallies bytes c.args.buffer.now rows o.file room;
      after = λ rows o room. c.write.ensures.after rows o ∙ again_after keys tallies bytes c.args.buffer.now rows o.file room;
      short = λ rows o few. c.write.ensures.answer rows o ∙ again_short keys tallies bytes c.args.buffer.now rows o.file few;
    }
