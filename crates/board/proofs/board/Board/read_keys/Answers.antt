-- As the cells are read; as many cells count as there are requests.
use Rattle.std.proofs.Common.{length, sym, ap, ◌∙◌, arith}
use Rattle.rules.specs.ReadOff.{keys_listed}
use Rattle.reading.specs.Promises.{keys_answer, keys_after}
use Rattle.board.specs.Of.{board_state}
use Rattle.board.proofs.Places.{given-count}
use Rattle.board.proofs.board.Board.read_keys.Goals as goal

pub returns : goal.returns
returns g c =
    let b = c.args.self.now in
    let s = board_state g.K.Key g.T.Tally b in
    let count = sym (given-count g.K.Key g.T.Tally b (omega arith)) in
    record {
      answer = λ rise. c.read_keys.ensures.answer b.desks rise ∙ ap (keys_answer (length (keys_listed s)) (length c.args.row.now) (length c.args.work.now)) count;
      after = λ rise. c.read_keys.ensures.after b.desks rise ∙ ap (keys_after g.K.Key.parts (keys_listed s) c.args.row.now (length c.args.work.now)) count;
      kept = c.read_keys.ensures.kept;
    }
