-- The last request with a word has the last.
use Rattle.std.proofs.Common.{ap, ◌∙◌}
use Rattle.rules.specs.Kinds.{kinds_of}
use Rattle.board.specs.Of.{board_state}
use Rattle.queues.proofs.Lasts.{word_of, held_words}
use Rattle.queues.proofs.words.last_word.Goals as goal

pub returns-in_err-last_held : goal.returns-in_err-last_held
returns-in_err-last_held g c = λ h.
    let s = board_state g.K.Key g.T.Tally c.args.board.now in
    let w = kinds_of g.K.Key g.T.Tally in
    c.from_residual.ensures ∙ ap (word_of w s c.args.key c.args.place) c.in_err-last_held.ensures ∙ held_words w s c.args.key c.args.place h

pub returns : goal.returns
returns g c = λ h.
    let s = board_state g.K.Key g.T.Tally c.args.board.now in
    let w = kinds_of g.K.Key g.T.Tally in
    c.word_on.ensures ∙ ap (word_of w s c.args.key c.args.place) c.in_ok-last_held.ensures ∙ held_words w s c.args.key c.args.place h
