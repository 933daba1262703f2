-- The greatest of those that the eight hold with a word.
use Rattle.std.proofs.Common.{max, ap, ◌∙◌, rules}
use Rattle.std.specs.Slice.Iter.{iter_rest}
use Rattle.std.proofs.lemmas.Iterator.{YieldsList-from_slice}
use Rattle.std.proofs.lemmas.Iterator.Consumers.{YieldsList-from_filter_map, max_from_yields_List}
use Rattle.requests.specs.declared.station.Station.{Station}
use Rattle.rules.specs.Kinds.{kinds_of}
use Rattle.board.specs.Of.{board_state}
use Rattle.queues.specs.Words.{word_held}
use Rattle.queues.proofs.Choosing.{chosen_of_all}
use Rattle.queues.proofs.words.last_held.Goals as goal

pub returns : goal.returns
returns g c =
    let held = word_held (kinds_of g.K.Key g.T.Tally) (board_state g.K.Key g.T.Tally c.args.board.now) c.args.key c.args.place in
    chosen_of_all max held c.all.result c.all.ensures c.max.result
    (max_from_yields_List c.filter_map.result c.max.result c.max.ensures.ran
    (YieldsList-from_filter_map _ (λ (v : Station). held v.number) (YieldsList-from_slice c.all.result (ap iter_rest c.filter_map.ensures.source ∙ c.iter.ensures.rest)) c.filter_map.ensures.closure (λ x r q k. search rules)))
