-- The least of what the eight hold is the head.
use Rattle.std.proofs.Common.{min, ap, ◌∙◌, rules}
use Rattle.std.specs.Slice.Iter.{iter_rest}
use Rattle.std.proofs.lemmas.Iterator.{YieldsList-from_slice}
use Rattle.std.proofs.lemmas.Iterator.Consumers.{YieldsList-from_filter_map, min_from_yields_List}
use Rattle.requests.specs.declared.station.Station.{Station}
use Rattle.board.specs.Of.{board_state}
use Rattle.queues.specs.Held.{held_at}
use Rattle.queues.proofs.Choosing.{chosen_of_all}
use Rattle.queues.proofs.Firsts.{held-heads}
use Rattle.queues.proofs.heads.head.Goals as goal

pub returns : goal.returns
returns g c = λ h.
    let s = board_state g.K.Key g.T.Tally c.args.board.now in
    chosen_of_all min (held_at s c.args.place) c.all.result c.all.ensures c.min.result
    (min_from_yields_List c.filter_map.result c.min.result c.min.ensures.ran
    (YieldsList-from_filter_map _ (λ (v : Station). held_at s c.args.place v.number) (YieldsList-from_slice c.all.result (ap iter_rest c.filter_map.ensures.source ∙ c.iter.ensures.rest)) c.filter_map.ensures.closure (λ x r q k. search rules)))
    ∙ held-heads s h c.args.place
