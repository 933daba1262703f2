-- After all eight every unfinished request is counted.
use Rattle.std.proofs.Common.{◌≡◌, ap, ◌∙◌, rules}
use Rattle.std.specs.Slice.Iter.{iter_rest}
use Rattle.std.proofs.lemmas.Iterator.{YieldsList-from_slice}
use Rattle.std.proofs.lemmas.Iterator.Consumers.{YieldsList-from_filter, count_from_yields_List}
use Rattle.requests.specs.declared.station.Station.{Station}
use Rattle.rules.specs.Sound.{Sound}
use Rattle.board.specs.Of.{board_state}
use Rattle.queues.specs.Finishing.{unfinished_held, unfinished_in}
use Rattle.queues.proofs.Counts.{count_of_all}
use Rattle.queues.proofs.Holders.{held_unfinished, none_unfinished}
use Rattle.queues.proofs.finishing.unfinished.Goals as goal

pub returns : goal.returns
returns g c =
    let s = board_state g.K.Key g.T.Tally c.args.board.now in
    let counted : Sound s → c.count.result ≡ unfinished_in s = λ h.
    count_of_all (unfinished_held s) c.all.result c.all.ensures c.count.result
    (count_from_yields_List c.filter.result c.count.result c.count.ensures.ran
    (YieldsList-from_filter _ (λ (v : Station). unfinished_held s v.number) (YieldsList-from_slice c.all.result (ap iter_rest c.filter.ensures.source ∙ c.iter.ensures.rest)) c.filter.ensures.closure (λ x b q k. search rules)))
    ∙ held_unfinished s h in
    record { counted = counted; none = λ h. none_unfinished s c.count.result (counted h) }
