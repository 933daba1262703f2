-- The numbers written are the tally's.
use Rattle.std.proofs.Common.{◌∙◌}
use Rattle.std.proofs.lemmas.Result.{IfOk-weaker}
use Rattle.route_count.proofs.Pages.{totals_written, totals_same}
use Rattle.route_count.proofs.reports.totals.Goals as goal

pub returns : goal.returns
returns c =
    let same = totals_same _ _ _ _ _ _ _ _ _ _ c.value-routes.ensures c.count-m.ensures c.count-w.ensures c.count-c.ensures c.count-s.ensures in
    IfOk-weaker c.format.result _ _ (λ s h. h ∙ (totals_written _ _ _ _ _ ∙ same)) c.format.ensures.ok
