-- The further facts of every register. Rests on FactsQueues, FactsPlaces and FactsFinished.
use Rattle.rules.specs.Kinds.{Kinds, Lawful}
use Rattle.rules.specs.Calls.{run}
use Rattle.rules.specs.Facts.{RegisterFacts}
use Rattle.rules.proofs.Instance.{stepper}
use Rattle.rules.proofs.Runs.{run_holds, own_requests}
use Rattle.rules.proofs.FactsQueues.{queues_rise, places_older}
use Rattle.rules.proofs.FactsPlaces.{one_place}
use Rattle.rules.proofs.FactsFinished.{finished_stays}

pub register_facts : {K T : Type 0} (w : Kinds K T) (l : Lawful w) → RegisterFacts w
register_facts w l cells cs =
    let s = run w cells cs in
    let held = run_holds w (stepper w l) cells cs in
    let own = own_requests w s held in (
      queues_rise w s.requests s own.0 own.1 own.2,
      places_older w s.requests s own.0 own.1 own.2,
      one_place w s own.0 own.1 own.2,
      finished_stays w l s held,
    )
