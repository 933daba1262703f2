-- The three laws of every register. Rests on Finals, Service and Listing.
use Rattle.rules.specs.Kinds.{Kinds, Lawful}
use Rattle.rules.specs.Calls.{run}
use Rattle.rules.specs.Laws.{RegisterLaws}
use Rattle.rules.proofs.Instance.{stepper}
use Rattle.rules.proofs.Runs.{run_holds, own_requests}
use Rattle.rules.proofs.Finals.{answers-plain}
use Rattle.rules.proofs.Service.{run_service_ends}
use Rattle.rules.proofs.Listing.{reading_plain}

pub register_laws : {K T : Type 0} (w : Kinds K T) → Lawful w → RegisterLaws w
register_laws w l cells cs =
    let held = run_holds w (stepper w l) cells cs in
    let own = own_requests w (run w cells cs) held in (
      answers-plain w l (run w cells cs) own.0 own.1 own.2,
      run_service_ends w (stepper w l) cells cs,
      reading_plain w l (run w cells cs) own.0 own.1 own.2,
    )
