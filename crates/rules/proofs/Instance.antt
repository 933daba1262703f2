-- The single steps of the rules keep the invariant: the interface supplied. Rests on Keeps, Submits, Descents, Passing and Tells.
use Rattle.rules.specs.Kinds.{Kinds, Lawful}
use Rattle.rules.proofs.Interface.{Stepper}
use Rattle.rules.proofs.Keeps.{opens, desks, decides}
use Rattle.rules.proofs.Submits.{submits}
use Rattle.rules.proofs.Descents.{moves_tree}
use Rattle.rules.proofs.Passing.{moves_gate}
use Rattle.rules.proofs.Tells.{reads_gate, reads_walk}

pub stepper : {K T : Type 0} (w : Kinds K T) → Lawful w → Stepper w
stepper w l = record {
  opens = opens w l;
  submits = submits w l;
  desks = desks w;
  decides = decides w;
  moves_tree = moves_tree w l;
  moves_gate = moves_gate w l;
  reads_gate = reads_gate w l;
  reads_walk = reads_walk w l;
}
