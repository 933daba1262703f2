-- The first piece ends at the first separator, or is the whole text.
use Rattle.std.proofs.Common.{arith}
use Rattle.octets.proofs.Cuts.{pieces-parted, pieces-last}
use Rattle.octets.proofs.pieces.cut.Goals as goal

pub returns-then-size-text : goal.returns-then-size-text
returns-then-size-text c = pieces-last c.args.separator c.args.text.now (omega arith)

pub returns : goal.returns
returns c =
    pieces-parted c.args.separator c.args.text.now c.length_before-size.result c.length_before-size.ensures c.if-size-text.false
