-- The front, as a part of the whole.
use Rattle.std.proofs.Common.{take, ap, ◌∙◌, arith}
use Rattle.std.proofs.lemmas.Grind.{common_steps}
use Rattle.octets.proofs.Fronts.{up_to_front, up_to-short}
use Rattle.octets.proofs.runs.before.Goals as goal

pub slice_bounds-result-end : goal.slice_bounds-result-end
slice_bounds-result-end c = grind (arith, common_steps, up_to-short c.args.stop c.args.bytes.now)

pub returns : goal.returns
returns c =
    let bytes = c.args.bytes.now in
    ap (λ n. take n bytes) c.length_before.ensures ∙ up_to_front c.args.stop bytes
