-- No line, one alone, or one before others.
use Rattle.std.proofs.Common.{◌<◌, length, arith}
use Rattle.std.proofs.lemmas.List.{length-take, length-drop}
use Rattle.route_count.proofs.Fronts.{no_line, last_line, first_line}
use Rattle.route_count.proofs.lines.first_line.Goals as goal

pub returns-then-is_empty : goal.returns-then-is_empty
returns-then-is_empty c =
    let empty = c.if-is_empty.ensures in
    record { answer = no_line c.args.text.now (grind arith); bound = tt }

pub returns-then-size-text : goal.returns-then-size-text
returns-then-size-text c =
    let full = c.if-is_empty.ensures in
    let some : 0 < length c.args.text.now = grind arith in
    record { answer = last_line c.args.text.now some (omega arith); bound = simp (length-take, length-drop) (omega arith) }

pub returns : goal.returns
returns c =
    record { answer = first_line c.args.text.now c.length_before-size.result c.length_before-size.ensures (omega arith); bound = simp (length-take, length-drop) (omega arith) }
