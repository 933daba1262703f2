-- Five bytes make a route where their class is one and their numbers are signals.
use Rattle.std.proofs.Common.{◌∙◌, arith}
use Rattle.stored.specs.RouteBytesLemmas.{route_got-class, route_got-none}
use Rattle.stored.proofs.route.RouteStoredKey.get.Goals as goal

pub returns : goal.returns
returns c =
    c.new.ensures ∙ route_got-class c.args.row.now c.in-len5-up.len_at_least c.from_be_bytes-entry.result c.from_be_bytes-exit.result c.in_ok-try_from.field-0 (omega (arith, c.type_inv.row 1)) (omega (arith, c.type_inv.row 3)) c.from_be_bytes-entry.ensures c.from_be_bytes-exit.ensures c.in_ok-try_from.ensures

pub returns-in_err-try_from : goal.returns-in_err-try_from
returns-in_err-try_from c =
    let told = c.in_err-try_from.ensures in
    let none = route_got-none c.args.row.now c.in-len5-up.len_at_least told.1 in
    let both = c.from_residual.ensures in
    grind (arith, told.0, none, both)
