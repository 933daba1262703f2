-- Down, at the end, or back.
use Rattle.std.proofs.Common.{◌+◌, ◌-◌, ◌<◌, ◌∷◌, get_or, set, sym, refl, ap, ◌∙◌, subst, arith}
use Rattle.reading.specs.Walks.{to_come, Stands}
use Rattle.reading.proofs.Steps.{down-visits, down-stands, last_visit, back_visits, back_stands}
use Rattle.reading.proofs.walk.step.Goals as goal

pub returns-in-Place : goal.returns-in-Place
returns-in-Place g c =
    let live = c.args.live.now in
    let work = c.args.work.now in
    let at = c.args.walk.at in
    let depth = c.args.walk.depth in
    let p = c.in-Place.p in
    record {
      visits = down-visits live work depth at c.requires p c.in-Place.is ∙ ap (λ x. at ∷ to_come live (set work depth p) (depth + 1) x) (sym c.slot_of.ensures);
      stands = subst (λ x. Stands live (set work depth p) (depth + 1) x) (sym c.slot_of.ensures) (down-stands live work depth at c.requires p c.in-Place.is);
    }

pub returns-then-walk-eq0 : goal.returns-then-walk-eq0
returns-then-walk-eq0 g c = record {
  visits = last_visit c.args.live.now c.args.work.now c.args.walk.depth c.args.walk.at c.requires c.in_default.not-Place c.if-walk-eq0.true;
  stands = tt;
}

pub returns : goal.returns
returns g c =
    let live = c.args.live.now in
    let work = c.args.work.now in
    let at = c.args.walk.at in
    let depth = c.args.walk.depth in
    let some : 0 < depth = let ne = c.if-walk-eq0.false in omega arith in
    record {
      visits = back_visits live work depth at c.requires c.in_default.not-Place some (get_or work (depth - 1) 0) refl ∙ ap (λ x. at ∷ to_come live work (depth - 1) x) (sym c.slot_of-2.ensures);
      stands = subst (λ x. Stands live work (depth - 1) x) (sym c.slot_of-2.ensures) (back_stands live work depth at c.requires c.in_default.not-Place some (get_or work (depth - 1) 0) refl);
    }
