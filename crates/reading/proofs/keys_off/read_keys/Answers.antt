-- The keys of the state shown, counted and written.
use Rattle.std.proofs.Common.{length, sym, refl, ap, ◌∙◌, arith, length-take}
use Rattle.reading.specs.Walks.{firsts_under}
use Rattle.reading.proofs.Promised.{short-answer, short-after, read_answer, read-after, over_past}
use Rattle.reading.proofs.keys_off.read_keys.Goals as goal

pub returns-then-work-count : goal.returns-then-work-count
returns-then-work-count g c = record {
  answer = λ desks r. short-answer g.K.Key g.T.Tally c.args.cells.now c.args.count c.args.gate desks c.args.row.now (length c.args.work.now) r c.if-work-count.true;
  after = λ desks r. short-after g.K.Key g.T.Tally c.args.cells.now c.args.count c.args.gate desks c.args.row.now (length c.args.work.now) r c.if-work-count.true;
  kept = λ e is. refl;
}

pub read_live-requires : goal.read_live-requires
read_live-requires g c = omega (arith, ap length c.live_cells.ensures, length-take c.args.count c.args.cells.now)

pub returns : goal.returns
returns g c = record {
  answer = λ desks r. read_answer g.K.Key g.T.Tally c.args.cells.now c.args.count c.args.gate desks c.args.row.now (length c.args.work.now) r c.live_cells.result.now c.live_cells.ensures c.if-work-count.false c.read_live.result c.read_live.ensures.answer;
  after = λ desks r. read-after g.K.Key g.T.Tally c.args.cells.now c.args.count c.args.gate desks c.args.row.now (length c.args.work.now) r c.live_cells.result.now c.live_cells.ensures c.if-work-count.false c.read_live.new.row c.read_live.ensures.after;
  kept = λ e is.
      c.read_live.ensures.after
      ∙ sym (over_past (λ f. g.K.Key.parts (g.K.Key.made f)) (firsts_under c.live_cells.result.now c.args.gate) c.args.row.now e (sym is ∙ c.read_live.ensures.answer));
}
