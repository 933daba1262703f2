-- A count at the gate, and at a place by the table of modes.
use Rattle.std.proofs.Common.{false, sym, ap, ◌∙◌, inl}
use Rattle.rules.specs.declared.mode.Mode.TheVariants.{Between, From, Upto}
use Rattle.rules.specs.Kinds.{kinds_of, before}
use Rattle.rules.specs.Moves.{on_left, on_right, count_steps}
use Rattle.moving.proofs.Counted.{counted-gate, counted_one, counted_fork, counted_added}
use Rattle.moving.proofs.counting.count_at.Goals as goal

pub returns-then-place-eq0 : goal.returns-then-place-eq0
returns-then-place-eq0 g c =
    let b = c.args.board.now in
    record {
      after = λ num may. counted-gate g.K.Key g.T.Tally b c.show.new.board c.args.number c.args.place c.args.span.lo c.args.span.hi c.args.mode c.gate-gate.result c.if-place-eq0.true c.gate-gate.ensures num may c.show.ensures.after;
      row = c.show.ensures.row;
    }

pub returns-then-at_most : goal.returns-then-at_most
returns-then-at_most g c =
    let b = c.args.board.now in
    record {
      after = λ num may. counted_one g.K.Key g.T.Tally b c.args.number c.args.place c.args.span.lo c.args.span.hi c.in-Some.split c.args.mode c.if-place-eq0.false (sym c.split.ensures ∙ c.in-Some.is) num may c.show-then-at_most.new.board on_right Between c.slot-right.result c.slot-right.ensures (inl (sym c.in-Between.is)) (ap (λ v. count_steps v (g.K.Key.le c.in-Some.split c.args.span.lo) (before (kinds_of g.K.Key g.T.Tally) c.args.span.hi c.in-Some.split)) c.in-Between.is ∙ ap (λ v. count_steps Between v (before (kinds_of g.K.Key g.T.Tally) c.args.span.hi c.in-Some.split)) (sym c.at_most.ensures ∙ c.if-at_most.true)) c.show-then-at_most.ensures.after;
      row = c.show-then-at_most.ensures.row;
    }

pub returns-then-is_below : goal.returns-then-is_below
returns-then-is_below g c =
    let b = c.args.board.now in
    record {
      after = λ num may. counted_one g.K.Key g.T.Tally b c.args.number c.args.place c.args.span.lo c.args.span.hi c.in-Some.split c.args.mode c.if-place-eq0.false (sym c.split.ensures ∙ c.in-Some.is) num may c.show-then-is_below.new.board on_left Between c.slot-left.result c.slot-left.ensures (inl (sym c.in-Between.is)) (ap (λ v. count_steps v (g.K.Key.le c.in-Some.split c.args.span.lo) (before (kinds_of g.K.Key g.T.Tally) c.args.span.hi c.in-Some.split)) c.in-Between.is ∙ ap (λ v. count_steps Between v (before (kinds_of g.K.Key g.T.Tally) c.args.span.hi c.in-Some.split)) (sym c.at_most.ensures ∙ c.if-at_most.false) ∙ ap (count_steps Between false) (sym c.is_below.ensures ∙ c.if-is_below.true)) c.show-then-is_below.ensures.after;
      row = c.show-then-is_below.ensures.row;
    }

pub returns-else-is_below : goal.returns-else-is_below
returns-else-is_below g c =
    let b = c.args.board.now in
    record {
      after = λ num may. counted_fork g.K.Key g.T.Tally b c.args.number c.args.place c.args.span.lo c.args.span.hi c.in-Some.split c.args.mode c.if-place-eq0.false (sym c.split.ensures ∙ c.in-Some.is) num may c.show-else-is_below.new.board c.show-else-is_below-2.new.board c.slot-left.result c.slot-right.result c.slot-left.ensures c.slot-right.ensures c.in-Between.is
          (ap (λ v. count_steps v (g.K.Key.le c.in-Some.split c.args.span.lo) (before (kinds_of g.K.Key g.T.Tally) c.args.span.hi c.in-Some.split)) c.in-Between.is ∙ ap (λ v. count_steps Between v (before (kinds_of g.K.Key g.T.Tally) c.args.span.hi c.in-Some.split)) (sym c.at_most.ensures ∙ c.if-at_most.false) ∙ ap (count_steps Between false) (sym c.is_below.ensures ∙ c.if-is_below.false))
          c.show-else-is_below.ensures.after c.show-else-is_below-2.ensures.after;
      row = c.show-else-is_below-2.ensures.row ∙ c.show-else-is_below.ensures.row;
    }

pub returns-then-at_most-2 : goal.returns-then-at_most-2
returns-then-at_most-2 g c =
    let b = c.args.board.now in
    record {
      after = λ num may. counted_one g.K.Key g.T.Tally b c.args.number c.args.place c.args.span.lo c.args.span.hi c.in-Some.split c.args.mode c.if-place-eq0.false (sym c.split.ensures ∙ c.in-Some.is) num may c.show-then-at_most-2.new.board on_right From c.slot-right.result c.slot-right.ensures (inl (sym c.in-From.is)) (ap (λ v. count_steps v (g.K.Key.le c.in-Some.split c.args.span.lo) (before (kinds_of g.K.Key g.T.Tally) c.args.span.hi c.in-Some.split)) c.in-From.is ∙ ap (λ v. count_steps From v (before (kinds_of g.K.Key g.T.Tally) c.args.span.hi c.in-Some.split)) (sym c.at_most-in-From.ensures ∙ c.if-at_most-2.true)) c.show-then-at_most-2.ensures.after;
      row = c.show-then-at_most-2.ensures.row;
    }

pub returns-else-at_most-2 : goal.returns-else-at_most-2
returns-else-at_most-2 g c =
    let b = c.args.board.now in
    record {
      after = λ num may. counted_added g.K.Key g.T.Tally b c.args.number c.args.place c.args.span.lo c.args.span.hi c.in-Some.split c.args.mode c.if-place-eq0.false (sym c.split.ensures ∙ c.in-Some.is) num may c.add.new.self c.show-else-at_most-2.new.board on_right on_left From c.slot-right.result c.slot-left.result c.whole-whole.result c.slot-right.ensures c.slot-left.ensures (sym c.in-From.is)
          (ap (λ v. count_steps v (g.K.Key.le c.in-Some.split c.args.span.lo) (before (kinds_of g.K.Key g.T.Tally) c.args.span.hi c.in-Some.split)) c.in-From.is ∙ ap (λ v. count_steps From v (before (kinds_of g.K.Key g.T.Tally) c.args.span.hi c.in-Some.split)) (sym c.at_most-in-From.ensures ∙ c.if-at_most-2.false))
          c.whole-whole.ensures c.add.ensures.after c.show-else-at_most-2.ensures.after;
      row = c.show-else-at_most-2.ensures.row ∙ c.add.ensures.row;
    }

pub returns-then-is_below-2 : goal.returns-then-is_below-2
returns-then-is_below-2 g c =
    let b = c.args.board.now in
    record {
      after = λ num may. counted_one g.K.Key g.T.Tally b c.args.number c.args.place c.args.span.lo c.args.span.hi c.in-Some.split c.args.mode c.if-place-eq0.false (sym c.split.ensures ∙ c.in-Some.is) num may c.show-then-is_below-2.new.board on_left Upto c.slot-left.result c.slot-left.ensures (inl (sym c.in-Upto.is))
          (ap (λ v. count_steps v (g.K.Key.le c.in-Some.split c.args.span.lo) (before (kinds_of g.K.Key g.T.Tally) c.args.span.hi c.in-Some.split)) c.in-Upto.is ∙ ap (count_steps Upto (g.K.Key.le c.in-Some.split c.args.span.lo)) (sym c.is_below-in-Upto.ensures ∙ c.if-is_below-2.true))
          c.show-then-is_below-2.ensures.after;
      row = c.show-then-is_below-2.ensures.row;
    }

pub returns-else-is_below-2 : goal.returns-else-is_below-2
returns-else-is_below-2 g c =
    let b = c.args.board.now in
    record {
      after = λ num may. counted_added g.K.Key g.T.Tally b c.args.number c.args.place c.args.span.lo c.args.span.hi c.in-Some.split c.args.mode c.if-place-eq0.false (sym c.split.ensures ∙ c.in-Some.is) num may c.add-else-is_below-2.new.self c.show-else-is_below-2-2.new.board on_left on_right Upto c.slot-left.result c.slot-right.result c.whole-whole-else-is_below-2.result c.slot-left.ensures c.slot-right.ensures (sym c.in-Upto.is)
          (ap (λ v. count_steps v (g.K.Key.le c.in-Some.split c.args.span.lo) (before (kinds_of g.K.Key g.T.Tally) c.args.span.hi c.in-Some.split)) c.in-Upto.is ∙ ap (count_steps Upto (g.K.Key.le c.in-Some.split c.args.span.lo)) (sym c.is_below-in-Upto.ensures ∙ c.if-is_below-2.false))
          c.whole-whole-else-is_below-2.ensures c.add-else-is_below-2.ensures.after c.show-else-is_below-2-2.ensures.after;
      row = c.show-else-is_below-2-2.ensures.row ∙ c.add-else-is_below-2.ensures.row;
    }
