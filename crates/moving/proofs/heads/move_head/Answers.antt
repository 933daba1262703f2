-- Each kind of request leaves the queue, and then does what it is to do.
use Rattle.std.proofs.Common.{◌≡◌, true, false, cond, Some, sym, refl, ap, ◌∙◌, subst}
use Rattle.requests.specs.declared.answer.Answer.TheVariants.{Unchanged, Present, Absent}
use Rattle.requests.specs.declared.request.Request.TheVariants.{Enter, Withdraw, LookUp, Count}
use Rattle.rules.specs.Changes.{with_answer}
use Rattle.rules.specs.Kinds.{kinds_of}
use Rattle.rules.specs.Moves.{enter_at, withdraw_at, count_at, slot_for}
use Rattle.rules.specs.Queues.{numbered}
use Rattle.board.specs.Of.{board_state}
use Rattle.moving.specs.Movable.{Counts}
use Rattle.moving.proofs.Freed.{may_count}
use Rattle.moving.proofs.Moved.{left, has_left, still_given, passes, answers, acts, present_as, by_decision, for_head}
use Rattle.moving.proofs.heads.move_head.Goals as goal

pub returns-in-Enter : goal.returns-in-Enter
returns-in-Enter g c =
    let b = c.args.board.now in
    record {
      after = λ sound e q line is mode num.
          let r = Enter c.in-Enter.field-0 in
          let own : numbered (board_state g.K.Key g.T.Tally b).requests c.args.number ≡ Some r = num ∙ ap Some c.in-Enter.is in
          let gone = has_left g.K.Key g.T.Tally b c.args.number c.args.place e q line is r own c.leave.new.self c.leave.ensures.after in
          acts g.K.Key g.T.Tally b c.args.number c.args.place e q line is r own c.args.request c.in-Enter.is (board_state g.K.Key g.T.Tally c.answer.new.self)
          (by_decision g.K.Key g.T.Tally b c.args.number c.args.place e q line is r own c.decision.result c.decision.ensures true (sym c.unwrap_or-present.ensures ∙ c.if-present.true) (board_state g.K.Key g.T.Tally c.answer.new.self) _ _
          (answers g.K.Key g.T.Tally b c.args.number c.args.place e q line is r own c.leave.new.self c.answer.new.self Unchanged gone c.answer.ensures.after));
      row = c.answer.ensures.row ∙ c.leave.ensures.row;
    }

pub returns-in-Enter-2 : goal.returns-in-Enter-2
returns-in-Enter-2 g c =
    let b = c.args.board.now in
    record {
      after = λ sound e q line is mode num.
          let r = Enter c.in-Enter-2.key in
          let own : numbered (board_state g.K.Key g.T.Tally b).requests c.args.number ≡ Some r = num ∙ ap Some c.in-Enter-2.is in
          let gone = has_left g.K.Key g.T.Tally b c.args.number c.args.place e q line is r own c.leave.new.self c.leave.ensures.after in
          acts g.K.Key g.T.Tally b c.args.number c.args.place e q line is r own c.args.request c.in-Enter-2.is (board_state g.K.Key g.T.Tally c.enter.new.board)
          (by_decision g.K.Key g.T.Tally b c.args.number c.args.place e q line is r own c.decision.result c.decision.ensures false (sym c.unwrap_or-present.ensures ∙ c.if-present.false) (board_state g.K.Key g.T.Tally c.enter.new.board) _ _
          (for_head g.K.Key g.T.Tally b c.args.number c.args.place e q line is r own c.leave.new.self gone (λ z i. enter_at (kinds_of g.K.Key g.T.Tally) z i c.args.place c.in-Enter-2.key (slot_for (kinds_of g.K.Key g.T.Tally) z c.args.place c.in-Enter-2.key)) (board_state g.K.Key g.T.Tally c.enter.new.board)
          (c.enter.ensures.after (still_given g.K.Key g.T.Tally b c.args.number c.args.place e q line is r own c.leave.new.self gone) (passes g.K.Key g.T.Tally b c.args.number c.args.place e q line is r own sound refl c.in-Enter-2.key c.leave.new.self gone))));
      row = c.enter.ensures.row ∙ c.leave.ensures.row;
    }

pub returns-in-Withdraw : goal.returns-in-Withdraw
returns-in-Withdraw g c =
    let b = c.args.board.now in
    record {
      after = λ sound e q line is mode num.
          let r = Withdraw c.in-Withdraw.key in
          let own : numbered (board_state g.K.Key g.T.Tally b).requests c.args.number ≡ Some r = num ∙ ap Some c.in-Withdraw.is in
          let gone = has_left g.K.Key g.T.Tally b c.args.number c.args.place e q line is r own c.leave.new.self c.leave.ensures.after in
          acts g.K.Key g.T.Tally b c.args.number c.args.place e q line is r own c.args.request c.in-Withdraw.is (board_state g.K.Key g.T.Tally c.withdraw.new.board)
          (by_decision g.K.Key g.T.Tally b c.args.number c.args.place e q line is r own c.decision.result c.decision.ensures true (sym c.unwrap_or-present.ensures ∙ c.if-present-2.true) (board_state g.K.Key g.T.Tally c.withdraw.new.board) _ _
          (for_head g.K.Key g.T.Tally b c.args.number c.args.place e q line is r own c.leave.new.self gone (λ z i. withdraw_at (kinds_of g.K.Key g.T.Tally) z i c.args.place c.in-Withdraw.key (slot_for (kinds_of g.K.Key g.T.Tally) z c.args.place c.in-Withdraw.key)) (board_state g.K.Key g.T.Tally c.withdraw.new.board)
          (c.withdraw.ensures.after (still_given g.K.Key g.T.Tally b c.args.number c.args.place e q line is r own c.leave.new.self gone) (passes g.K.Key g.T.Tally b c.args.number c.args.place e q line is r own sound refl c.in-Withdraw.key c.leave.new.self gone))));
      row = c.withdraw.ensures.row ∙ c.leave.ensures.row;
    }

pub returns-in-Withdraw-2 : goal.returns-in-Withdraw-2
returns-in-Withdraw-2 g c =
    let b = c.args.board.now in
    record {
      after = λ sound e q line is mode num.
          let r = Withdraw c.in-Withdraw-2.field-0 in
          let own : numbered (board_state g.K.Key g.T.Tally b).requests c.args.number ≡ Some r = num ∙ ap Some c.in-Withdraw-2.is in
          let gone = has_left g.K.Key g.T.Tally b c.args.number c.args.place e q line is r own c.leave.new.self c.leave.ensures.after in
          acts g.K.Key g.T.Tally b c.args.number c.args.place e q line is r own c.args.request c.in-Withdraw-2.is (board_state g.K.Key g.T.Tally c.answer-in-Withdraw-2.new.self)
          (by_decision g.K.Key g.T.Tally b c.args.number c.args.place e q line is r own c.decision.result c.decision.ensures false (sym c.unwrap_or-present.ensures ∙ c.if-present-2.false) (board_state g.K.Key g.T.Tally c.answer-in-Withdraw-2.new.self) _ _
          (answers g.K.Key g.T.Tally b c.args.number c.args.place e q line is r own c.leave.new.self c.answer-in-Withdraw-2.new.self Unchanged gone c.answer-in-Withdraw-2.ensures.after));
      row = c.answer-in-Withdraw-2.ensures.row ∙ c.leave.ensures.row;
    }

pub returns-in-LookUp : goal.returns-in-LookUp
returns-in-LookUp g c =
    let b = c.args.board.now in
    record {
      after = λ sound e q line is mode num.
          let r = LookUp c.in-LookUp.field-0 in
          let own : numbered (board_state g.K.Key g.T.Tally b).requests c.args.number ≡ Some r = num ∙ ap Some c.in-LookUp.is in
          let gone = has_left g.K.Key g.T.Tally b c.args.number c.args.place e q line is r own c.leave.new.self c.leave.ensures.after in
          acts g.K.Key g.T.Tally b c.args.number c.args.place e q line is r own c.args.request c.in-LookUp.is (board_state g.K.Key g.T.Tally c.answer-in-LookUp.new.self)
          (answers g.K.Key g.T.Tally b c.args.number c.args.place e q line is r own c.leave.new.self c.answer-in-LookUp.new.self Present gone c.answer-in-LookUp.ensures.after
          ∙ ap (λ v. with_answer (left g.K.Key g.T.Tally b c.args.number c.args.place e q line is r own) e.number (cond v Present Absent)) (sym (present_as g.K.Key g.T.Tally b c.args.number c.args.place e q line is r own c.decision.result c.decision.ensures true (sym c.unwrap_or-present.ensures ∙ c.if-present-3.true))));
      row = c.answer-in-LookUp.ensures.row ∙ c.leave.ensures.row;
    }

pub returns-in-LookUp-2 : goal.returns-in-LookUp-2
returns-in-LookUp-2 g c =
    let b = c.args.board.now in
    record {
      after = λ sound e q line is mode num.
          let r = LookUp c.in-LookUp-2.field-0 in
          let own : numbered (board_state g.K.Key g.T.Tally b).requests c.args.number ≡ Some r = num ∙ ap Some c.in-LookUp-2.is in
          let gone = has_left g.K.Key g.T.Tally b c.args.number c.args.place e q line is r own c.leave.new.self c.leave.ensures.after in
          acts g.K.Key g.T.Tally b c.args.number c.args.place e q line is r own c.args.request c.in-LookUp-2.is (board_state g.K.Key g.T.Tally c.answer-in-LookUp-2.new.self)
          (answers g.K.Key g.T.Tally b c.args.number c.args.place e q line is r own c.leave.new.self c.answer-in-LookUp-2.new.self Absent gone c.answer-in-LookUp-2.ensures.after
          ∙ ap (λ v. with_answer (left g.K.Key g.T.Tally b c.args.number c.args.place e q line is r own) e.number (cond v Present Absent)) (sym (present_as g.K.Key g.T.Tally b c.args.number c.args.place e q line is r own c.decision.result c.decision.ensures false (sym c.unwrap_or-present.ensures ∙ c.if-present-3.false))));
      row = c.answer-in-LookUp-2.ensures.row ∙ c.leave.ensures.row;
    }

pub returns-in-Count : goal.returns-in-Count
returns-in-Count g c =
    let b = c.args.board.now in
    let s = board_state g.K.Key g.T.Tally b in
    let lo = c.in-Count.lo in
    let hi = c.in-Count.hi in
    record {
      after = λ sound e q line is mode num.
          let r = Count lo hi in
          let own : numbered (board_state g.K.Key g.T.Tally b).requests c.args.number ≡ Some r = num ∙ ap Some c.in-Count.is in
          let gone = has_left g.K.Key g.T.Tally b c.args.number c.args.place e q line is r own c.leave.new.self c.leave.ensures.after in
          let away = left g.K.Key g.T.Tally b c.args.number c.args.place e q line is r own in
          let many : Counts (board_state g.K.Key g.T.Tally c.leave.new.self) c.args.number c.args.place c.args.mode =
          subst (λ z. Counts z c.args.number c.args.place c.args.mode) (sym gone)
          (subst (λ i. Counts away i c.args.place c.args.mode) is
          (subst (Counts away e.number c.args.place) mode (may_count (kinds_of g.K.Key g.T.Tally) s sound c.args.place e q line lo hi (ap (numbered s.requests) is ∙ own)))) in
          acts g.K.Key g.T.Tally b c.args.number c.args.place e q line is r own c.args.request c.in-Count.is (board_state g.K.Key g.T.Tally c.count_at.new.board)
          (for_head g.K.Key g.T.Tally b c.args.number c.args.place e q line is r own c.leave.new.self gone (λ z i. count_at (kinds_of g.K.Key g.T.Tally) z i c.args.place lo hi c.args.mode) (board_state g.K.Key g.T.Tally c.count_at.new.board)
          (c.count_at.ensures.after (still_given g.K.Key g.T.Tally b c.args.number c.args.place e q line is r own c.leave.new.self gone) many)
          ∙ ap (count_at (kinds_of g.K.Key g.T.Tally) away e.number c.args.place lo hi) (sym mode));
      row = c.count_at.ensures.row ∙ c.leave.ensures.row;
    }
