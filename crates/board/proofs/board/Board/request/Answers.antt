-- The request of the cell, by its kind.
use Rattle.std.proofs.Common.{◌≡◌, take, Some, sym, ap, ap₂, ◌∙◌}
use Rattle.requests.specs.declared.request.Request.TheVariants.{Enter, Withdraw, LookUp, Count}
use Rattle.cells.specs.Views.{asked_by, request_in}
use Rattle.board.proofs.Parts.{row_none, row_some}
use Rattle.board.proofs.board.Board.request.Goals as goal
use Rattle.board.proofs.board.Board.request.Goals.{in-Enter, in-Withdraw, in-LookUp, in-Count}

pub returns-in_err-cell : goal.returns-in_err-cell
returns-in_err-cell g c =
    let b = c.args.self.now in
    c.from_residual.ensures ∙ row_none (request_in g.K.Key g.T.Tally) (take b.count b.cells.now) c.args.number (sym c.in_err-cell.ensures)

pub returns : goal.returns
returns g c =
    let b = c.args.self.now in
    let x = c.in_ok-cell.cell.now in
    let first = c.from_fields-first.ensures in
    let asked : c.match-cell.result ≡ request_in g.K.Key g.T.Tally x =
    elim c.match-cell.branch [
      | in-Enter w ↦ w.result-is ∙ ap Enter first ∙ ap (λ v. asked_by g.K.Key g.T.Tally v x.first x.second) (sym w.in-Enter.is)
      | in-Withdraw w ↦ w.result-is ∙ ap Withdraw first ∙ ap (λ v. asked_by g.K.Key g.T.Tally v x.first x.second) (sym w.in-Withdraw.is)
      | in-LookUp w ↦ w.result-is ∙ ap LookUp first ∙ ap (λ v. asked_by g.K.Key g.T.Tally v x.first x.second) (sym w.in-LookUp.is)
      | in-Count w ↦ w.result-is ∙ ap₂ Count first w.from_fields.ensures ∙ ap (λ v. asked_by g.K.Key g.T.Tally v x.first x.second) (sym w.in-Count.is)
    ] in
    ap Some asked ∙ row_some (request_in g.K.Key g.T.Tally) (take b.count b.cells.now) c.args.number x (sym c.in_ok-cell.ensures)
