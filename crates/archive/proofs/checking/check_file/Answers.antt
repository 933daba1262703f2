-- The layers' faults one after the other.
use Rattle.std.proofs.Common.{sym, ◌∙◌, arith}
use Rattle.archive.proofs.Reading.{requests_first, answers_first, none_first}
use Rattle.archive.proofs.checking.check_file.Goals as goal

pub returns-in_err-check_requests : goal.returns-in_err-check_requests
returns-in_err-check_requests g c =
    let known = c.in_ok-layout.ensures in
    let first = requests_first g.K.StoredKey.form g.T.StoredTally.form c.args.bytes.now c.in_ok-layout.layout.rows c.answers_start-start.result known.0 known.1.0 c.answers_start-start.ensures c.in_err-check_requests.field-0.0 (sym c.check_requests.ensures ∙ c.in_err-check_requests.was) in
    let given = c.from_residual-in_err-check_requests.ensures in
    grind (arith, first, given)

pub returns-in_err-check_answers : goal.returns-in_err-check_answers
returns-in_err-check_answers g c =
    let known = c.in_ok-layout.ensures in
    let first = answers_first g.K.StoredKey.form g.T.StoredTally.form c.args.bytes.now c.in_ok-layout.layout.rows c.answers_start-start.result known.0 known.1.0 c.answers_start-start.ensures (sym c.check_requests.ensures ∙ c.in_ok-check_requests.was) c.in_err-check_answers.field-0.0 (sym c.check_answers.ensures ∙ c.in_err-check_answers.was) in
    let given = c.from_residual-in_err-check_answers.ensures in
    grind (arith, first, given)

pub returns : goal.returns
returns g c =
    let known = c.in_ok-layout.ensures in
    (none_first g.K.StoredKey.form g.T.StoredTally.form c.args.bytes.now c.in_ok-layout.layout.rows c.answers_start-start.result known.0 known.1.0 c.answers_start-start.ensures (sym c.check_requests.ensures ∙ c.in_ok-check_requests.was) (sym c.check_answers.ensures ∙ c.in_ok-check_answers.was), known.1.0)
