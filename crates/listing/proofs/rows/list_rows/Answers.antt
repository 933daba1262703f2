-- One line more, and the last.
use Rattle.std.proofs.Common.{◌≡◌, ◌+◌, [], Ok, string_bytes, sym, ap, ◌∙◌, arith}
use Rattle.std.proofs.lemmas.List.{append-nil}
use Rattle.listing.specs.RowTexts.{row_line}
use Rattle.listing.proofs.Lines.{line_more, lines_all}
use Rattle.listing.proofs.rows.list_rows.Goals.{in-Ok+in_ok-line+in_ok-push_str, in_default}
use Rattle.listing.proofs.rows.list_rows.Goals as goal

pub loop-i-preserved : goal.loop-i-preserved
loop-i-preserved g c =
    λ rows o.
    elim c.match-read.branch [
      | in-Ok+in_ok-line+in_ok-push_str w ↦ line_more g.K.PrintedKey.text g.T.PrintedTally.text rows c.loop-i.i c.read.result (string_bytes c.loop-i.written) (string_bytes c.match-read.written) w.as_str.result.now (omega (arith, o.counted, c.count-count.ensures.rows)) (c.read.ensures rows o) (λ v e. let both : Ok w.in-Ok.row ≡ Ok v = sym w.in-Ok.is ∙ e in let same : w.in-Ok.row ≡ v = cc in w.as_str.ensures.value ∙ w.in_ok-line.ensures ∙ ap (row_line g.K.PrintedKey.text g.T.PrintedTally.text (c.loop-i.i + 1)) same) (ap string_bytes w.written-is ∙ w.in_ok-push_str.ensures.bytes) (c.loop-i.invariant rows o)
      | in_default w ↦ line_more g.K.PrintedKey.text g.T.PrintedTally.text rows c.loop-i.i c.read.result (string_bytes c.loop-i.written) (string_bytes c.match-read.written) [] (omega (arith, o.counted, c.count-count.ensures.rows)) (c.read.ensures rows o) (λ v e. absurd (w.in_default.not-Ok v e)) (ap string_bytes w.written-is ∙ sym (append-nil (string_bytes c.loop-i.written))) (c.loop-i.invariant rows o)
    ]

pub returns : goal.returns
returns g c =
    λ rows o.
    lines_all g.K.PrintedKey.text g.T.PrintedTally.text rows c.loop-i.i c.count-count.result (string_bytes c.loop-i.written) (string_bytes c.push_str-2.new.self) c.as_str-2.result.now (c.count-count.ensures.rows ∙ o.counted) c.loop-i-test.false (c.loop-i.invariant rows o) (c.as_str-2.ensures.value ∙ c.in_ok-last.ensures.ok) c.in_ok-push_str-2.ensures.bytes
