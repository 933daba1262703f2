-- One row more.
use Rattle.std.proofs.Common.{◌≡◌, ◌*◌, length, ap₂, sym, ◌∙◌}
use Rattle.requests.specs.declared.row.Row.{Row}
use Rattle.writing.proofs.RunsPut.{part_fits, row_put, all_put}
use Rattle.writing.proofs.layers.put_all.Goals as goal

pub slice_bounds-put_given-end : goal.slice_bounds-put_given-end
slice_bounds-put_given-end g c =
    part_fits c.rows-i-end.result c.loop-i.i c.length-size.result (length c.loop-i.parts) c.loop-i-test.true (c.loop-i.auto.parts ∙ c.requires ∙ ap₂ (λ n s. n * s) (sym c.rows-i-end.ensures) (sym c.length-size.ensures))

pub loop-i-preserved : goal.loop-i-preserved
loop-i-preserved g c =
    λ rows h e.
    let long : (w : Row g.row.K.Denot g.row.T.Denot) → length (g.P.Part.bytes w) ≡ c.length-size.result = λ w. g.met.P.Part.long w ∙ sym c.length-size.ensures in
    row_put g.P.Part.bytes c.length-size.result long rows c.rows-i-end.result c.loop-i.i c.loop-i.parts c.put_given.new.part c.row.result c.loop-i-test.true (c.rows-i-end.ensures ∙ e) (c.loop-i.auto.parts ∙ c.requires ∙ ap₂ (λ n s. n * s) (sym c.rows-i-end.ensures) (sym c.length-size.ensures)) (c.row.ensures rows h) c.put_given.ensures.written (c.loop-i.invariant rows h e)

pub returns : goal.returns
returns g c =
    λ rows h e.
    let long : (w : Row g.row.K.Denot g.row.T.Denot) → length (g.P.Part.bytes w) ≡ c.length-size.result = λ w. g.met.P.Part.long w ∙ sym c.length-size.ensures in
    all_put g.P.Part.bytes c.length-size.result long rows c.rows-i-end.result c.loop-i.i c.loop-i.parts (c.rows-i-end.ensures ∙ e) c.loop-i-test.false c.loop-i.auto.i-end (c.loop-i.auto.parts ∙ c.requires ∙ ap₂ (λ n s. n * s) (sym c.rows-i-end.ensures) (sym c.length-size.ensures)) (c.loop-i.invariant rows h e)
