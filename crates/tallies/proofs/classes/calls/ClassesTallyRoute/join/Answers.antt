-- What is left of the sums.
use mathlib.Core.Path.{◌∙◌}
use Rattle.tallies.specs.ClassCountsLemmas.{classes_of_mod}
use Rattle.tallies.proofs.classes.calls.ClassesTallyRoute.join.Goals as goal

pub returns : goal.returns
returns c = c.new.ensures ∙ classes_of_mod _ _ _ _
