-- `selection::ready2` meets its contract. Assumes nothing.
use Rattle.selection.specs.Selection.{in_ready2}
use Rattle.selection.proofs.ready2.Goals as goal

pub returns : goal.returns
unfolding in_ready2
returns c img = rw (← c.own2.ensures) (c.ready.ensures img)
