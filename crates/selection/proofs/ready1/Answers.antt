-- `selection::ready1` meets its contract. Assumes nothing.
use Rattle.selection.specs.Selection.{in_ready1}
use Rattle.selection.proofs.ready1.Goals as goal

pub returns : goal.returns
unfolding in_ready1
returns c img = rw (← c.own1.ensures) (c.ready.ensures img)
