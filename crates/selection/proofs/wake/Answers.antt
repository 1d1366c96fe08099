-- `selection::wake` meets its contract. Assumes nothing.
use Rattle.selection.specs.Selection.{wakes}
use Rattle.selection.proofs.wake.Goals as goal

pub returns : goal.returns
unfolding wakes
returns c img = rw (← c.woken.ensures, ← c.moved.ensures) (c.plain.ensures img)
