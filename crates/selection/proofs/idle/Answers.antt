-- `selection::idle` meets its contract. Assumes nothing.
use Rattle.selection.specs.Selection.{is_reqa, in_idle, in_halt}
use Rattle.selection.proofs.idle.Goals as goal

pub returns-then-is_short : goal.returns-then-is_short
unfolding in_idle is_reqa
returns-then-is_short c img = rw (← c.is_short.ensures, c.if-is_short.true) (c.wake.ensures img)

pub returns-else-is_short : goal.returns-else-is_short
unfolding in_idle is_reqa in_halt
returns-else-is_short c img = rw (← c.is_short.ensures, c.if-is_short.false) (c.halt.ensures img)
