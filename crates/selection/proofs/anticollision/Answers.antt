-- `selection::anticollision` meets its contract. Assumes nothing.
use Rattle.selection.specs.Selection.{anticollision}
use Rattle.selection.proofs.anticollision.Goals as goal

pub returns-then-matches : goal.returns-then-matches
unfolding anticollision
returns-then-matches c img = rw (← c.requires.1, ← c.matches.ensures, c.if-matches.true, ← c.others.ensures.0) (c.plain.ensures img)

pub returns-else-matches : goal.returns-else-matches
unfolding anticollision
returns-else-matches c img = rw (← c.requires.1, ← c.matches.ensures, c.if-matches.false) (c.lost.ensures img _)
