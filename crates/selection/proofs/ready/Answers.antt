-- `selection::ready` meets its contract. Assumes nothing.
use borrow.Author.Tests.{ne_eqb}
use Rattle.selection.specs.Selection.{in_ready}
use Rattle.selection.proofs.Laws.{asked, not_asked}
use Rattle.selection.proofs.ready.Goals as goal

pub returns-then-not-is_coded : goal.returns-then-not-is_coded
unfolding in_ready
returns-then-not-is_coded c img = rw (← c.is_coded.ensures, c.if-not-is_coded.true) (c.lost.ensures img _)

pub returns-then-second-eq-SELECT : goal.returns-then-second-eq-SELECT
unfolding in_ready
returns-then-second-eq-SELECT c img =
    rw (← c.is_coded.ensures, c.if-not-is_coded.false, ← c.byte-second.ensures, c.if-second-eq-SELECT.true) (c.select.ensures img)

pub returns-in-Some : goal.returns-in-Some
unfolding in_ready
returns-in-Some c img =
    rw (← c.is_coded.ensures, c.if-not-is_coded.false, ← c.byte-second.ensures, ne_eqb _ _ c.if-second-eq-SELECT.false, asked _ _ _ c.in-Some.ensures.value)
    (c.anticollision.ensures img)

pub returns-in-None : goal.returns-in-None
unfolding in_ready
returns-in-None c img =
    rw (← c.is_coded.ensures, c.if-not-is_coded.false, ← c.byte-second.ensures, ne_eqb _ _ c.if-second-eq-SELECT.false, not_asked _ _ c.in-None.ensures.value)
    (c.lost-in-None.ensures img _)
