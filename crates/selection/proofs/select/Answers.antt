-- `selection::select` meets its contract. Assumes nothing.
use Rattle.std.proofs.Common.{refl, [], ◌∷◌}
use Rattle.tag.specs.Outcome.{keep, apply}
use Rattle.tag.proofs.Laws.{said}
use Rattle.selection.specs.Selection.{select}
use Rattle.selection.proofs.select.Goals as goal

pub returns-then-selects : goal.returns-then-selects
unfolding select apply
returns-then-selects c img =
    rw (← c.selects.ensures, c.if-selects.true, ← c.selected.ensures, ← c.moved.ensures)
    (said (c.args.sak ∷ []) keep _ _ 1 img img _ _ _ refl c.lay.ensures c.says.ensures refl)

pub returns-else-selects : goal.returns-else-selects
unfolding select
returns-else-selects c img = rw (← c.selects.ensures, c.if-selects.false) (c.lost.ensures img _)
