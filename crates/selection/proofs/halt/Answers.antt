-- `selection::halt` meets its contract. Assumes nothing.
use Rattle.std.proofs.Common.{◌≡◌, true, false, sym, ◌∙◌}
use Rattle.selection.specs.Selection.{is_wupa, in_halt}
use Rattle.selection.proofs.halt.Goals as goal

pub returns-then-is_short : goal.returns-then-is_short
unfolding in_halt
returns-then-is_short c img =
    let wakes : is_wupa c.args.frame.now c.args.bits ≡ true = unfold is_wupa in sym c.is_short.ensures ∙ c.if-is_short.true in
    rw wakes (c.wake.ensures img)

pub returns-else-is_short : goal.returns-else-is_short
unfolding in_halt
returns-else-is_short c img =
    let sleeps : is_wupa c.args.frame.now c.args.bits ≡ false = unfold is_wupa in sym c.is_short.ensures ∙ c.if-is_short.false in
    rw sleeps (c.silent.ensures img _)
