use Rattle.std.proofs.Common.{◌∙◌}
use Rattle.crc_a.proofs.Unrolled.{four_in}
use Rattle.crc_a.proofs.take_four.Goals as goal

pub returns : goal.returns
returns c =
    let r = c.ranges in
    four_in _ _ _ _ _ _ _ _ r.b0.fits r.b1.fits r.b2.fits (c.from-low.ensures ∙ c.low_first.ensures) (c.from-high.ensures ∙ c.low_first-2.ensures) (rw c.from.ensures at c.thirty_two_shifts.ensures)
