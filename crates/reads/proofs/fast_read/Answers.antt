-- `reads::fast_read` meets its contract: its pages are what `give` answers, and a NAK holds of each image. Assumes nothing.
use Rattle.std.proofs.Common.{rules}
use Rattle.reads.specs.Read.{fast_read}
use Rattle.reads.proofs.fast_read.Goals as goal

pub returns-then-last-b : goal.returns-then-last-b
unfolding fast_read
returns-then-last-b c = let given = c.give.ensures in search rules

pub returns-else-first-last : goal.returns-else-first-last
unfolding fast_read
returns-else-first-last c = let refused = c.nak.ensures c.args.image.now in search rules
