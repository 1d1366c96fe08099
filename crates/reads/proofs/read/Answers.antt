-- `reads::read` meets its contract: its pages are what `give` answers, and a NAK holds of each image. Assumes nothing.
use Rattle.std.proofs.Common.{rules}
use Rattle.reads.specs.Read.{read}
use Rattle.reads.proofs.read.Goals as goal

pub returns-then-page-b : goal.returns-then-page-b
unfolding read
returns-then-page-b c = let given = c.give.ensures in search rules

pub returns-else-page-b : goal.returns-else-page-b
unfolding read
returns-else-page-b c = let refused = c.nak.ensures c.args.image.now in search rules
