-- `reads::lay_mirrored` meets its contract. Assumes nothing.
use Rattle.std.proofs.Common.{rules, Some}
use Rattle.image.specs.Mirror.{through}
use Rattle.reads.proofs.lay_mirrored.Goals as goal

pub returns : goal.returns
unfolding through
returns c = c.lay_pages.ensures (through c.args.n c.args.image.now (Some c.args.m)) (λ page v l p. search rules)
