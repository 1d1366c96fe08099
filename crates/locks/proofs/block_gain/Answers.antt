use Rattle.std.proofs.Common.{rules}
use Rattle.locks.specs.Locks.{may_block, block_gain}
use Rattle.locks.proofs.Gains.{gain_mask, may_block≤1}
use Rattle.locks.proofs.block_gain.Goals as goal

pub returns : goal.returns
unfolding block_gain
returns c = let a = c.args in gain_mask 8 (may_block a.n) _ _ _ (may_block≤1 a.n) c.block_mask.ensures (search rules) (search rules)
