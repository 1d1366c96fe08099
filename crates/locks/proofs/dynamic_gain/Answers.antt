use Rattle.std.proofs.Common.{rules}
use Rattle.locks.specs.Locks.{may_dynamic, dynamic_gain}
use Rattle.locks.proofs.Gains.{gain_mask, may_dynamic≤1}
use Rattle.locks.proofs.dynamic_gain.Goals as goal

pub returns : goal.returns
unfolding dynamic_gain
returns c = let a = c.args in gain_mask 16 (may_dynamic a.n a.blocks) _ _ _ (may_dynamic≤1 a.n a.blocks) (rw c.from.ensures at c.dynamic_mask.ensures) (search rules) (search rules)
