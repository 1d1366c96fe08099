use Rattle.std.proofs.Common.{rules}
use Rattle.locks.specs.Locks.{may_static, static_gain}
use Rattle.locks.proofs.Gains.{gain_mask, may_static≤1}
use Rattle.locks.proofs.static_gain.Goals as goal

pub returns : goal.returns
unfolding static_gain
returns c = let a = c.args in gain_mask 16 (may_static a.statics) _ _ _ (may_static≤1 a.statics) c.static_mask.ensures (search rules) (search rules)
