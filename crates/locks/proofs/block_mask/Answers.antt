-- `locks::block_mask` meets its contract: each size's mask computes. Assumes nothing.
use native.Mathlib.Omega.{arith}
use Rattle.std.proofs.lemmas.Grind.{common_steps}
use Rattle.locks.specs.Locks.{lock_bits, may_block}
use Rattle.locks.proofs.block_mask.Goals as goal

pub returns-in-45 : goal.returns-in-45
unfolding may_block lock_bits
returns-in-45 c = rw c.in-45.is

pub returns-in-135 : goal.returns-in-135
unfolding may_block lock_bits
returns-in-135 c = rw c.in-135.is

pub returns-in_default : goal.returns-in_default
unfolding may_block lock_bits
returns-in_default c = grind (arith, common_steps)
