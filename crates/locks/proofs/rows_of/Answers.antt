use Rattle.std.proofs.Common.{arith}
use Rattle.locks.specs.Locks.{lock_bits, pages_each, dynamic_block}
use Rattle.locks.specs.Table.{row_for, rows_for}
use Rattle.locks.proofs.Lock.{last_size}
use Rattle.locks.proofs.rows_of.Goals as goal

pub returns-in-45 : goal.returns-in-45
unfolding rows_for row_for lock_bits pages_each dynamic_block
returns-in-45 c = rw c.in-45.is

pub returns-in-135 : goal.returns-in-135
unfolding rows_for row_for lock_bits pages_each dynamic_block
returns-in-135 c = rw c.in-135.is

pub returns-in_default : goal.returns-in_default
unfolding rows_for row_for lock_bits pages_each dynamic_block
returns-in_default c = rw (last_size c.requires (λ e. omega arith) (λ e. omega arith))
