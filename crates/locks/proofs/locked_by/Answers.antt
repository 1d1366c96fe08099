use Rattle.std.proofs.Common.{refl, sym, ◌∙◌, None, false}
use Rattle.locks.proofs.Lock.{lock_lt, set_locks, clear_open}
use Rattle.locks.proofs.locked_by.Goals as goal

pub returns-in_err-lock : goal.returns-in_err-lock
returns-in_err-lock c = c.from_residual.ensures ∙ clear_open _ _ _ _ None (sym c.in_err-lock.was ∙ c.lock_of.ensures) false refl refl

pub set_in-requires : goal.set_in-requires
set_in-requires c = lock_lt _ _ _ c.requires (sym c.in_ok-lock.was ∙ c.lock_of.ensures)

pub returns-then-set_in : goal.returns-then-set_in
returns-then-set_in c = set_locks _ _ _ _ _ (sym c.in_ok-lock.was ∙ c.lock_of.ensures) _ c.set_in.ensures c.if-set_in.true

pub returns-else-set_in : goal.returns-else-set_in
returns-else-set_in c = clear_open _ _ _ _ _ (sym c.in_ok-lock.was ∙ c.lock_of.ensures) _ c.set_in.ensures c.if-set_in.false
