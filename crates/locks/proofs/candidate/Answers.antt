-- `locks::candidate` meets its contract: each size's pages to a bit compute. Assumes nothing.
use native.Mathlib.Omega.{arith}
use Rattle.std.proofs.lemmas.Grind.{common_steps}
use Rattle.locks.specs.Locks.{pages_each}
use Rattle.locks.proofs.candidate.Goals as goal

pub returns-in-45 : goal.returns-in-45
unfolding pages_each
returns-in-45 c = rw c.in-45.is

pub returns-in_default : goal.returns-in_default
unfolding pages_each
returns-in_default c = grind (arith, common_steps)
