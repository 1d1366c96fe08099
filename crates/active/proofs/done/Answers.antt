-- `active::done` meets its contract: what isn't lent the image holds of each. Assumes nothing.
use Rattle.active.proofs.done.Goals as goal

pub returns-in-Version : goal.returns-in-Version
returns-in-Version c = rw c.in-Version.is (c.version.ensures _)

pub returns-in-Hlta : goal.returns-in-Hlta
returns-in-Hlta c = rw c.in-Hlta.is (c.hlta.ensures _)
