-- `commands::rejected` meets its contract. Assumes nothing.
use Rattle.tag.proofs.Laws.{nak_after_lem}
use Rattle.commands.specs.Commands.{rejected}
use Rattle.commands.proofs.rejected.Goals as goal

pub returns : goal.returns
unfolding rejected
returns c = nak_after_lem _ _ _ _ _ _ _ _ c.nak.ensures c.count_wrong.ensures
