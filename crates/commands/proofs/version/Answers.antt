-- `commands::version` meets its contract. Assumes nothing.
use Rattle.commands.proofs.Laws.{version_done}
use Rattle.commands.proofs.version.Goals as goal

pub returns : goal.returns
returns c = search version_done
