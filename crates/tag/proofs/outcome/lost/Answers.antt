-- `tag::outcome::lost` meets its contract. Assumes nothing.
use Rattle.tag.proofs.Laws.{lost_done}
use Rattle.tag.proofs.outcome.lost.Goals as goal

pub returns : goal.returns
returns c = search lost_done
