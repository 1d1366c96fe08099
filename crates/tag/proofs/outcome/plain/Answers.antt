-- `tag::outcome::plain` meets its contract. Assumes nothing.
use Rattle.tag.proofs.Laws.{plain_done}
use Rattle.tag.proofs.outcome.plain.Goals as goal

pub returns : goal.returns
returns c = search plain_done
