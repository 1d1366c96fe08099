-- `corridor::board::Board::new` meets its contract. Assumes nothing.
use Rattle.corridor.proofs.Laws.{opened}
use Rattle.corridor.proofs.board.Board.new.Goals as goal

pub returns : goal.returns
returns c = search opened
