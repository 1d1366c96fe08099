-- `corridor::board::Board::lend` meets its contract. Assumes nothing.
use Rattle.corridor.proofs.Laws.{lent_out}
use Rattle.corridor.proofs.board.Board.lend.Goals as goal

pub returns : goal.returns
returns c = lent_out _ _ c.self.view_is c.args.n
