-- `corridor::board::Board::act` meets its contract. Assumes nothing.
use Rattle.corridor.proofs.Laws.{acted_on}
use Rattle.corridor.proofs.board.Board.act.Goals as goal

pub returns-in-Ok : goal.returns-in-Ok
returns-in-Ok c = acted_on _ _ _ _ _ _ _ _ c.in-Ok.ensures.asked_fits c.in-Ok.ensures.verb c.in-Ok.ensures.said c.obey.ensures
