-- `corridor::board::Board::see` meets its contract. Assumes nothing.
use Rattle.corridor.proofs.Laws.{see_done}
use Rattle.corridor.proofs.board.Board.see.Goals as goal

pub returns : goal.returns
returns c = see_done _ _ c.self.view_is _ _ _ _ _ _ _ c.step_on-step.ensures c.event_number.ensures c.event_told.ensures
