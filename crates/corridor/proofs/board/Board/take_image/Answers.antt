-- `corridor::board::Board::take_image` meets its contract. Assumes nothing.
use Rattle.corridor.proofs.Laws.{took}
use Rattle.corridor.proofs.board.Board.take_image.Goals as goal

pub returns : goal.returns
returns c = took _ _ c.self.view_is _ _ _ _ _ c.copy.ensures c.field_off-self-inside.ensures c.bus_at_rest-self-inside.ensures
