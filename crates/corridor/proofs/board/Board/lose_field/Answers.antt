-- `corridor::board::Board::lose_field` meets its contract. Assumes nothing.
use Rattle.corridor.proofs.Laws.{field_lost}
use Rattle.corridor.proofs.board.Board.lose_field.Goals as goal

pub returns : goal.returns
returns c = field_lost _ _ c.self.view_is _ c.field_loss-self-inside.ensures
