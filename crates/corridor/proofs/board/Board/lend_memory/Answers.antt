-- `corridor::board::Board::lend_memory` meets its contract. Assumes nothing.
use native.Mathlib.Omega.{arith}
use Rattle.corridor.proofs.Laws.{memory_lent}
use Rattle.corridor.proofs.board.Board.lend_memory.Goals as goal

pub returns : goal.returns
returns c = memory_lent _ _ c.self.view_is _ _ _ _ (omega (arith, c.requires, c.self.told)) (c.fill.ensures.after (λ y e. e))
