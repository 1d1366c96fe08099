-- `corridor::board::Board::hear` meets its contract. Assumes nothing.
use mathlib.Core.Path.{◌∙◌}
use native.Mathlib.Omega.{arith}
use lib.Seq.{take_at, length-take-le}
use Rattle.corridor.proofs.Laws.{hear_done}
use Rattle.corridor.proofs.board.Board.hear.Goals as goal

pub returns : goal.returns
returns c =
    hear_done _ _ c.self.view_is _ _ _ _ _ _ _ _ _ c.frame-heard.ensures _ (length-take-le _ _ (omega (arith, c.self.invariant, c.told-answer))) c.frame_told.ensures.fits c.frame_told.ensures.told _
    (take_at _ _ _ (c.frame-heard.auto.image ∙ length-take-le _ _ (omega (arith, c.self.invariant, c.self.told))))
