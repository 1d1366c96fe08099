-- `corridor::board::Board::recalled` meets its contract. Assumes nothing.
use mathlib.Core.Path.{refl}
use native.Mathlib.Omega.{arith}
use Rattle.corridor.proofs.Laws.{recall_none, recall_past, recall_told}
use Rattle.corridor.proofs.board.Board.recalled.Goals as goal
use Rattle.corridor.proofs.board.Board.recalled.Goals.{then-n-eq0-via-then-n-eq0, then-n-eq0-via-else-n-eq0+then-end-most}

pub returns-then-n-eq0 : goal.returns-then-n-eq0
returns-then-n-eq0 c =
    elim c.then-n-eq0.branch [
      | then-n-eq0-via-then-n-eq0 w ↦ recall_none _ _ c.self.view_is _ _ _ _ refl (omega (arith, c.self.invariant, c.self.told)) w.if-n-eq0.true _
      | then-n-eq0-via-else-n-eq0+then-end-most w ↦ recall_past _ _ c.self.view_is _ _ _ _ refl (omega (arith, c.self.invariant, c.self.told)) w.if-n-eq0.false w.if-end-most.true _
    ]

pub returns : goal.returns
returns c =
    recall_told _ _ c.self.view_is _ _ _ _ refl (omega (arith, c.self.invariant, c.self.told)) c.if-n-eq0.false c.if-end-most.false c.requires.1 _ _ _ refl c.copy.ensures
