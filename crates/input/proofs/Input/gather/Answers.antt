-- `input::Input::gather` meets its contract. Assumes nothing.
use native.Mathlib.Omega.{arith}
use Rattle.input.proofs.Cut.{line_ended, line_open}
use Rattle.input.proofs.Input.gather.Goals as goal

pub returns-then-stop-self : goal.returns-then-stop-self
returns-then-stop-self c =
    line_ended _ _ _ _ _ _ _ _ _ c.self.view_is (omega (arith, c.self.invariant)) c.requires c.find-stop.ensures.first c.find-stop.ensures.within.1 c.append-len.ensures.line c.if-stop-self.true

pub returns : goal.returns
returns c =
    line_open _ _ _ _ _ _ _ _ _ c.self.view_is (omega (arith, c.self.invariant)) c.requires c.find-stop.ensures.first c.find-stop.ensures.within.1 c.append-len.ensures.line c.if-stop-self.false
