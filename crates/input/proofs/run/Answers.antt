-- `input::run` meets its contract. Assumes nothing.
use Rattle.input.proofs.Shell.{reached_start, reached_next, reached_end, over_end, over_else}
use Rattle.input.proofs.run.Goals as goal

pub loop-turns-init : goal.loop-turns-init
loop-turns-init g c = reached_start _ _ _ _ c.requires c.new-input.ensures

pub returns-in-End : goal.returns-in-End
returns-in-End g c =
    (over_end _ c.in-End.is, reached_end _ _ _ _ _ _ _ _ _ _ _ c.loop-turns.invariant c.turn-last.ensures.goes c.turn-last.ensures.takes (over_end _ c.in-End.is))

pub loop-turns-preserved : goal.loop-turns-preserved
loop-turns-preserved g c =
    reached_next _ _ _ _ _ _ _ _ _ _ _ c.loop-turns.invariant c.turn-last.ensures.goes c.turn-last.ensures.takes (over_else _ c.in_default.not-End)
