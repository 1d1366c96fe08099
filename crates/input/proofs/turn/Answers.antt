-- `input::turn` meets its contract. Assumes nothing.
use Rattle.input.proofs.Cut.{takes_ahead}
use Rattle.input.proofs.Shell.{turn_answers, turn_waits, whole_else, open_part}
use Rattle.input.proofs.turn.Goals as goal

pub returns-in-Part : goal.returns-in-Part
returns-in-Part g c =
    record {
      goes = turn_waits _ g.met.P.Program.alike _ _ _ _ c.advance-step.ensures.step _ (open_part _ c.in-Part.is) c.clear.ensures;
      takes = c.advance-step.ensures.takes;
    }

pub returns : goal.returns
returns g c =
    record {
      goes =
          turn_answers _ g.met.P.Program.alike _ _ _ _ c.advance-step.ensures.step _ _ _ _ (whole_else _ c.in_default.not-Part) c.line.ensures c.reply.ensures.keeps
          c.reply.ensures.answers
          c.answered.ensures.0
          c.answered.ensures.1;
      takes = takes_ahead _ _ _ _ _ c.answered.ensures.0 c.advance-step.ensures.takes;
    }
