-- `corridor::Corridor::respond` meets its contract. Assumes nothing.
use Rattle.corridor.proofs.Laws.{keeps, answers_line}
use Rattle.corridor.proofs.CorridorProgram2080.respond.Goals as goal

pub returns-clause-keeps : goal.returns-clause-keeps
returns-clause-keeps c = keeps _ _ _ c.self.view_is _ _ _ _ c.act-told.ensures c.buffer.ensures

pub returns-clause-answers : goal.returns-clause-answers
returns-clause-answers c = answers_line _ _ _ c.self.view_is _ _ _ _ c.act-told.ensures c.buffer.ensures _ c.line_of.ensures
