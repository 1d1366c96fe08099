-- `corridor::board::Board::obey` meets its contract. Assumes nothing.
use Rattle.corridor.proofs.Laws.{obeyed_by, obeyed_all, acts_answers}
use Rattle.corridor.proofs.board.Board.obey.Goals as goal

pub returns-in-Image : goal.returns-in-Image
returns-in-Image c = obeyed_all _ _ _ _ _ _ _ _ _ c.in-Image.is c.take_image.ensures

pub returns-in-Buffer : goal.returns-in-Buffer
returns-in-Buffer c = obeyed_all _ _ _ _ _ _ _ _ _ c.in-Buffer.is c.lend.ensures

pub returns-in-Field : goal.returns-in-Field
returns-in-Field c = obeyed_all _ _ _ _ _ _ _ _ _ c.in-Field.is c.lose_field.ensures

pub returns-in-Start : goal.returns-in-Start
returns-in-Start c = obeyed_all _ _ _ _ _ _ _ _ _ c.in-Start.is c.see.ensures

pub returns-in-Stop : goal.returns-in-Stop
returns-in-Stop c = obeyed_all _ _ _ _ _ _ _ _ _ c.in-Stop.is c.see-in-Stop.ensures

pub returns-in-Send : goal.returns-in-Send
returns-in-Send c = obeyed_all _ _ _ _ _ _ _ _ _ c.in-Send.is c.see-in-Send.ensures

pub returns-in-Read : goal.returns-in-Read
returns-in-Read c = obeyed_all _ _ _ _ _ _ _ _ _ c.in-Read.is c.see-in-Read.ensures

pub returns-in-Event : goal.returns-in-Event
returns-in-Event c = obeyed_all _ _ _ _ _ _ _ _ _ c.in-Event.is c.see-in-Event.ensures

pub returns-in-Memory : goal.returns-in-Memory
returns-in-Memory c = obeyed_all _ _ _ _ _ _ _ _ _ c.in-Memory.is c.lend_memory.ensures

pub returns-in-Show : goal.returns-in-Show
returns-in-Show c = obeyed_by _ _ _ _ _ _ _ _ _ c.in-Show.is (acts_answers _ _ _ _ (c.shown.ensures _))
