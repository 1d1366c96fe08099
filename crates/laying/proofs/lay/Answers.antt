use Rattle.laying.proofs.Laying.{line_more, room_more}
use Rattle.laying.proofs.lay.Goals as goal

pub loop-part-preserved : goal.loop-part-preserved
loop-part-preserved g c = record { line = search line_more; room = search room_more }
