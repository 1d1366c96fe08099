-- What isn't lent the buffers to change leaves them.
use Rattle.two_wire.proofs.Laws.{left}
use Rattle.two_wire.proofs.event.on_event.Goals as goal

pub returns-in-Start : goal.returns-in-Start
returns-in-Start c = rw c.in-Start.is (search left)

pub returns-in-Sent : goal.returns-in-Sent
returns-in-Sent c = rw c.in-Sent.is (search left)

pub returns-in-ReadAck : goal.returns-in-ReadAck
returns-in-ReadAck c = rw c.in-ReadAck.is (search left)

pub returns-in-ReadLast : goal.returns-in-ReadLast
returns-in-ReadLast c = rw c.in-ReadLast.is (search left)
