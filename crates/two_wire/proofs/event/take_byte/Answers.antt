-- A data byte is what the record's phase says it is.
use Rattle.std.proofs.Common.{sym}
use Rattle.two_wire.specs.Event.{sent}
use Rattle.two_wire.specs.declared.record.Phase.TheVariants.{Writing}
use Rattle.two_wire.proofs.Laws.{phase_is}
use Rattle.two_wire.proofs.event.take_byte.Goals as goal

pub returns-then-is_in : goal.returns-then-is_in
unfolding sent
returns-then-is_in c = rw (phase_is Writing c.args.rec (sym c.if-is_in.ensures), ← c.gathers.ensures) c.answered.ensures
