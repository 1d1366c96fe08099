-- After k turns the first k gathered bytes have landed.
use Rattle.std.proofs.Common.{◌≡◌}
use Rattle.two_wire.specs.Gathered.{landed_to}
use Rattle.two_wire.proofs.gathered.land.Given as goal

abbrev pub invariant-loop-k : goal.invariant-loop-k
invariant-loop-k l = l.buffer ≡ landed_to l.span l.rec l.k l.initial.buffer
