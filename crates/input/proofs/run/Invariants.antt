-- `input::run` meets its contract. Assumes nothing.
use Rattle.input.specs.Running.{Reached}
use Rattle.input.proofs.run.Given as goal

abbrev pub invariant-loop-turns : goal.invariant-loop-turns
invariant-loop-turns g l = Reached g.P.Program.meaning (g.R.Read.remaining l.initial.reader) (g.R.Read.remaining l.reader) l.turns l.program l.input
