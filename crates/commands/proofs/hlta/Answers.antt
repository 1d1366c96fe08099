-- `commands::hlta` meets its contract. Assumes nothing.
use Rattle.std.proofs.Common.{rules}
use Rattle.commands.specs.Commands.{hlta}
use Rattle.commands.proofs.hlta.Goals as goal

pub returns-then-not-halts : goal.returns-then-not-halts
unfolding hlta
returns-then-not-halts c = λ img. let refused = c.nak.ensures img in search rules

pub returns : goal.returns
unfolding hlta
returns c = λ img. let still = c.silent.ensures img c.args.answer.now in search rules
