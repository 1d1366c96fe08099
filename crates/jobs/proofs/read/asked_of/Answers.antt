-- `jobs::read::asked_of` meets its contract: the rows of the code are those of the table. Assumes nothing.
use Rattle.jobs.specs.Said.{commands, row_of}
use Rattle.jobs.proofs.Saying.{verb_told, fits_told}
use Rattle.jobs.proofs.read.asked_of.Goals as goal

pub returns-clause-asked_fits : goal.returns-clause-asked_fits
unfolding commands row_of
returns-clause-asked_fits c = fits_told c.args.text.now _ c.asked_of.ensures.asks

pub returns-clause-named : goal.returns-clause-named
unfolding commands row_of
returns-clause-named c = c.asked_of.ensures.verb

pub returns-clause-verb : goal.returns-clause-verb
unfolding commands row_of
returns-clause-verb c = verb_told c.args.text.now c.asked_of.result c.asked_of.ensures.verb

pub returns-clause-said : goal.returns-clause-said
unfolding commands row_of
returns-clause-said c = c.asked_of.ensures.said
