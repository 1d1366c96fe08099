use Rattle.std.proofs.Common.{◌∙◌, sym}
use Rattle.basics.proofs.Standing.{stands_at, stands_nowhere}
use Rattle.basics.proofs.runs.find.Goals as goal

pub returns-in-Some-clause-first : goal.returns-in-Some-clause-first
returns-in-Some-clause-first c = stands_at c.args.byte c.args.start c.args.end c.args.text.now c.requires.0 c.requires.1 _ (sym c.first.ensures ∙ c.in-Some.is)

pub returns-in-None-clause-first : goal.returns-in-None-clause-first
returns-in-None-clause-first c = stands_nowhere c.args.byte c.args.start c.args.end c.args.text.now c.requires.0 c.requires.1 (sym c.first.ensures ∙ c.in-None.is)
