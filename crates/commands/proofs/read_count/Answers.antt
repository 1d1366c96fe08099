-- `commands::read_count` meets its contract. Assumes nothing.
use Rattle.std.proofs.Common.{rules, refl}
use Rattle.image.specs.Layout.{page_at}
use Rattle.tag.specs.Outcome.{keep, apply}
use Rattle.tag.proofs.Laws.{said}
use Rattle.commands.specs.Commands.{read_count}
use Rattle.commands.proofs.read_count.Goals as goal

pub returns-then-not-shown : goal.returns-then-not-shown
unfolding read_count
returns-then-not-shown c = let refused = c.nak.ensures c.args.image.now in search rules

pub returns : goal.returns
unfolding read_count apply page_at
returns c = let done = said _ keep _ _ _ c.args.image.now _ _ _ _ refl c.lay.ensures c.says.ensures refl in search rules
