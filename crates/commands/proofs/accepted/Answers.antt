-- `commands::accepted` meets its contract. Assumes nothing.
use Rattle.std.proofs.Common.{rules, refl}
use Rattle.image.specs.Layout.{page_at}
use Rattle.tag.specs.Outcome.{apply}
use Rattle.tag.proofs.Laws.{said}
use Rattle.commands.specs.Commands.{failing, accepted}
use Rattle.commands.proofs.accepted.Goals as goal

pub returns : goal.returns
unfolding accepted failing apply page_at
returns c = let done = said _ (failing c.args.n c.args.image.now 0) _ _ _ c.args.image.now c.set_failed.new.image _ _ _ refl c.lay.ensures c.says.ensures (search rules) in search rules
