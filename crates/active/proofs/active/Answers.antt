-- `active::active` meets its contract: silence and a NAK hold of each image. Assumes nothing.
use Rattle.std.proofs.Common.{rules}
use Rattle.active.specs.Frame.{in_active}
use Rattle.active.proofs.active.Goals as goal

pub returns-then-not-whole : goal.returns-then-not-whole
unfolding in_active
returns-then-not-whole c = let silent = c.lost.ensures c.args.image.now c.args.answer.now in search rules

pub returns-then-not-sound : goal.returns-then-not-sound
unfolding in_active
returns-then-not-sound c = let refused = c.nak.ensures c.args.image.now in search rules

pub returns-in-None : goal.returns-in-None
unfolding in_active
returns-in-None c = let refused = c.nak-in-None.ensures c.args.image.now in search rules
