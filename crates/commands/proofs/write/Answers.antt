-- `commands::write` meets its contract: a NAK and an ACK hold of each image. Assumes nothing.
use Rattle.std.proofs.Common.{rules}
use Rattle.image.specs.Layout.{page_at}
use Rattle.image.specs.Write.{written, write as stored}
use Rattle.tag.specs.Outcome.{put, apply}
use Rattle.commands.specs.Commands.{write}
use Rattle.commands.proofs.write.Goals as goal

pub returns-then-refuses : goal.returns-then-refuses
unfolding write
returns-then-refuses c = let refused = c.nak.ensures c.args.image.now in search rules

pub returns : goal.returns
unfolding write stored apply
returns c = let done = c.ack.ensures c.args.image.now (put c.args.a (written c.args.n c.args.a (page_at c.args.image.now c.args.a) c.args.d)) in search rules
