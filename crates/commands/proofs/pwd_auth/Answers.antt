-- `commands::pwd_auth` meets its contract: a NAK holds of each image. Assumes nothing.
use Rattle.std.proofs.Common.{rules}
use Rattle.commands.specs.Commands.{pwd_auth}
use Rattle.commands.proofs.pwd_auth.Goals as goal

pub returns-then-limit_reached : goal.returns-then-limit_reached
unfolding pwd_auth
returns-then-limit_reached c = let refused = c.nak.ensures c.args.image.now in search rules
