use Rattle.crc_a.proofs.Unrolled.{byte_in_lem}
use Rattle.crc_a.proofs.take_byte.Goals as goal

pub returns : goal.returns
returns c = rw c.from.ensures (byte_in_lem _ _ _ (rw c.from.ensures at c.sixteen_shifts.ensures))
