-- The invariant: the bytes that are left, from the register so far, come to the whole's. Assumes nothing.
use Rattle.std.proofs.Common.{◌≡◌, length}
use Rattle.crc_a.specs.CrcA.{bytes_in, crc_a}
use Rattle.crc_a.proofs.crc_a.Given as goal

abbrev pub invariant-loop-rest : goal.invariant-loop-rest
invariant-loop-rest l = bytes_in l.register l.rest ≡ crc_a l.bytes

abbrev pub decreases-loop-rest : goal.decreases-loop-rest
decreases-loop-rest l = length l.rest
