use Rattle.crc_a.proofs.Laws.{appended}
use Rattle.crc_a.proofs.append.Goals as goal

pub returns : goal.returns
returns c = rw (c.low_byte.ensures, c.high_byte.ensures) (appended _ _ _ c.crc_a-c.ensures)
