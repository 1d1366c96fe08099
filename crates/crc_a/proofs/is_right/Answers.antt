use Rattle.crc_a.proofs.Laws.{too_short, ends_with}
use Rattle.crc_a.proofs.is_right.Goals as goal

pub returns-in_default : goal.returns-in_default
returns-in_default c = too_short _ c.in_default.len_below

pub returns-in-len2-up : goal.returns-in-len2-up
returns-in-len2-up c = ends_with _ _ _ c.in-len2-up.len_at_least c.low_first.ensures c.crc_a.ensures
