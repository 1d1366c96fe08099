use Rattle.std.proofs.Common.{refl, ◌∙◌}
use Rattle.crc_a.specs.CrcA.{start, crc_a}
use Rattle.crc_a.proofs.Laws.{four_more}
use Rattle.crc_a.proofs.crc_a.Goals as goal

pub loop-rest-init : goal.loop-rest-init
unfolding crc_a start
loop-rest-init c = refl

pub loop-rest-preserved : goal.loop-rest-preserved
loop-rest-preserved c = four_more _ _ _ _ c.loop-rest.invariant c.in-len4-up.len_at_least c.take_four-register.ensures

pub returns : goal.returns
returns c = c.take_rest.ensures ∙ c.loop-rest.invariant
