use Rattle.tag.specs.Outcome.{low_bytes}
use Rattle.tag.proofs.Laws.{laid_end, byte_turn, byte_next}
use Rattle.tag.proofs.outcome.lay_number.Goals as goal

pub loop-i-preserved : goal.loop-i-preserved
loop-i-preserved c = record { left = search byte_next; laid_so_far = search byte_turn }

pub returns : goal.returns
unfolding low_bytes
returns c = search laid_end
