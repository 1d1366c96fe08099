use Rattle.std.proofs.Common.{arith}
use Rattle.std.proofs.Math.ListN.{length-set}
use Rattle.laying.proofs.Laying.{pair_laid}
use Rattle.laying.proofs.slices.put_hex.Goals as goal

pub loop-b-preserved : goal.loop-b-preserved
loop-b-preserved c =
    let sofar = c.loop-b.invariant in
    record {
      place = omega (arith, sofar.place);
      laid = pair_laid _ _ _ _ _ c.loop-b.b-index _ _ c.loop-b-test.true (omega arith) (omega arith) c.high_char.ensures c.low_char.ensures sofar.laid;
      len = simp length-set sofar.len;
    }
