use Rattle.std.proofs.Common.{◌+◌, ◌*◌, ◌/◌, ◌%◌, [], get_or, arith}
use Rattle.std.proofs.Math.ListN.{length-set}
use Rattle.basics.specs.Hex.{hex_char}
use Rattle.laying.proofs.Laying.{one_stored, pair_laid, all_made}
use Rattle.laying.proofs.digits_of.Goals as goal

pub loop-i-preserved : goal.loop-i-preserved
loop-i-preserved g c =
    let bytes = c.args.bytes.now in
    let sofar = c.loop-i.invariant in
    record {
      high = one_stored (λ j. hex_char (get_or bytes j 0 / 16)) c.loop-i.high c.loop-i.i _ (omega arith) c.high_char.ensures sofar.high;
      low = one_stored (λ j. hex_char (get_or bytes j 0 % 16)) c.loop-i.low c.loop-i.i _ (omega arith) c.low_char.ensures sofar.low;
      high_len = simp length-set sofar.high_len;
      low_len = simp length-set sofar.low_len;
    }

pub loop-k-preserved : goal.loop-k-preserved
loop-k-preserved g c =
    let k = c.loop-k.k in
    record {
      made = pair_laid c.loop-k.digits [] c.args.bytes.now (2 * k) (2 * (k + 1)) k _ _ (omega arith) (omega arith) (omega arith)
          (c.loop-i.invariant.high k (omega arith)) (c.loop-i.invariant.low k (omega arith)) c.loop-k.invariant.made;
      len = simp length-set c.loop-k.invariant.len;
    }

pub returns : goal.returns
returns g c = all_made _ _ c.loop-k.k g.row.K (omega arith) c.told-bytes c.loop-k.invariant.made
