use Rattle.std.proofs.Common.{◌≡◌, ◌++◌, arith, ap, length, length-append}
use Rattle.basics.specs.Hex.{hex_of}
use Rattle.laying.proofs.Laying.{chunk_more, same_room, one_more}
use Rattle.laying.proofs.put_hex.Goals as goal

pub loop-many-preserved : goal.loop-many-preserved
loop-many-preserved g c =
    let parts = c.in-Some.ensures.cases in
    let laid : c.put_front.new.out.items ++ hex_of c.in-Some.behind.now ≡ c.args.out.now.items ++ hex_of c.args.bytes.now =
    chunk_more c.loop-many.rest.now c.in-Some.many.now _ _ _ _ _ 32 parts.0 parts.1 c.digits_of.ensures c.put_front.ensures c.loop-many.invariant.laid in
    record { laid = laid; room = omega (arith, same_room _ _ _ _ _ c.loop-many.invariant.laid laid) }

pub loop-some-preserved : goal.loop-some-preserved
loop-some-preserved g c =
    let chunk = c.in-Some-split_first_chunk in
    let parts = chunk.ensures.cases in
    let put = c.put_front-in-Some-split_first_chunk in
    let laid : put.new.out.items ++ hex_of chunk.behind.now ≡ c.args.out.now.items ++ hex_of c.args.bytes.now =
    chunk_more c.loop-some.rest.now chunk.some.now _ _ _ _ _ 16 parts.0 parts.1 c.digits_of-in-Some-split_first_chunk.ensures put.ensures c.loop-some.invariant.laid in
    record { laid = laid; room = omega (arith, same_room _ _ _ _ _ c.loop-some.invariant.laid laid) }

pub loop-b-preserved : goal.loop-b-preserved
loop-b-preserved g c = record {
  laid = one_more _ _ _ _ c.loop-b.b-index c.loop-b-test.true c.loop-b.invariant.laid c.put_pair.ensures;
  len = omega (arith, simp length-append at (ap length c.put_pair.ensures));
}
