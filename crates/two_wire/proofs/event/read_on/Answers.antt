-- The byte that the counter counts as is one of its region.
use Rattle.std.proofs.Common.{rules}
use Rattle.two_wire.proofs.Laws.{right_fits, read_below, read_ends, memory_reaches, image_read, memory_read}
use Rattle.two_wire.proofs.event.read_on.Goals as goal

pub give-requires-clause-readable : goal.give-requires-clause-readable
give-requires-clause-readable c = let f = right_fits _ _ _ c.requires in search rules

pub give-requires-clause-inside : goal.give-requires-clause-inside
give-requires-clause-inside c = read_below _ _ _ c.requires c.args.rec _ c.region_of-region.ensures

pub give-requires-clause-ends : goal.give-requires-clause-ends
give-requires-clause-ends c = read_ends _ _ _ c.requires c.args.rec _ c.region_of-region.ensures

pub give-requires-in-Memory-clause-readable : goal.give-requires-in-Memory-clause-readable
give-requires-in-Memory-clause-readable c = let f = memory_reaches _ _ _ c.requires c.args.rec _ c.region_of-region.ensures c.in-Memory.is in search rules

pub give-requires-in-Memory-clause-inside : goal.give-requires-in-Memory-clause-inside
give-requires-in-Memory-clause-inside c = read_below _ _ _ c.requires c.args.rec _ c.region_of-region.ensures

pub give-requires-in-Memory-clause-ends : goal.give-requires-in-Memory-clause-ends
give-requires-in-Memory-clause-ends c = read_ends _ _ _ c.requires c.args.rec _ c.region_of-region.ensures

pub returns-in-Image : goal.returns-in-Image
returns-in-Image c =
    let h = c.give.ensures in
    image_read _ _ c.args.memory.now c.requires c.args.rec _ c.region_of-region.ensures _ _ h.0 c.in-Image.is (search rules) h.2

pub returns-in-Memory : goal.returns-in-Memory
returns-in-Memory c =
    let h = c.give-in-Memory.ensures in
    memory_read _ _ c.args.memory.now c.requires c.args.rec _ c.region_of-region.ensures _ _ h.0 c.in-Memory.is (search rules) h.2
