-- The region of the address sent is in the buffer that it is stored in.
use Rattle.two_wire.proofs.Laws.{right_fits, region_fits}
use Rattle.two_wire.proofs.event.stop.Goals as goal

pub store-requires : goal.store-requires
store-requires c =
    let n = c.args.n in
    let img = c.args.image.now in
    let mem = c.args.memory.now in
    region_fits n c.args.rec.counter _ c.region_of.ensures img mem (right_fits n img mem c.requires) c.requires.whole
