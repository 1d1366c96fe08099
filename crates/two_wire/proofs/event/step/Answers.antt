-- A call is refused, or does what the event that its number stands for does.
use Rattle.std.proofs.Common.{◌≡◌, ◌≢◌, length, rules}
use Rattle.std.specs.Prelude.{Some, None, Ok, Err}
use Rattle.image.specs.Layout.{size_of}
use Rattle.two_wire.specs.Region.{both, memory_length}
use Rattle.two_wire.specs.Event.{event_of}
use Rattle.two_wire.proofs.Laws.{refused_length, refused_memory_lem, by_its_name, left}
use Rattle.two_wire.proofs.event.step.Goals as goal

pub returns-in_default : goal.returns-in_default
returns-in_default c =
    let e : size_of (length c.args.image.now) ≡ None = cc in
    rw (refused_length (both c.args.image.now c.args.memory.now) c.args.rec c.args.event c.args.byte e).outcome (left _ _ _ c.refused.ensures)

pub returns-then-not-is_whole : goal.returns-then-not-is_whole
returns-then-not-is_whole c =
    let e : size_of (length c.args.image.now) ≡ Some c.in-Some.n = cc in
    let m : length c.args.memory.now ≢ memory_length = search rules in
    rw (refused_memory_lem (both c.args.image.now c.args.memory.now) c.args.rec c.args.event c.args.byte _ e m).outcome (left _ _ _ c.refused-then-not-is_whole.ensures)

pub returns-in-Ok : goal.returns-in-Ok
returns-in-Ok c =
    let e : size_of (length c.args.image.now) ≡ Some c.in-Some.n = cc in
    let m : length c.args.memory.now ≡ memory_length = search rules in
    let k : event_of c.args.event ≡ Ok c.in-Ok.event = cc in
    rw (by_its_name (both c.args.image.now c.args.memory.now) c.args.rec c.args.event c.args.byte _ e m, k) c.on_event.ensures

pub returns-in-Err : goal.returns-in-Err
returns-in-Err c =
    let e : size_of (length c.args.image.now) ≡ Some c.in-Some.n = cc in
    let m : length c.args.memory.now ≡ memory_length = search rules in
    let k : event_of c.args.event ≡ Err c.in-Err.refusal = cc in
    rw (by_its_name (both c.args.image.now c.args.memory.now) c.args.rec c.args.event c.args.byte _ e m, k) (left _ _ _ c.refused-in-Err.ensures)
