-- `words::args::gather` meets its contract. Assumes nothing.
use Prim.Native.Nat.{◌≤◌, ◌+◌, ◌-◌}
use lib.ListN.{length, take, drop}
use mathlib.Core.Path.{◌≡◌}
use Rattle.words.specs.Args.{forms_of, room_for, Bounded}
use Rattle.words.proofs.Arguing.{Sofar}
use Rattle.words.proofs.args.gather.Given as goal

abbrev pub invariant-loop-at : goal.invariant-loop-at
invariant-loop-at l = (l.given.count ≤ length l.kinds)
    × (l.at ≤ length l.text)
    × (length l.given.numbers ≡ 3)
    × (length l.bytes ≡ length l.initial.bytes)
    × (l.given.end + room_for (drop l.given.count (forms_of l.kinds)) ≤ room_for (forms_of l.kinds))
    × Bounded (forms_of l.kinds) l.given.count l.given.numbers
    × Sofar (forms_of l.kinds) l.text l.at l.given.count (take l.given.count l.given.numbers) (take l.given.end l.bytes)

abbrev pub decreases-loop-at : goal.decreases-loop-at
decreases-loop-at l = length l.text - l.at
