-- `laying::slices::put_hex` meets its contract. Assumes nothing.
use Rattle.std.proofs.Common.{◌≡◌, ◌+◌, ◌*◌, ◌++◌, length, take}
use Rattle.basics.specs.Hex.{hex_of}
use Rattle.laying.proofs.slices.put_hex.Given as goal

-- the digits of the bytes so far stand at their place
abbrev pub invariant-loop-b : goal.invariant-loop-b
invariant-loop-b l = record {
  place : l.to ≡ l.at + 2 * l.b-index;
  laid : take l.to l.out ≡ take l.at l.fn.out ++ hex_of (take l.b-index l.bytes);
  len : length l.out ≡ length l.fn.out;
}
