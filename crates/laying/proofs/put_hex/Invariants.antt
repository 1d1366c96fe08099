-- `laying::put_hex` meets its contract. Assumes nothing.
use Rattle.std.proofs.Common.{◌≡◌, ◌+◌, ◌*◌, ◌≤◌, ◌++◌, length, take}
use Rattle.arrayvec.specs.ArrayVec.{array_vec_len}
use Rattle.basics.specs.Hex.{hex_of}
use Rattle.laying.proofs.put_hex.Given as goal

-- what is laid and the digits of what is left are the whole
abbrev pub invariant-loop-many : goal.invariant-loop-many
invariant-loop-many g l = record {
  laid : l.out.items ++ hex_of l.rest ≡ l.fn.out.items ++ hex_of l.fn.bytes;
  room : array_vec_len l.out + 2 * length l.rest ≤ g.row.N;
}

abbrev pub decreases-loop-many : goal.decreases-loop-many
decreases-loop-many g l = length l.rest

abbrev pub invariant-loop-some : goal.invariant-loop-some
invariant-loop-some g l = record {
  laid : l.out.items ++ hex_of l.rest ≡ l.fn.out.items ++ hex_of l.fn.bytes;
  room : array_vec_len l.out + 2 * length l.rest ≤ g.row.N;
}

abbrev pub decreases-loop-some : goal.decreases-loop-some
decreases-loop-some g l = length l.rest

-- the last bytes so far are laid
abbrev pub invariant-loop-b : goal.invariant-loop-b
invariant-loop-b g l = record {
  laid : l.out.items ≡ l.initial.out.items ++ hex_of (take l.b-index l.b-items);
  len : array_vec_len l.out ≡ array_vec_len l.initial.out + 2 * l.b-index;
}
