-- `laying::lay` meets its contract. Assumes nothing.
use Rattle.std.proofs.Common.{◌≡◌, ◌+◌, ◌≤◌, ◌++◌, drop}
use Rattle.arrayvec.specs.ArrayVec.{array_vec_len}
use Rattle.laying.specs.Parts.{line_text, parts_laid, room_for}
use Rattle.laying.proofs.lay.Given as goal

-- what is laid and what is left are the line
abbrev pub invariant-loop-part : goal.invariant-loop-part
invariant-loop-part g l = record {
  line : l.out.items ++ line_text (parts_laid (drop l.part-index l.parts)) ≡ line_text (parts_laid l.parts);
  room : array_vec_len l.out + room_for (parts_laid (drop l.part-index l.parts)) ≤ g.row.N;
}
