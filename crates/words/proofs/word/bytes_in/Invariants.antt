-- `words::word::bytes_in` meets its contract. Assumes nothing.
use Prim.Native.Nat.{◌+◌, ◌*◌}
use lib.ListN.{length, take}
use mathlib.Core.Path.{◌≡◌}
use mathlib.Core.List.{◌++◌}
use Rattle.words.specs.Word.{all_pairs, pairs_of}
use Rattle.words.proofs.word.bytes_in.Given as goal

abbrev pub invariant-loop-i : goal.invariant-loop-i
invariant-loop-i l = (l.i-iterator.iter.size ≡ 2)
    × (2 * l.i-iterator.count + length l.i-iterator.iter.rest.now ≡ length l.word)
    × (all_pairs l.i-iterator.iter.rest.now ≡ all_pairs l.word)
    × (take (l.at + l.i-iterator.count) l.bytes ++ pairs_of l.i-iterator.iter.rest.now ≡ take l.at l.initial.bytes ++ pairs_of l.word)
