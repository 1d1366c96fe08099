-- `words::word::number_in` meets its contract. Assumes nothing.
use Prim.Native.Nat.{◌≤◌}
use lib.ListN.{drop}
use mathlib.Core.Path.{◌≡◌}
use Rattle.words.specs.Word.{value_from}
use Rattle.words.proofs.word.number_in.Given as goal

abbrev pub invariant-loop-b : goal.invariant-loop-b
invariant-loop-b l = (l.n ≤ l.numeral.most) × (value_from l.numeral.base l.n (drop l.b-index l.word) ≡ value_from l.numeral.base 0 l.word)
