use borrow.Author.Rules.{rules}
use native.Mathlib.Omega.{arith}
use Rattle.words.proofs.Reading.{number_large}
use Rattle.words.proofs.word.number_in.Goals as goal

pub returns-then-m-from-clause-value : goal.returns-then-m-from-clause-value
returns-then-m-from-clause-value c =
    number_large _ _ _ _ _ c.loop-b.b-index c.loop-b.n c.with_digit.result (search rules) c.with_digit.ensures (search rules) c.in_ok-m.m c.in_ok-m.was (omega arith)
