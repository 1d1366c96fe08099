-- How the program tells what it does. Assumes nothing.
use Rattle.std.specs.Prelude.{ℕ, ◌≡◌, List}
use Rattle.jobs.specs.declared.write.Answer.{Answer}
use Rattle.jobs.specs.Told.{Told, tells, AnswerFits}

-- An answer tells this: its bytes are in the buffer of the line's bytes, which are xs.
pub record Tells (t : Told) (a : Answer) (xs : List ℕ) : Type 0 where
  pub fits : AnswerFits a
  pub told : tells a xs ≡ t

-- The same, whatever stands in that buffer.
pub record Says (t : Told) (a : Answer) : Type 0 where
  pub fits : AnswerFits a
  pub told : (xs : List ℕ) → tells a xs ≡ t
