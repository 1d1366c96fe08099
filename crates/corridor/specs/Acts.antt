-- How the program tells what it does to a board. Assumes nothing.
use Rattle.std.specs.Prelude.{ℕ, ◌≡◌, List, length, take}
use Rattle.lines.specs.declared.write.Answer.{Answer}
use Rattle.lines.specs.Told.{Told, tells, AnswerFits}
use Rattle.corridor.specs.Played.{Board, Played}

-- An answer tells this, whatever stands in the buffers beside it.
pub record Says (t : Told) (a : Answer) : Type 0 where
  pub fits : AnswerFits a
  pub told : (buf img : List ℕ) → tells a buf img ≡ t

-- An answer tells this of a board: its bytes are in buf, the answer buffer, or in the buffer at whose start the image stands.
pub record Tells (t : Told) (b : Board) (a : Answer) (buf : List ℕ) : Type 0 where
  pub fits : AnswerFits a
  pub told : (img : List ℕ) → take (length b.image) img ≡ b.image → tells a buf img ≡ t

-- A command was carried out: b is the board behind it, and buf the answer buffer.
pub record Acts (p : Played) (b : Board) (a : Answer) (buf : List ℕ) : Type 0 where
  pub board : b ≡ p.board
  pub told : Tells p.told b a buf

-- The same, whatever stands in the answer buffer.
pub record Leaves (p : Played) (b : Board) (a : Answer) : Type 0 where
  pub acts : (buf : List ℕ) → Acts p b a buf
