-- How a program holds the part of its input that it has read. Assumes nothing.
use Rattle.std.specs.Prelude.{ℕ, ◌≡◌, Bool, true, false, ◌||◌, List, ◌++◌, eqb, length, take, Option}
use Rattle.std.specs.Io.KnownBytes.{Consumes}
use Rattle.input.specs.Lines.{first_line, has_newline, behind_line}
use Rattle.input.specs.declared.Step.{Step}
use Rattle.input.specs.declared.Step.TheVariants as step

-- no command of any program is a longer line
abbrev pub longest : ℕ
longest = 18597

-- the line buffer has two bytes more, and so much of a line is kept
abbrev pub line_room : ℕ
line_room = 18599

abbrev pub kept : List ℕ → List ℕ
kept l = take line_room l

-- where an input keeps it: in a chunk of bytes from one place to another, and in the first bytes of a line's buffer
pub record Places : Type 0 where
  pub chunk : List ℕ
  pub at : ℕ
  pub end : ℕ
  pub buffer : List ℕ
  pub len : ℕ

-- What of the input is read and still to be looked at, and what there is of the line. No promise speaks of its places: with them an input can be copied.
pub record Held : Type 0 where
  pub ahead : List ℕ
  pub line : List ℕ
  pub places : Places

-- the line is whole: its newline, or the end of the input, has come
abbrev pub is_whole : Step → Bool
is_whole step.Part = false
is_whole step.Line = true
is_whole step.End = true

-- the input has ended
abbrev pub is_over : Step → Bool
is_over step.Part = false
is_over step.Line = false
is_over step.End = true

-- What is ahead then, where a was: what is behind its first line; or, where nothing was ahead, what one read gave, and the input is over
-- where that is nothing.
pub record Moves (a : List ℕ) (s : Step) (r : Held) : Type 0 where
  pub behind : (length a ≡ 0 → ⊥) → r.ahead ≡ behind_line a
  pub over : is_over s ≡ true → length a ≡ 0
  pub ended : length a ≡ 0 → is_over s ≡ eqb (length r.ahead) 0

-- One step of the input, from i to r: the line goes on up to a newline.
pub record Advances (i : Held) (s : Step) (r : Held) : Type 0 where
  pub line : r.line ≡ kept (i.line ++ first_line i.ahead)
  pub whole : is_whole s ≡ (has_newline i.ahead || is_over s)
  pub moves : Moves i.ahead s r

-- What a step, from i to r, took of a reader, which had the bytes a to give before it and has b behind it, where it says which: where nothing was
-- ahead, what is ahead then; and else none.
pub record Takes (a b : Option (List ℕ)) (i r : Held) : Type 0 where
  pub read : length i.ahead ≡ 0 → Consumes a b r.ahead
  pub rests : (length i.ahead ≡ 0 → ⊥) → b ≡ a
