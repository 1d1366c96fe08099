-- A program that answers lines, and what is read of its lines before they are judged. Assumes nothing.
use Rattle.std.specs.Prelude.{ℕ, ◌+◌, ◌-◌, Bool, true, cond, List, [], eqb, ltb, length, take, drop, get_or}
use Rattle.basics.specs.Runs.{index_of}

-- "A carriage return at the end of a line is dropped": one, which is 13, before the line is judged
unfoldable pub unended : List ℕ → List ℕ
unended line = let last = length line - 1 in cond (eqb (get_or line last 0) 13) (take last line) line

-- "Empty lines, and lines that begin with `#`, are skipped and answered by nothing". `#` is 35.
unfoldable pub is_skipped : List ℕ → Bool
is_skipped line = cond (eqb (length line) 0) true (eqb (get_or line 0 0) 35)

-- what a program keeps from line to line: at the start, and behind a line; and the line that answers a line
pub record Program (Kept : Type 0) : Type 0 where
  pub opening : Kept
  pub answer : Kept → List ℕ → List ℕ
  pub next : Kept → List ℕ → Kept

-- the whole of a line
unfoldable pub answer_to : {Kept : Type 0} → Program Kept → Kept → List ℕ → List ℕ
answer_to p k line = let l = unended line in cond (is_skipped l) [] (p.answer k l)

unfoldable pub kept_after : {Kept : Type 0} → Program Kept → Kept → List ℕ → Kept
kept_after p k line = let l = unended line in cond (is_skipped l) k (p.next k l)

-- ---- bytes, up to their first newline, which is 10

abbrev pub first_line : List ℕ → List ℕ
first_line a = take (index_of 10 a) a

abbrev pub has_newline : List ℕ → Bool
has_newline a = ltb (index_of 10 a) (length a)

abbrev pub behind_line : List ℕ → List ℕ
behind_line a = drop (index_of 10 a + 1) a
