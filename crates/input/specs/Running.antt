-- A program over its whole input, line by line. Assumes nothing.
use Rattle.std.specs.Prelude.{ℕ, ◌+◌, ◌*◌, ◌<◌, ◌≤◌, ◌≡◌, Bool, true, false, cond, ◌||◌, List, [], ◌∷◌, ◌++◌, eqb, length, Option}
use Rattle.std.specs.Io.KnownBytes.{Consumes}
use Rattle.input.specs.Lines.{Program, answer_to, kept_after, first_line, has_newline}
use Rattle.input.specs.Reading.{longest, kept, Held, is_over, Moves}
use Rattle.input.specs.declared.Step.{Step}
use Rattle.input.specs.declared.Ending.{Ending}
use Rattle.input.specs.declared.Ending.TheVariants as ending

-- ---- the whole input

-- what is kept, and the characters of a line that hasn't ended yet
pub record Typing (Kept : Type 0) : Type 0 where
  pub kept : Kept
  pub line : List ℕ

-- more characters of the line come, and its end with them or not: what is kept then, and what is said
abbrev pub came : {Kept : Type 0} → Program Kept → Typing Kept → List ℕ → Bool → Typing Kept
came p t xs ended = cond ended (record { kept = kept_after p t.kept (t.line ++ xs); line = [] }) (record { kept = t.kept; line = t.line ++ xs })

abbrev pub told : {Kept : Type 0} → Program Kept → Typing Kept → List ℕ → Bool → List ℕ
told p t xs ended = cond ended (answer_to p t.kept (t.line ++ xs)) []

-- "it reads commands, one a line": a newline, which is 10, ends the line, and any other byte is one more character of it
unfoldable pub typed : {Kept : Type 0} → Program Kept → Typing Kept → List ℕ → Typing Kept
typed p t [] = t
typed p t (b ∷ r) = typed p (cond (eqb b 10) (came p t [] true) (came p t (b ∷ []) false)) r

abbrev pub start : {Kept : Type 0} → Program Kept → Typing Kept
start p = record { kept = p.opening; line = [] }

-- "The end of the input ends the program, and a last line without its newline counts": what is left of it is its last line
unfoldable pub kept_at_end : {Kept : Type 0} → Program Kept → List ℕ → Kept
kept_at_end p all = (came p (typed p (start p) all) [] true).kept

-- ---- one turn

-- Lines that are longer than any command are alike to the program, so that no more of one has to be kept than shows that it is so long.
pub record LongAlike {Kept : Type 0} (p : Program Kept) : Type 0 where
  pub answer : (k : Kept) (l l' : List ℕ) → longest < length l → longest < length l' → p.answer k l ≡ p.answer k l'
  pub next : (k : Kept) (l l' : List ℕ) → longest < length l → longest < length l' → p.next k l ≡ p.next k l'

-- The program stands at t: k is what it keeps, and i its input.
pub record Stands {Kept : Type 0} (t : Typing Kept) (k : Kept) (i : Held) : Type 0 where
  pub keeps : k ≡ t.kept
  pub line : i.line ≡ kept t.line

-- One turn, from t with a ahead: the line ends with a newline, or with the input; and what is said.
pub record Turns {Kept : Type 0} (p : Program Kept) (t : Typing Kept) (a : List ℕ) (s : Step) (k : Kept) (i : Held) (said : List ℕ) : Type 0 where
  pub stands : Stands (came p t (first_line a) (has_newline a || is_over s)) k i
  pub text : said ≡ told p t (first_line a) (has_newline a || is_over s)
  pub moves : Moves a s i

-- One turn, wherever the program stands: k and i before it, k', i' and what is said behind it.
pub record Goes {Kept : Type 0} (p : Program Kept) (k : Kept) (i : Held) (s : Step) (k' : Kept) (i' : Held) (said : List ℕ) : Type 0 where
  pub on : (t : Typing Kept) → Stands t k i → Turns p t i.ahead s k' i' said

-- ---- a whole run

-- There is an input behind which the program stands, but for what is ahead, after so many turns: no two turns pass without a byte of it. It is what
-- was read, from a reader that had the bytes a to give and has b now, where the reader says which: standard input doesn't, so that none can name it.
pub record Reached {Kept : Type 0} (p : Program Kept) (a b : Option (List ℕ)) (turns : ℕ) (k : Kept) (i : Held) : Type 0 where
  pub all : List ℕ
  pub read : Consumes a b all
  pub typing : Typing Kept
  pub stands : Stands typing k i
  pub same : typed p typing i.ahead ≡ typed p (start p) all
  pub few : turns + length i.ahead ≤ 2 * length all

-- It stands behind the end of an input, which is what was read.
pub record AtEnd {Kept : Type 0} (p : Program Kept) (a b : Option (List ℕ)) (k : Kept) : Type 0 where
  pub all : List ℕ
  pub read : Consumes a b all
  pub kept : k ≡ kept_at_end p all

-- Where the input ended, the last step says so, and the program stands behind the end of an input; where the turns were used up, it has made so many.
abbrev pub Ends : {Kept : Type 0} → Program Kept → Option (List ℕ) → Option (List ℕ) → Ending → Step → Kept → Type 0
Ends p a b ending.Over s k = (is_over s ≡ true) × AtEnd p a b k
Ends p a b ending.Worn s k = (i : Held) × Reached p a b 18446744073709551615 k i
