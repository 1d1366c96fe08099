-- A table of commands: a word and its row, whatever rows a program has. Assumes nothing.
use Rattle.std.specs.Borrow.{Bor}
use Rattle.std.specs.Prelude.{ℕ, ◌≤◌, ◌≡◌, ◌≢◌, true, cond, List, [], ◌∷◌, ◌++◌, map, ltb, length, Option, Some, None, option_map, option_copied, Result, Ok, Err}
use Rattle.std.specs.Bool.{Decides}
use Rattle.std.specs.List.{All, find}
use Rattle.std.specs.Str.{bytes_eq}
use Rattle.words.specs.Args.{Form, forms_of, Said, unknown, long, argued, room_for, GivenFits}
use Rattle.words.specs.declared.args.Refusal.{Refusal}
use Rattle.words.specs.declared.args.Given.{Given}
use Rattle.words.specs.declared.rows.Row.{Row}
use Rattle.words.specs.declared.rows.Asked.{Asked}
use Rattle.words.specs.declared.rows.Refused.{Refused}

pub data Named (R : Type 0) : Type 0 where
  asks : List ℕ → R → Named R

-- the row of a word, where a row has it
abbrev pub row_in : {R : Type 0} → List (Named R) → List ℕ → Option R
row_in [] w = None
row_in (asks l r ∷ ns) w = cond (bytes_eq l w) (Some r) (row_in ns w)

-- a command: its verb, how many of its arguments must be there, and the arguments
abbrev pub Command : Type 0 → Type 0
Command V = V × ℕ × List Form

-- ---- a whole line

-- what follows a command's word says; a line whose word is no command's says that alone
abbrev pub argued_by : {V : Type 0} → Option (Command V) → List ℕ → Said
argued_by None w = unknown
argued_by (Some c) w = argued c.1 c.2 w

-- a line of at most so many characters
unfoldable pub said_in : {V : Type 0} → ℕ → Option (Command V) → List ℕ → Said
said_in longest c w = cond (ltb longest (length w)) long (argued_by c w)

-- the verb of a command, where there is one
abbrev pub verb_by : {V : Type 0} → Option (Command V) → Option V
verb_by c = option_map (λ r. r.0) c

-- the verb of a command; `other`, which means nothing, where there is no command
abbrev pub verb_in : {V : Type 0} → V → Option (Command V) → V
verb_in other None = other
verb_in other (Some c) = c.0

-- ---- the table that the code has, and what it hands out

abbrev pub command_of : {V : Type 0} → Row V → Command V
command_of r = (r.verb, r.needed, forms_of r.kinds.now)

-- the command of a row that is lent, where there is one
abbrev pub command_in : {V : Type 0} → Option (Bor (Row V)) → Option (Command V)
command_in r = option_map command_of (option_copied r)

abbrev pub named : {V : Type 0} → Row V → Named (Command V)
named r = asks r.word.now (command_of r)

abbrev pub rows_of : {V : Type 0} → List (Row V) → List (Named (Command V))
rows_of rs = map named rs

-- no command has more than three arguments, and their bytes fit so much room
abbrev pub CommandFits : {V : Type 0} → ℕ → Command V → Type 0
CommandFits room c = (length c.2 ≤ 3) × (room_for c.2 ≤ room)

abbrev pub TableFits : {V : Type 0} → ℕ → List (Named (Command V)) → Type 0
TableFits room [] = Unit
TableFits room (asks l c ∷ ns) = CommandFits room c × TableFits room ns

-- what was asked for without its verb
abbrev pub given_of : {V : Type 0} → Result (Asked V) (Refused V) → Result Given Refusal
given_of (Ok a) = Ok a.given
given_of (Err e) = Err e.refusal

-- the verb that a line asks for, whether or not the line is refused
abbrev pub verb_asked : {V : Type 0} → Result (Asked V) (Refused V) → Option V
verb_asked (Ok a) = Some a.verb
verb_asked (Err e) = e.verb

-- it has the verb of the command, and arguments that fit it
abbrev pub Asks : {V : Type 0} → Option (Command V) → Asked V → Type 0
Asks None a = ⊥
Asks (Some c) a = (a.verb ≡ c.0) × (length c.2 ≤ 3) × GivenFits c.2 a.given

-- ---- what is found for a word w

-- a word of a table is found just where it is w, so that no two words are taken for one another; the row that is found has the word w; and a row
-- that has it is found, unless one before it has it too
pub record ByWord {V : Type 0} (table : List (Row V)) (w : List ℕ) : Type 0 where
  pub just : (l : List ℕ) → Decides (bytes_eq l w) (l ≡ w)
  pub apart : (l v : List ℕ) → bytes_eq l w ≡ true → bytes_eq l v ≡ true → v ≡ w
  pub found : (r : Row V) → find (λ x. bytes_eq x.word.now w) table ≡ Some r → r.word.now ≡ w
  pub first : (front back : List (Row V)) (r : Row V) → table ≡ front ++ (r ∷ back) → All (λ x. x.word.now ≢ w) front → r.word.now ≡ w
      → find (λ x. bytes_eq x.word.now w) table ≡ Some r
