-- What a line of the workshop program says: the first column of the table of its lines. Assumes nothing.
use Rattle.std.specs.Prelude.{ℕ, ◌≤◌, ◌≡◌, List, [], ◌∷◌, take, get_or, Option, unwrap_or, Result}
use Rattle.words.specs.Text.{text}
use Rattle.words.specs.Word.{first_of}
use Rattle.words.specs.Args.{Form, number, dashed, Said}
use Rattle.words.specs.Rows.{Named, asks, row_in, Command, verb_by, verb_in, said_in, verb_asked}
use Rattle.words.specs.declared.rows.Asked.{Asked}
use Rattle.words.specs.declared.rows.Refused.{Refused}
use Rattle.jobs.specs.declared.read.Verb.{Verb}
use Rattle.jobs.specs.declared.read.Verb.TheVariants as verb

-- ---- the arguments

-- "SECONDS and WATTS are decimal, of one to ten digits, at most 4294967295"
abbrev pub seconds : Form
seconds = number 10 1 10 4294967295

abbrev pub watts : Form
watts = seconds

-- "HEX is bytes in pairs of hex digits, or `-` for none"; "An IMAGE, an AREA, .. are HEX of at most 1,100 bytes"
abbrev pub image : Form
image = dashed 1100

abbrev pub area : Form
area = image

-- ---- the commands: a word, its verb, how many of its arguments must be there, and the arguments

unfoldable pub commands : List (Named (Command Verb))
commands =
    asks (text "screen") (verb.Screen, 2, seconds ∷ image ∷ [])
    ∷ asks (text "reading") (verb.Reading, 3, seconds ∷ watts ∷ area ∷ [])
    ∷ asks (text "help") (verb.Help, 0, [])
    ∷ []

unfoldable pub row_of : List ℕ → Option (Command Verb)
row_of w = row_in commands w

-- ---- a whole line

-- the verb of the command that a line names, also where the line is too long, or not how its command is written
abbrev pub verb_named : List ℕ → Option Verb
verb_named line = verb_by (row_of (first_of line))

-- of a line that names no command the verb means nothing
abbrev pub verb_of : List ℕ → Verb
verb_of line = verb_in verb.Help (row_of (first_of line))

-- the verb that is handed out, which means nothing where there is none
abbrev pub verb_said : Result (Asked Verb) (Refused Verb) → Verb
verb_said r = unwrap_or (verb_asked r) verb.Help

-- "18,597 characters; a longer one is too long"
abbrev pub said_of : List ℕ → Said
said_of line = said_in 18597 (row_of (first_of line)) line

-- ---- how much a command may ask for, so that it fits the buffers

-- room for the bytes of all arguments of a line
abbrev pub sent_room : ℕ
sent_room = 1100

-- the numbers that are there may be looked up among all three
pub record AskedFits (r : Asked Verb) : Type 0 where
  pub end : r.given.end ≤ sent_room
  pub numbers : (j : ℕ) → get_or (take r.given.count r.given.numbers) j 0 ≡ get_or r.given.numbers j 0
