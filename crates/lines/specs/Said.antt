-- What a line says: the first column of the table of the lines. Assumes nothing.
use Rattle.std.specs.Prelude.{ℕ, ◌≤◌, ◌≡◌, List, [], ◌∷◌, take, get_or, Option, unwrap_or, Result}
use Rattle.words.specs.Text.{text}
use Rattle.words.specs.Word.{first_of}
use Rattle.words.specs.Args.{Form, number, either, hex, Said}
use Rattle.words.specs.Rows.{Named, asks, row_in, Command, verb_by, verb_in, said_in, verb_asked}
use Rattle.words.specs.declared.args.Given.{Given}
use Rattle.words.specs.declared.rows.Asked.{Asked}
use Rattle.words.specs.declared.rows.Refused.{Refused}
use Rattle.lines.specs.declared.read.Verb.{Verb}
use Rattle.lines.specs.declared.read.Verb.TheVariants as verb

-- ---- the arguments

-- "Numbers are decimal, of one to five digits, at most 65535"
abbrev pub numeral : Form
numeral = number 10 1 5 65535

-- "of N bytes, 0 to 1,024"
abbrev pub kilo : Form
kilo = number 10 1 5 1024

-- Q-1: "of N bytes, 0 to 16,384"
abbrev pub memory_room : Form
memory_room = number 10 1 5 16384

-- Q-1: "`recall HHHH N`": the four digits of an address
abbrev pub address : Form
address = number 16 4 4 65535

-- "HH is one byte"
abbrev pub byte : Form
byte = number 16 2 2 255

-- "`read ack`, `read nak`"
abbrev pub ack_nak : Form
ack_nak = either (text "ack") (text "nak")

-- "this image, of 0 to 1,024 bytes"
abbrev pub image_hex : Form
image_hex = hex 1024

-- "`show HH`": one byte
abbrev pub page_hex : Form
page_hex = hex 1

-- "HEX has at most 8,192 bytes"
abbrev pub frame_hex : Form
frame_hex = hex 8192

-- ---- the commands: a word, its verb, how many of its arguments must be there, and the arguments

unfoldable pub commands : List (Named (Command Verb))
commands =
    asks (text "image") (verb.Image, 0, image_hex ∷ [])
    ∷ asks (text "buffer") (verb.Buffer, 1, kilo ∷ [])
    ∷ asks (text "field") (verb.Field, 0, [])
    ∷ asks (text "frame") (verb.Frame, 1, numeral ∷ frame_hex ∷ [])
    ∷ asks (text "parity") (verb.Parity, 1, numeral ∷ frame_hex ∷ [])
    ∷ asks (text "start") (verb.Start, 0, [])
    ∷ asks (text "stop") (verb.Stop, 0, [])
    ∷ asks (text "send") (verb.Send, 1, byte ∷ [])
    ∷ asks (text "read") (verb.Read, 1, ack_nak ∷ [])
    ∷ asks (text "event") (verb.Event, 2, numeral ∷ byte ∷ [])
    -- `show` alone, and `show HH`
    ∷ asks (text "show") (verb.Show, 0, page_hex ∷ [])
    ∷ asks (text "help") (verb.Help, 0, [])
    ∷ asks (text "tag") (verb.Tag, 0, [])
    ∷ asks (text "bus") (verb.Bus, 0, [])
    ∷ asks (text "memory") (verb.Memory, 1, memory_room ∷ [])
    ∷ asks (text "recall") (verb.Recall, 2, address ∷ kilo ∷ [])
    ∷ []

unfoldable pub row_of : List ℕ → Option (Command Verb)
row_of w = row_in commands w

-- ---- a whole line

-- the verb of the command that a line names, also where the line is too long, or not how its command is written
abbrev pub verb_named : List ℕ → Option Verb
verb_named line = verb_by (row_of (first_of line))

-- of a line that names no command the verb means nothing
abbrev pub verb_of : List ℕ → Verb
verb_of line = verb_in verb.Help (row_of (first_of line))

-- the verb that is handed out, which means nothing where there is none
abbrev pub verb_said : Result (Asked Verb) (Refused Verb) → Verb
verb_said r = unwrap_or (verb_asked r) verb.Help

-- "a line of more than 16,397 characters"
abbrev pub said_of : List ℕ → Said
said_of line = said_in 16397 (row_of (first_of line)) line

-- ---- how much a command may ask for, so that it fits the buffers and a byte

abbrev pub Fits : Verb → Given → Type 0
Fits verb.Image g = g.end ≤ 1024
Fits verb.Buffer g = get_or g.numbers 0 0 ≤ 1024
Fits verb.Field g = Unit
Fits verb.Frame g = Unit
Fits verb.Parity g = Unit
Fits verb.Start g = Unit
Fits verb.Stop g = Unit
Fits verb.Send g = get_or g.numbers 0 0 ≤ 255
Fits verb.Read g = get_or g.numbers 0 0 ≤ 1
Fits verb.Event g = get_or g.numbers 1 0 ≤ 255
Fits verb.Show g = Unit
Fits verb.Help g = Unit
Fits verb.Tag g = Unit
Fits verb.Bus g = Unit
Fits verb.Memory g = get_or g.numbers 0 0 ≤ 16384
Fits verb.Recall g = (get_or g.numbers 0 0 ≤ 65535) × (get_or g.numbers 1 0 ≤ 1024)

-- the numbers that are there may be looked up among all three
pub record AskedFits (r : Asked Verb) : Type 0 where
  pub end : r.given.end ≤ 8192
  pub numbers : (j : ℕ) → get_or (take r.given.count r.given.numbers) j 0 ≡ get_or r.given.numbers j 0
  pub verb : Fits r.verb r.given
