-- The line that answers a line: the last column of the table of the lines. Assumes nothing.
use Rattle.std.specs.Prelude.{ℕ, ◌+◌, ◌*◌, ◌/◌, ◌≤◌, Bool, List, [], ◌∷◌, take, drop}
use Rattle.words.specs.Text.{text}
use Rattle.laying.specs.Parts.{Part, word, flagged, number, four, hex, tail}
use Rattle.lines.specs.declared.write.Word.{Word}
use Rattle.lines.specs.declared.write.Word.TheVariants as words
use Rattle.lines.specs.declared.write.Answer.{Answer}
use Rattle.lines.specs.declared.write.Answer.TheVariants as answer

-- an answer with its bytes
pub data Told : Type 0 where
  taken : ℕ → Told
  lent : ℕ → Told
  lost : Told
  bits : ℕ → List ℕ → Told
  silence : Told
  refused : ℕ → Told
  done : Told
  acknowledged : Told
  declined : Told
  byte : ℕ → Told
  shown : List ℕ → Told
  help : Told
  -- a tag's state, in IDLE and HALT; in the others with the state to go back to, and whether authenticated; and whether a read was answered
  tag : Word → Bool → Told
  tag_back : Word → Word → Bool → Bool → Told
  -- a bus's phase and its counter; with the high byte held; with how many places are gathered
  bus : Word → ℕ → Told
  bus_low : ℕ → ℕ → Told
  bus_writing : ℕ → ℕ → Told
  page : List ℕ → Told
  -- how many bytes the data memory has; bytes of it
  memory : ℕ → Told
  recalled : List ℕ → Told
  no_such_command : Told
  not_so_written : Told
  too_long : Told

-- "one line that names the commands", each with the words that it takes
abbrev pub help_text : List ℕ
help_text =
    text "commands: image HEX, buffer N, field, frame BITS HEX, parity BITS HEX, start, stop, send HH, read ack, read nak, event N HH, show, show HH, tag, bus, memory N, recall HHHH N, help"

-- the words in which the records are told
abbrev pub word_text : Word → List ℕ
word_text words.Idle = text "idle"
word_text words.Halt = text "halt"
word_text words.Ready1 = text "ready1"
word_text words.Ready2 = text "ready2"
word_text words.Active = text "active"
word_text words.Rest = text "rest"
word_text words.Device = text "device"
word_text words.High = text "high"
word_text words.Reading = text "reading"
word_text words.Deaf = text "deaf"

-- the parts of its line
abbrev pub parts_of : Told → List Part
parts_of (taken n) = word (text "image ") ∷ number n ∷ []
parts_of (lent n) = word (text "buffer ") ∷ number n ∷ []
parts_of lost = word (text "field") ∷ []
parts_of (bits n xs) = word (text "answer ") ∷ number n ∷ tail xs ∷ []
parts_of silence = word (text "silence") ∷ []
parts_of (refused k) = word (text "refused ") ∷ number k ∷ []
parts_of done = word (text "done") ∷ []
parts_of acknowledged = word (text "ack") ∷ []
parts_of declined = word (text "nak") ∷ []
parts_of (byte b) = word (text "byte ") ∷ hex (b ∷ []) ∷ []
parts_of (shown xs) = word (text "image") ∷ tail xs ∷ []
parts_of help = word help_text ∷ []
-- "`tag idle`, `tag halt`", "with ` answered` behind it where a READ or FAST_READ was answered in this field"
parts_of (tag s a) = word (text "tag ") ∷ word (word_text s) ∷ flagged a (text " answered") ∷ []
-- "`tag ready1 W`, `tag ready2 W`, `tag active W` or `tag active W authenticated`", and ` answered` behind these too
parts_of (tag_back s w g a) =
    word (text "tag ") ∷ word (word_text s) ∷ word (text " ") ∷ word (word_text w) ∷ flagged g (text " authenticated") ∷ flagged a (text " answered") ∷ []
-- "`bus rest HHHH`, `bus device HHHH`, `bus high HHHH`", "`bus reading HHHH`, `bus deaf HHHH`; HHHH is the counter"
parts_of (bus p c) = word (text "bus ") ∷ word (word_text p) ∷ word (text " ") ∷ four c ∷ []
-- "`bus low HHHH HH` (the high address byte held)"
parts_of (bus_low c h) = word (text "bus low ") ∷ four c ∷ tail (h ∷ []) ∷ []
-- "`bus writing HHHH N` (how many places are gathered, 0 to 64)"
parts_of (bus_writing c n) = word (text "bus writing ") ∷ four c ∷ word (text " ") ∷ number n ∷ []
-- "`page HEX`": "`page` alone where it has none of them"
parts_of (page xs) = word (text "page") ∷ tail xs ∷ []
-- Q-1: "`memory N`"; "`memory HEX`"
parts_of (memory n) = word (text "memory ") ∷ number n ∷ []
parts_of (recalled xs) = word (text "memory") ∷ tail xs ∷ []
-- "Instead of `error` alone"
parts_of no_such_command = word (text "error: no such command") ∷ []
parts_of not_so_written = word (text "error: not how this command is written") ∷ []
parts_of too_long = word (text "error: line too long") ∷ []

-- ---- an answer of the code, and the buffers beside it

-- "bits packed least significant first": so many bits take their number, rounded up to bytes
abbrev pub bytes_in : ℕ → ℕ
bytes_in n = (n + 7) / 8

-- "those of the four bytes of page HH that the image has"
abbrev pub page_in : ℕ → List ℕ → List ℕ
page_in p img = take 4 (drop (4 * p) img)

-- what an answer tells, its bytes taken from the answer buffer or the image
abbrev pub tells : Answer → List ℕ → List ℕ → Told
tells (answer.Taken n) buf img = taken n
tells (answer.Lent n) buf img = lent n
tells answer.Lost buf img = lost
tells (answer.Bits n) buf img = bits n (take (bytes_in n) buf)
tells answer.Silence buf img = silence
tells (answer.Refused k) buf img = refused k
tells answer.Done buf img = done
tells answer.Acknowledged buf img = acknowledged
tells answer.Declined buf img = declined
tells (answer.Byte b) buf img = byte b
tells (answer.Shown n) buf img = shown (take n img)
tells answer.Help buf img = help
tells (answer.Tag s a) buf img = tag s a
tells (answer.TagBack s w g a) buf img = tag_back s w g a
tells (answer.Bus p c) buf img = bus p c
tells (answer.BusLow c h) buf img = bus_low c h
tells (answer.BusWriting c n) buf img = bus_writing c n
tells (answer.Page p n) buf img = page (page_in p (take n img))
tells (answer.Memory n) buf img = memory n
tells (answer.Recalled n) buf img = recalled (take n buf)
tells answer.NoSuchCommand buf img = no_such_command
tells answer.NotSoWritten buf img = not_so_written
tells answer.TooLong buf img = too_long

-- an answer of at most 1,024 bytes, which is 8,192 bits, an image of at most 1,024, and as many recalled
abbrev pub AnswerFits : Answer → Type 0
AnswerFits (answer.Taken n) = Unit
AnswerFits (answer.Lent n) = Unit
AnswerFits answer.Lost = Unit
AnswerFits (answer.Bits n) = n ≤ 8192
AnswerFits answer.Silence = Unit
AnswerFits (answer.Refused k) = Unit
AnswerFits answer.Done = Unit
AnswerFits answer.Acknowledged = Unit
AnswerFits answer.Declined = Unit
AnswerFits (answer.Byte b) = Unit
AnswerFits (answer.Shown n) = n ≤ 1024
AnswerFits answer.Help = Unit
AnswerFits (answer.Tag s a) = Unit
AnswerFits (answer.TagBack s w g a) = Unit
AnswerFits (answer.Bus p c) = Unit
AnswerFits (answer.BusLow c h) = Unit
AnswerFits (answer.BusWriting c n) = Unit
AnswerFits (answer.Page p n) = n ≤ 1024
AnswerFits (answer.Memory n) = Unit
AnswerFits (answer.Recalled n) = n ≤ 1024
AnswerFits answer.NoSuchCommand = Unit
AnswerFits answer.NotSoWritten = Unit
AnswerFits answer.TooLong = Unit
