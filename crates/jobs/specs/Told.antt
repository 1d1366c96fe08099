-- The line that answers a line of the workshop program: the last column of the table of its lines. Assumes nothing.
use Rattle.std.specs.Prelude.{ℕ, ◌≤◌, List, [], ◌∷◌, take}
use Rattle.words.specs.Text.{text}
use Rattle.laying.specs.Parts.{Part, word, number, hex}
use Rattle.jobs.specs.Said.{sent_room}
use Rattle.jobs.specs.declared.write.Answer.{Answer}
use Rattle.jobs.specs.declared.write.Answer.TheVariants as answer

-- an answer with its bytes
pub data Told : Type 0 where
  live : ℕ → Told
  old : ℕ → Told
  ahead : ℕ → Told
  area : List ℕ → Told
  refused : ℕ → Told
  help : Told
  no_such_command : Told
  not_so_written : Told
  too_long : Told

-- the parts of an answer's line: "`live WATTS`, `old WATTS`, `ahead WATTS`, or `refused K`"; "`area HEX`, or `refused K`": an area that is told has
-- bytes, so that no `-` is needed; "`help` names the commands", each with the words that it takes; "any other line than those below is answered by
-- one of the three `error: ..` lines"
abbrev pub parts_of : Told → List Part
parts_of (live w) = word (text "live ") ∷ number w ∷ []
parts_of (old w) = word (text "old ") ∷ number w ∷ []
parts_of (ahead w) = word (text "ahead ") ∷ number w ∷ []
parts_of (area xs) = word (text "area ") ∷ hex xs ∷ []
parts_of (refused k) = word (text "refused ") ∷ number k ∷ []
parts_of help = word (text "commands: screen SECONDS IMAGE, reading SECONDS WATTS AREA, help") ∷ []
parts_of no_such_command = word (text "error: no such command") ∷ []
parts_of not_so_written = word (text "error: not how this command is written") ∷ []
parts_of too_long = word (text "error: line too long") ∷ []

-- ---- what the code hands out, and the buffer of the line's bytes

abbrev pub tells : Answer → List ℕ → Told
tells (answer.Live w) xs = live w
tells (answer.Old w) xs = old w
tells (answer.Ahead w) xs = ahead w
tells (answer.Area n) xs = area (take n xs)
tells (answer.Refused k) xs = refused k
tells answer.Help xs = help
tells answer.NoSuchCommand xs = no_such_command
tells answer.NotSoWritten xs = not_so_written
tells answer.TooLong xs = too_long

-- an answer has no more bytes than the buffer
abbrev pub AnswerFits : Answer → Type 0
AnswerFits (answer.Area n) = n ≤ sent_room
AnswerFits (answer.Live w) = Unit
AnswerFits (answer.Old w) = Unit
AnswerFits (answer.Ahead w) = Unit
AnswerFits (answer.Refused k) = Unit
AnswerFits answer.Help = Unit
AnswerFits answer.NoSuchCommand = Unit
AnswerFits answer.NotSoWritten = Unit
AnswerFits answer.TooLong = Unit
