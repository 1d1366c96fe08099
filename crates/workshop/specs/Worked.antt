-- What the workshop program does with a line: the table of its lines, over the definitions of the calls. Assumes nothing.
use Rattle.std.specs.Prelude.{ℕ, cond, List, eqb, get_or, Ok, Err}
use Rattle.screen.specs.Screen.{Seen, seen, refusal_number}
use Rattle.screen.specs.declared.reading.Verdict.{Verdict}
use Rattle.screen.specs.declared.reading.Verdict.TheVariants.{Live, Old, Ahead}
use Rattle.logger.specs.Writer.{Written, written}
use Rattle.words.specs.Args.{Said, given, unknown, wrong, long}
use Rattle.laying.specs.Parts.{line_text}
use Rattle.input.specs.Lines.{Program}
use Rattle.jobs.specs.declared.read.Verb.{Verb}
use Rattle.jobs.specs.declared.read.Verb.TheVariants as verb
use Rattle.jobs.specs.Said.{verb_of, said_of}
use Rattle.jobs.specs.Told.{Told, live, old, ahead, area, refused, help, no_such_command, not_so_written, too_long, parts_of}

-- "`live WATTS`, `old WATTS`, `ahead WATTS`, or `refused K`"
abbrev pub verdict_told : Verdict → ℕ → Told
verdict_told Live watts = live watts
verdict_told Old watts = old watts
verdict_told Ahead watts = ahead watts

abbrev pub screen_told : Seen → Told
screen_told (Ok shown) = verdict_told shown.verdict shown.watts
screen_told (Err refusal) = refused (refusal_number refusal)

-- "`area HEX`, or `refused K`"
unfoldable pub written_told : Written → Told
written_told w = cond (eqb w.refused 0) (area w.area) (refused w.refused)

-- each line of the table: n and m are its first two numbers, and xs are its bytes
abbrev pub worked : Verb → ℕ → ℕ → List ℕ → Told
-- "what the screen says of the image at that present second"
worked verb.Screen n m xs = screen_told (seen xs n)
-- "the area with the reading written into it"
worked verb.Reading n m xs = written_told (written n m xs)
worked verb.Help n m xs = help

-- "any other line than those below is answered by one of the three `error: ..` lines"
abbrev pub answered : Verb → Said → Told
answered v (given ns xs) = worked v (get_or ns 0 0) (get_or ns 1 0) xs
answered v unknown = no_such_command
answered v wrong = not_so_written
answered v long = too_long

-- "answers each by one line, but keeps nothing from one line to the next"
unfoldable pub program : Program Unit
program = record { opening = tt; answer = (λ k l. line_text (parts_of (answered (verb_of l) (said_of l)))); next = (λ k l. k) }
