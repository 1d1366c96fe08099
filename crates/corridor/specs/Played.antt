-- What the corridor program does with a line: the table of the lines, over the definitions of the tag. Assumes nothing.
use Rattle.std.specs.Prelude.{ℕ, ◌+◌, Bool, true, false, cond, ◌&&◌, List, [], ◌∷◌, eqb, leb, ltb, length, take, drop, get_or, replicate}
use Rattle.tag.specs.Outcome.{Reply, bits_of, answer_of, apply}
use Rattle.tag.specs.declared.state.Wait.{Wait}
use Rattle.tag.specs.declared.state.Wait.TheVariants.{ToIdle, ToHalt}
use Rattle.tag.specs.declared.state.State.{State}
use Rattle.tag.specs.declared.state.State.TheVariants.{Idle, Halt, Ready1, Ready2, Active}
use Rattle.tag.specs.State.{field_off}
use Rattle.tag.specs.declared.record.TagRecord.{TagRecord}
use Rattle.tag.specs.Record.{tag_of, record_of, field_loss}
use Rattle.radio.specs.Call.{Called, called}
use Rattle.two_wire.specs.declared.record.BusRecord.{BusRecord}
use Rattle.two_wire.specs.declared.answer.BusAnswer.{BusAnswer}
use Rattle.two_wire.specs.declared.record.Phase.{Phase}
use Rattle.two_wire.specs.declared.record.Phase.TheVariants.{Rest, Device, High, Low, Writing, Reading, Deaf}
use Rattle.two_wire.specs.Region.{both, memory_length}
use Rattle.two_wire.specs.Record.{phase_of, at_rest}
use Rattle.two_wire.specs.Gathered.{gathered}
use Rattle.two_wire.specs.Answer as wires
use Rattle.two_wire.specs.Event.{after, does}
use Rattle.input.specs.Lines.{Program}
use Rattle.words.specs.Args.{Said, given, unknown, wrong, long}
use Rattle.laying.specs.Parts.{line_text}
use Rattle.lines.specs.declared.read.Verb.{Verb}
use Rattle.lines.specs.declared.read.Verb.TheVariants as verb
use Rattle.lines.specs.declared.write.Word.{Word}
use Rattle.lines.specs.declared.write.Word.TheVariants as word
use Rattle.lines.specs.Said.{verb_of, said_of}
use Rattle.lines.specs.Told as told
use Rattle.lines.specs.Told.{Told, page_in, parts_of}

-- what is kept from line to line
pub record Board : Type 0 where
  pub image : List ℕ
  pub lent : ℕ
  pub memory : List ℕ
  pub tag : TagRecord
  pub bus : BusRecord

-- bytes of a data memory, "all zeros"
unfoldable pub zeros : ℕ → List ℕ
zeros n = replicate n 0

-- "Before the first `image` line the image is empty"; the buffer has "at the start 1,024" bytes; Q-1: the data memory has zeros, "at the start
-- 16,384 of them"
abbrev pub opening : Board
opening = record { image = []; lent = 1024; memory = zeros memory_length; tag = record_of field_off; bus = at_rest }

-- the board that a line leaves, and its answer
pub record Played : Type 0 where
  pub board : Board
  pub told : Told

-- "takes this image ..; the tag record becomes field off, the bus record at rest with nothing gathered and counter 4000h; the buffer's
-- length stays"; Q-1: "An `image` line leaves it as it is."
unfoldable pub takes : Board → List ℕ → Played
takes b xs = record {
  board = record { image = xs; lent = b.lent; memory = b.memory; tag = record_of field_off; bus = at_rest };
  told = told.taken (length xs);
}

-- "lends every later frame an answer buffer of N bytes"
unfoldable pub lends : Board → ℕ → Played
lends b n = record { board = record { image = b.image; lent = n; memory = b.memory; tag = b.tag; bus = b.bus }; told = told.lent n }

-- Q-1: "lends every later two-wire event a data memory of N bytes, 0 to 16,384, all zeros"
unfoldable pub lends_memory : Board → ℕ → Played
lends_memory b n = record {
  board = record { image = b.image; lent = b.lent; memory = zeros n; tag = b.tag; bus = b.bus };
  told = told.memory n;
}

-- "the field is lost"
unfoldable pub loses : Board → Played
loses b = record { board = record { image = b.image; lent = b.lent; memory = b.memory; tag = field_loss b.tag; bus = b.bus }; told = told.lost }

-- "`answer BITS HEX`, `silence`, or `refused K`"
unfoldable pub reply_told : Reply → Told
reply_told r = cond (eqb (bits_of r) 0) told.silence (told.bits (bits_of r) (answer_of r))

unfoldable pub call_told : Called → Told
call_told c = cond (eqb c.refused 0) (reply_told c.reply) (told.refused c.refused)

-- "a frame of BITS bits whose parity is good", or bad
unfoldable pub hears : Board → ℕ → List ℕ → Bool → Played
hears b bits xs parity =
    let c = called b.image b.lent b.tag xs bits parity in
    record {
      board = record { image = apply b.image c.effect; lent = b.lent; memory = b.memory; tag = c.left; bus = b.bus };
      told = call_told c;
    }

-- "`done`", "`ack`, `nak`", "`byte HH`, or `refused K`"
unfoldable pub kind_told : ℕ → ℕ → Told
kind_told kind value = cond (eqb kind 0) told.done (cond (eqb kind 1) (cond (eqb value 0) told.declined told.acknowledged) (told.byte value))

unfoldable pub event_told : BusAnswer → Told
event_told a = cond (eqb a.refused 0) (kind_told a.kind a.value) (told.refused a.refused)

-- "the two-wire event of number N"
unfoldable pub sees : Board → ℕ → ℕ → Played
sees b number byte =
    let o = does (both b.image b.memory) b.bus number byte in
    let l = after (both b.image b.memory) o.effect in
    record {
      board = record { image = l.image; lent = b.lent; memory = l.memory; tag = b.tag; bus = o.bus };
      told = event_told (wires.returned o.reply);
    }

-- a line that leaves all as it was
abbrev pub answers : Board → Told → Played
answers b t = record { board = b; told = t }

-- "`image HEX`, the image as it stands"; of `show HH`, whose byte is in xs, "`page HEX`: those of the four bytes of page HH that the image has"
abbrev pub shows : List ℕ → List ℕ → Told
shows img [] = told.shown img
shows img (page ∷ xs) = told.page (page_in page img)

-- Q-1: "`memory HEX`: N bytes of the data memory, 1 to 1,024, from byte HHHH on; `error: not how this command is written` where they are not all
-- within it"
unfoldable pub recalls : List ℕ → ℕ → ℕ → Told
recalls mem at n = cond (ltb 0 n && leb (at + n) (length mem)) (told.recalled (take n (drop at mem))) told.not_so_written

-- "the tag record in words": "W being `idle` or `halt`, the state to go back to", and whether "a READ or FAST_READ was answered in this field"
abbrev pub wait_told : Wait → Word
wait_told ToIdle = word.Idle
wait_told ToHalt = word.Halt

abbrev pub state_told : State → Bool → Told
state_told Idle answered = told.tag word.Idle answered
state_told Halt answered = told.tag word.Halt answered
state_told (Ready1 w) answered = told.tag_back word.Ready1 (wait_told w) false answered
state_told (Ready2 w) answered = told.tag_back word.Ready2 (wait_told w) false answered
state_told (Active w authenticated) answered = told.tag_back word.Active (wait_told w) authenticated answered

unfoldable pub tag_told : TagRecord → Told
tag_told r = let t = tag_of r in state_told t.state t.answered

-- "the bus record in words": "HHHH is the counter", "the high address byte held", "how many places are gathered, 0 to 64"
abbrev pub phase_told : Phase → BusRecord → Told
phase_told Rest r = told.bus word.Rest r.counter
phase_told Device r = told.bus word.Device r.counter
phase_told High r = told.bus word.High r.counter
phase_told Low r = told.bus_low r.counter r.held
phase_told Writing r = told.bus_writing r.counter (gathered r)
phase_told Reading r = told.bus word.Reading r.counter
phase_told Deaf r = told.bus word.Deaf r.counter

unfoldable pub bus_told : BusRecord → Told
bus_told r = phase_told (phase_of r.phase) r

-- each line of the table: n and m are its first two numbers, and xs are its bytes
abbrev pub obeyed : Board → Verb → ℕ → ℕ → List ℕ → Played
obeyed b verb.Image n m xs = takes b xs
obeyed b verb.Buffer n m xs = lends b n
obeyed b verb.Field n m xs = loses b
obeyed b verb.Frame n m xs = hears b n xs true
obeyed b verb.Parity n m xs = hears b n xs false
obeyed b verb.Start n m xs = sees b 0 0
obeyed b verb.Stop n m xs = sees b 1 0
obeyed b verb.Send n m xs = sees b 2 n
-- "3 read with ACK, 4 read without": `ack` is 0 and `nak` 1
obeyed b verb.Read n m xs = sees b (3 + n) 0
obeyed b verb.Event n m xs = sees b n m
obeyed b verb.Show n m xs = answers b (shows b.image xs)
obeyed b verb.Help n m xs = answers b told.help
obeyed b verb.Tag n m xs = answers b (tag_told b.tag)
obeyed b verb.Bus n m xs = answers b (bus_told b.bus)
obeyed b verb.Memory n m xs = lends_memory b n
obeyed b verb.Recall n m xs = answers b (recalls b.memory n m)

-- "Instead of `error` alone: `error: no such command` where the first word is none of the commands .., `error: not how this command is
-- written` where what follows it is wrong, `error: line too long`, which goes before both". Each "changes nothing".
abbrev pub played : Board → Verb → Said → Played
played b v (given ns xs) = obeyed b v (get_or ns 0 0) (get_or ns 1 0) xs
played b v unknown = answers b told.no_such_command
played b v wrong = answers b told.not_so_written
played b v long = answers b told.too_long

-- The whole of the program: what a line is answered by, and the board that it leaves. It comes here as the reading of lines leaves it: "A
-- carriage return at the end of a line is dropped"; "Empty lines, and lines that begin with `#`, are skipped and answered by nothing".
abbrev pub program : Program Board
program = record {
  opening = opening;
  answer = (λ b l. line_text (parts_of (played b (verb_of l) (said_of l)).told));
  next = (λ b l. (played b (verb_of l) (said_of l)).board);
}
