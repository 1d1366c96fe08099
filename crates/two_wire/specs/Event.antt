-- What each event on the two wires does, after document 01's "Two wires" and Q-1 of document 02. Assumes nothing.
use Rattle.std.specs.Prelude.{◌≡◌, ℕ, cond, length, ◌==◌, Option, Some, None, Result, Ok, Err}
use Rattle.basics.specs.Bytes.{low_first}
use Rattle.image.specs.Layout.{size_of}
use Rattle.two_wire.specs.Span.{following}
use Rattle.two_wire.specs.Region.{Lent, memory_length, region_of, in_either, read_at, byte_at}
use Rattle.two_wire.specs.Record.{phase_of, is_in, holding, entered, gathers}
use Rattle.two_wire.specs.Answer.{returned}
use Rattle.two_wire.specs.Gathered.{stored_in, counter_after}
use Rattle.two_wire.specs.declared.answer.Reply.{Reply}
use Rattle.two_wire.specs.declared.answer.Reply.TheVariants.{Nothing, Acknowledged, Declined, Byte}
use Rattle.two_wire.specs.declared.answer.Refusal.{Refusal}
use Rattle.two_wire.specs.declared.answer.Refusal.TheVariants.{WrongImage, WrongEvent, WrongMemory}
use Rattle.two_wire.specs.declared.record.BusRecord.{BusRecord}
use Rattle.two_wire.specs.declared.record.Phase.{Phase}
use Rattle.two_wire.specs.declared.record.Phase.TheVariants.{Rest, Device, High, Low, Writing, Reading, Deaf}
use Rattle.two_wire.specs.declared.region.Region.{Region}
use Rattle.two_wire.specs.declared.event.Event.{Event}
use Rattle.two_wire.specs.declared.event.Event.TheVariants.{Start, Stop, Sent, ReadAck, ReadLast}
use Rattle.two_wire.specs.declared.event.BusStep.{BusStep}

-- "Events: start, stop, byte sent, byte read with ACK, byte read without."
abbrev pub start : ℕ
start = 0

abbrev pub stop : ℕ
stop = 1

abbrev pub byte_sent : ℕ
byte_sent = 2

abbrev pub byte_read_ack : ℕ
byte_read_ack = 3

abbrev pub byte_read_last : ℕ
byte_read_last = 4

-- "4: bus call: event isn't one of the five"
abbrev pub event_of : ℕ → Result Event Refusal
event_of k =
    cond (k == start) (Ok Start)
    (cond (k == stop) (Ok Stop)
    (cond (k == byte_sent) (Ok Sent)
    (cond (k == byte_read_ack) (Ok ReadAck)
    (cond (k == byte_read_last) (Ok ReadLast)
    (Err WrongEvent)))))

-- what an event does to the lent buffers: they stay, or the gathered bytes of a record land in the one behind a region
pub data Effect : Type 0 where
  keep : Effect
  land : Region → BusRecord → Effect

unfoldable pub after : Lent → Effect → Lent
after l keep = l
after l (land g r) = stored_in g.buffer g.span r l

-- what an event does: its reply, or why the call is refused; the record to keep; and the effect
pub record Does : Type 0 where
  pub reply : Result Reply Refusal
  pub bus : BusRecord
  pub effect : Effect

-- a reply that keeps the buffers: with a record, or with the record in another phase, with nothing gathered
abbrev pub answered : Reply → BusRecord → Does
answered reply r = record { reply = Ok reply; bus = r; effect = keep }

abbrev pub enters : Reply → BusRecord → Phase → ℕ → Does
enters reply r p counter = answered reply (entered r p counter)

-- "Start: expect the device byte and drop an unfinished write, the counter staying at the address sent."
abbrev pub started : BusRecord → Does
started r = enters Nothing r Device r.counter

-- "A0h and A1h are acknowledged, others not, and the tag is then deaf until start or stop."
abbrev pub write_code : ℕ
write_code = 0xA0

abbrev pub read_code : ℕ
read_code = 0xA1

unfoldable pub device : BusRecord → ℕ → Does
device r b =
    cond (b == write_code) (enters Acknowledged r High r.counter)
    (cond (b == read_code) (enters Acknowledged r Reading r.counter)
    (enters Declined r Deaf r.counter))

-- 01: "low acknowledged exactly if the address is in the window, setting the counter, else deaf with the counter kept"; 02: "A low address
-- byte is acknowledged if it falls in either region."
unfoldable pub addressed : ℕ → BusRecord → ℕ → Does
addressed n r a = cond (in_either n a) (enters Acknowledged r Writing a) (enters Declined r Deaf r.counter)

-- "After A0h: high address acknowledged; low .. Data bytes are acknowledged and gathered"; "a byte sent at any other time isn't
-- acknowledged, and in a read makes the tag deaf"
abbrev pub sent_in : Phase → ℕ → BusRecord → ℕ → Does
sent_in Device n r b = device r b
sent_in High n r b = answered Acknowledged (holding r Low b r.counter)
sent_in Low n r b = addressed n r (low_first b r.held)
sent_in Writing n r b = answered Acknowledged (gathers r b)
sent_in Reading n r b = enters Declined r Deaf r.counter
sent_in Rest n r b = answered Declined r
sent_in Deaf n r b = answered Declined r

unfoldable pub sent : ℕ → BusRecord → ℕ → Does
sent n r b = sent_in (phase_of r.phase) n r b

-- "Stop stores the gathered bytes ..; if any were gathered, the counter becomes the place after the last data byte .. The bus is then at
-- rest." They go to the region of the address sent.
unfoldable pub stopped : ℕ → BusRecord → Does
stopped n r =
    cond (is_in Writing r) (record { reply = Ok Nothing; bus = entered r Rest (counter_after r); effect = land (region_of n r.counter) r })
    (enters Nothing r Rest r.counter)

-- 01: "After A1h each read gives the counter's byte and advances, last to first"; 02: "A sequential read stays in its own region and rolls
-- from its last byte to its first." The tag goes on in the phase p.
unfoldable pub read_on : Phase → ℕ → Lent → BusRecord → Does
read_on p n l r =
    let a = read_at n r.counter in
    enters (Byte (byte_at n l a)) r p (following (region_of n a).span a)

-- "A read at any other time gives FFh and changes nothing"
abbrev pub no_byte : ℕ
no_byte = 0xFF

unfoldable pub read : Phase → ℕ → Lent → BusRecord → Does
read p n l r = cond (is_in Reading r) (read_on p n l r) (answered (Byte no_byte) r)

-- "A refused call returns its number, no answer, the records it was given, and every buffer untouched."
abbrev pub refuses : Refusal → BusRecord → Does
refuses k r = record { reply = Err k; bus = r; effect = keep }

-- that an outcome o is this, with the number that C sees
pub record Refused (k : Refusal) (number : ℕ) (r : BusRecord) (o : Does) : Type 0 where
  pub outcome : o ≡ refuses k r
  pub answer : returned o.reply ≡ record { refused = number; kind = 0; value = 0 }

-- "Events: start, stop, byte sent, byte read with ACK, byte read without."; "A read without ACK makes the tag deaf."
abbrev pub on_event : ℕ → Lent → BusRecord → Event → ℕ → Does
on_event n l r Start b = started r
on_event n l r Stop b = stopped n r
on_event n l r Sent b = sent n r b
on_event n l r ReadAck b = read Reading n l r
on_event n l r ReadLast b = read Deaf n l r

-- an event that is one of the five, or not
abbrev pub by_name : ℕ → Lent → BusRecord → Result Event Refusal → ℕ → Does
by_name n l r (Ok e) b = on_event n l r e b
by_name n l r (Err k) b = refuses k r

unfoldable pub by_event : ℕ → Lent → BusRecord → ℕ → ℕ → Does
by_event n l r event b = by_name n l r (event_of event) b

-- 02: "5, bus call with a data memory that isn't 16,384 bytes, after 1 and before 4"
unfoldable pub by_memory : ℕ → Lent → BusRecord → ℕ → ℕ → Does
by_memory n l r event b = cond (length l.memory == memory_length) (by_event n l r event b) (refuses WrongMemory r)

-- "1: image length isn't 184, 544 or 928"; "Tested in this order."
unfoldable pub by_size : Option ℕ → Lent → BusRecord → ℕ → ℕ → Does
by_size None l r event b = refuses WrongImage r
by_size (Some n) l r event b = by_memory n l r event b

-- all that an event does, whatever the buffers, the record, the event and the byte are
unfoldable pub does : Lent → BusRecord → ℕ → ℕ → Does
does l r event b = by_size (size_of (length l.image)) l r event b

-- The promise: the answer is the reply of o in numbers, or its refusal, the record left is its, and the buffers are l after its effect.
pub record Did (o : Does) (s : BusStep) (l l' : Lent) : Type 0 where
  pub answer : s.answer ≡ returned o.reply
  pub bus : s.bus ≡ o.bus
  pub lent : l' ≡ after l o.effect

-- The same of what isn't lent the buffers, which o is to keep.
pub record Says (o : Does) (s : BusStep) : Type 0 where
  pub answer : s.answer ≡ returned o.reply
  pub bus : s.bus ≡ o.bus
  pub effect : o.effect ≡ keep
