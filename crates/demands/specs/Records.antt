-- Records that no call hands out, so that no run of lines can reach them, as one table of equations; and the edge of the answer buffer, where
-- the definition has its number from a name. Assumes nothing.
use Rattle.std.specs.Prelude.{◌≡◌, List, [], ◌∷◌, Bool, true, false, ℕ, get_or, replicate}
use Rattle.crc_a.specs.CrcA.{with_crc}
use Rattle.tag.specs.declared.state.Wait.TheVariants.{ToIdle, ToHalt}
use Rattle.tag.specs.declared.state.State.{State}
use Rattle.tag.specs.declared.state.State.TheVariants.{Idle, Halt, Ready1, Ready2, Active}
use Rattle.tag.specs.declared.state.Tag.{Tag}
use Rattle.tag.specs.declared.record.TagRecord.{TagRecord}
use Rattle.tag.specs.State.{field_off}
use Rattle.tag.specs.Outcome.{silence, plain}
use Rattle.tag.specs.Record.{tag_of, field_loss}
use Rattle.radio.specs.Call.{Called, called}
use Rattle.two_wire.specs.declared.record.BusRecord.{BusRecord}
use Rattle.two_wire.specs.declared.answer.Reply.TheVariants.{Nothing, Declined, Byte}
use Rattle.two_wire.specs.declared.answer.Refusal.TheVariants.{WrongImage, WrongEvent, WrongMemory}
use Rattle.two_wire.specs.Region.{Lent, both}
use Rattle.two_wire.specs.Event as wires
use Rattle.two_wire.specs.Examples.{Whole}
use Rattle.demands.specs.Table.{plain as board, read0}

-- ---- the tag record

-- its four numbers: state, wait state, authenticated, answered
abbrev pub numbers : ℕ → ℕ → ℕ → ℕ → TagRecord
numbers s w g a = record { state = s; wait = w; authenticated = g; answered = a }

abbrev pub tag : State → Bool → Tag
tag s a = record { state = s; answered = a }

-- REQA, which wakes a tag in IDLE alone
abbrev pub reqa : List ℕ → ℕ → TagRecord → Called
reqa img room r = called img room r (0x26 ∷ []) 7 true

-- ---- the bus record, with gathered bytes of FFh, beside a data memory mem

abbrev pub bus : ℕ → ℕ → ℕ → BusRecord
bus phase held counter = record { phase = phase; held = held; counter = counter; bytes = replicate 64 0xFF }

abbrev pub sees : List ℕ → BusRecord → ℕ → wires.Does
sees mem r event = wires.does (both (board 45) mem) r event 0x11

-- at rest, or waiting for the device byte, with nothing gathered
abbrev pub empty : ℕ → ℕ → BusRecord
empty phase counter = record { phase = phase; held = 0; counter = counter; bytes = replicate 64 0 }

-- the buffers behind a stop
abbrev pub stored : List ℕ → BusRecord → Lent
stored mem r = wires.after (both (board 45) mem) (sees mem r 1).effect

pub record RecordCases : Type 0 where
  -- every number that has a meaning, and the largest of all at once
  pub states : (tag_of (numbers 0 0 0 0) ≡ tag Idle false) × (tag_of (numbers 1 0 0 0) ≡ tag Halt false) × (tag_of (numbers 2 0 0 0) ≡ tag (Ready1 ToIdle) false)
      × (tag_of (numbers 3 0 0 0) ≡ tag (Ready2 ToIdle) false) × (tag_of (numbers 4 0 0 0) ≡ tag (Active ToIdle false) false)
  pub largest : (tag_of (numbers 4 1 1 1) ≡ tag (Active ToHalt true) true) × (tag_of (numbers 3 1 0 1) ≡ tag (Ready2 ToHalt) true)
  -- a number that its state has no use for is passed over
  pub unused : (tag_of (numbers 0 1 1 1) ≡ tag Idle true) × (tag_of (numbers 1 1 1 0) ≡ tag Halt false) × (tag_of (numbers 2 1 1 0) ≡ tag (Ready1 ToHalt) false)
  -- "a tag record with no meaning here counts as after field loss": one number past its range, and far past
  pub no_state : (tag_of (numbers 5 1 1 1) ≡ field_off) × (tag_of (numbers 255 1 1 1) ≡ field_off)
  pub no_wait : (tag_of (numbers 4 2 1 1) ≡ field_off) × (tag_of (numbers 4 255 1 1) ≡ field_off)
  pub no_flag : (tag_of (numbers 4 1 2 1) ≡ field_off) × (tag_of (numbers 4 1 255 1) ≡ field_off)
  pub no_answered : (tag_of (numbers 4 1 1 2) ≡ field_off) × (tag_of (numbers 4 1 1 255) ≡ field_off)
  -- .. in the frame call: REQA wakes it, though its state is HALT, and no read counts as answered
  pub wakes : ((reqa (board 45) 1024 (numbers 1 0 0 2)).reply ≡ plain 16 0x44) × ((reqa (board 45) 1024 (numbers 1 0 0 2)).left ≡ numbers 2 0 0 0)
  pub sleeps : ((reqa (board 45) 1024 (numbers 1 0 0 1)).reply ≡ silence) × ((reqa (board 45) 1024 (numbers 1 0 0 1)).left ≡ numbers 1 0 0 1)
  -- .. READ 00h in READY1 enters ACTIVE unauthenticated, though the record's flag is set, which READY1 has no use for
  pub enters_out : (called (board 45) 1024 (numbers 2 1 1 0) (with_crc read0) 32 true).left ≡ numbers 4 1 0 1
  pub field_losses : (field_loss (numbers 4 1 1 2) ≡ numbers 0 0 0 0) × (field_loss (numbers 9 9 9 9) ≡ numbers 0 0 0 0) × (field_loss (numbers 4 1 1 1) ≡ numbers 0 0 0 0)
  -- "A refused call returns its number, no answer, the records it was given"
  pub refused_image : ((reqa [] 1024 (numbers 9 9 9 9)).refused ≡ 1) × ((reqa [] 1024 (numbers 9 9 9 9)).left ≡ numbers 9 9 9 9)
  -- "2: frame call: answer buffer under 1,024 bytes"
  pub refused_buffer : ((reqa (board 45) 1023 (numbers 9 9 9 9)).refused ≡ 2) × ((reqa (board 45) 1023 (numbers 9 9 9 9)).left ≡ numbers 9 9 9 9)
      × ((reqa (board 45) 1024 (numbers 9 9 9 9)).refused ≡ 0)

pub record BusCases (mem : List ℕ) : Type 0 where
  -- "such a bus record as stopped with nothing gathered, counter kept": its phase is none of the seven, whatever else it has
  pub rest_read : (sees mem (bus 7 5 0x4010) 3 ≡ wires.answered (Byte 0xFF) (bus 7 5 0x4010)) × (sees mem (bus 255 5 0x4010) 4 ≡ wires.answered (Byte 0xFF) (bus 255 5 0x4010))
  pub rest_sent : (sees mem (bus 7 5 0x4010) 2 ≡ wires.answered Declined (bus 7 5 0x4010)) × (sees mem (bus 255 5 0x4010) 2 ≡ wires.answered Declined (bus 255 5 0x4010))
  pub rest_starts : sees mem (bus 7 5 0x4010) 0 ≡ wires.answered Nothing (empty 1 0x4010)
  pub rest_stops : sees mem (bus 7 5 0x4010) 1 ≡ wires.answered Nothing (empty 0 0x4010)
  -- "4: bus call: event isn't one of the five"; "the records it was given"
  pub refused_event : wires.Refused WrongEvent 4 (bus 7 5 0x4010) (sees mem (bus 7 5 0x4010) 5)
  -- Q-1: "5, bus call with a data memory that isn't 16,384 bytes, after 1 and before 4": here it has no byte
  pub refused_memory : wires.Refused WrongImage 1 (bus 7 5 0x4010) (wires.does (both [] []) (bus 7 5 0x4010) 9 0) × wires.Refused WrongMemory 5 (bus 7 5 0x4010) (sees [] (bus 7 5 0x4010) 9)
  -- while writing, a count of 64 or more is of every place, and the next place goes by its remainder: bytes up to 403Fh, and then no more
  pub every_place : (get_or (stored mem (bus 4 255 0x4015)).image 0x14 0 ≡ 0xFF) × (get_or (stored mem (bus 4 255 0x4015)).image 0x3F 0 ≡ 0xFF)
      × (get_or (stored mem (bus 4 255 0x4015)).image 0x40 0 ≡ 0x10) × ((sees mem (bus 4 255 0x4015) 1).bus ≡ empty 0 0x4014)
  pub counts_on : ((sees mem (bus 4 255 0x4015) 2).bus.held ≡ 64) × ((sees mem (bus 4 127 0x4015) 2).bus.held ≡ 64) × ((sees mem (bus 4 63 0x4015) 2).bus.held ≡ 64)
  -- a write in a page that no region has stores nothing, and one in the data memory (Q-1) nothing in the image
  pub outside : (stored mem (bus 4 64 0x40C0) ≡ both (board 45) mem) × (stored mem (bus 4 64 0xFFC0) ≡ both (board 45) mem) × ((stored mem (bus 4 64 0x3FC0)).image ≡ board 45)
  -- a counter in neither region counts as 4000h, and one in the data memory doesn't
  pub counters : ((sees mem (bus 5 0 0x40B4) 3).bus.counter ≡ 0x4001) × ((sees mem (bus 5 0 0xFFFF) 3).bus.counter ≡ 0x4001) × ((sees mem (bus 5 0 0x3FFF) 3).bus.counter ≡ 0x0000)
      × ((sees mem (bus 5 0 0x40B3) 3).bus.counter ≡ 0x4000)

-- beside any data memory of a right length
abbrev pub EveryBusCase : Type 0
EveryBusCase = (mem : List ℕ) → Whole mem → BusCases mem
