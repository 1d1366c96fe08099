-- Document 01's examples of the two wires, and cases of document 02's Q-1, as equations of the definitions. Assumes nothing.
use Rattle.std.specs.Prelude.{◌≡◌, ℕ, ◌+◌, ◌*◌, List, [], ◌∷◌, length, replicate, slice_index, slice_set}
use Rattle.two_wire.specs.Region.{both, memory_length, region_in, region_of}
use Rattle.two_wire.specs.Record.{entered, at_rest}
use Rattle.two_wire.specs.Answer.{answer_of}
use Rattle.two_wire.specs.Event.{byte_sent, Refused, does}
use Rattle.two_wire.specs.Run.{Wires, answer_to, after_start, after_stop, after_write, after_bytes, after_read_code, answers_to}
use Rattle.two_wire.specs.declared.answer.BusAnswer.{BusAnswer}
use Rattle.two_wire.specs.declared.record.BusRecord.{BusRecord}
use Rattle.two_wire.specs.declared.record.Phase.TheVariants.{Rest}
use Rattle.two_wire.specs.declared.answer.Reply.TheVariants.{Acknowledged, Declined, Byte}
use Rattle.two_wire.specs.declared.answer.Refusal.TheVariants.{WrongImage, WrongEvent, WrongMemory}
use Rattle.two_wire.specs.declared.region.Buffer.TheVariants.{Image, Memory}

-- an image of n pages, all zeros
abbrev pub blank : ℕ → List ℕ
blank n = replicate (4 * n + 4) 0

-- a data memory, whatever its bytes are
abbrev pub Whole : List ℕ → Type 0
Whole mem = length mem ≡ memory_length

-- beside it a blank image and a bus at rest
abbrev pub fresh : ℕ → List ℕ → Wires
fresh n mem = record { lent = both (blank n) mem; bus = at_rest }

-- 01: "four bytes sent to 407Eh land at 407Eh, 407Fh, 4040h, 4041h", and no other byte changes
abbrev pub RollsOver : ℕ → Type 0
RollsOver n = (a b c d : ℕ) (mem : List ℕ) → Whole mem
    → (after_stop (after_write (fresh n mem) 0x40 0x7E (a ∷ b ∷ c ∷ d ∷ []))).lent ≡ both (slice_set (slice_set (slice_set (slice_set (blank n) 0x7E a) 0x7F b) 0x40 c) 0x41 d) mem

-- the same at the end of the data memory: 3FFEh, 3FFFh, 3FC0h, 3FC1h
abbrev pub RollsOverInMemory : ℕ → Type 0
RollsOverInMemory n = (a b c d : ℕ) (mem : List ℕ) → Whole mem
    → (after_stop (after_write (fresh n mem) 0x3F 0xFE (a ∷ b ∷ c ∷ d ∷ []))).lent ≡ both (blank n) (slice_set (slice_set (slice_set (slice_set mem 0x3FFE a) 0x3FFF b) 0x3FC0 c) 0x3FC1 d)

-- the answer to the low byte of an address, after the high one
abbrev pub answer_to_low : ℕ → List ℕ → ℕ → ℕ → BusAnswer
answer_to_low n mem h l = answer_to (after_bytes (after_start (fresh n mem)) (0xA0 ∷ h ∷ [])) byte_sent l

-- reads from 3FFFh go on at 0000h
abbrev pub ReadsRound : ℕ → Type 0
ReadsRound n = (mem : List ℕ) → Whole mem
    → answers_to (after_read_code (after_write (fresh n mem) 0x3F 0xFF [])) 3 ≡ answer_of (Byte (slice_index mem 0x3FFF)) ∷ answer_of (Byte (slice_index mem 0)) ∷ answer_of (Byte (slice_index mem 1)) ∷ []

pub record WireExamples : Type 0 where
  pub rolls45 : RollsOver 45
  pub rolls135 : RollsOver 135
  pub rolls231 : RollsOver 231
  -- "N=45: 40B3h acknowledged, 40B4h not."
  pub inside : (mem : List ℕ) → Whole mem → answer_to_low 45 mem 0x40 0xB3 ≡ answer_of Acknowledged
  pub outside : (mem : List ℕ) → Whole mem → answer_to_low 45 mem 0x40 0xB4 ≡ answer_of Declined
  -- "Start, A0h, address, data, start, stop: nothing stored", and the counter stays at the address sent
  pub dropped : (b : ℕ) (mem : List ℕ) → Whole mem
      → after_stop (after_start (after_write (fresh 45 mem) 0x40 0x10 (b ∷ []))) ≡ record { lent = both (blank 45) mem; bus = entered at_rest Rest 0x4010 }

-- Q-1's, of a size
pub record MemoryExamples (n : ℕ) : Type 0 where
  pub rolls : RollsOverInMemory n
  pub round : ReadsRound n
  -- 3FFFh and 4000h are in different regions, and "A low address byte is acknowledged if it falls in either"
  pub apart : (region_of n 0x3FFF ≡ region_in n Memory) × (region_of n 0x4000 ≡ region_in n Image)
  pub acknowledged : (mem : List ℕ) → Whole mem
      → (answer_to_low n mem 0x00 0x00 ≡ answer_of Acknowledged) × (answer_to_low n mem 0x3F 0xFF ≡ answer_of Acknowledged) × (answer_to_low n mem 0x40 0x00 ≡ answer_of Acknowledged)
  -- "5, .. after 1 and before 4": of an event that isn't one of the five, where image and data memory are wrong too, the data memory alone, neither
  pub order : (r : BusRecord) (b : ℕ) → Refused WrongImage 1 r (does (both [] []) r 9 b) × Refused WrongMemory 5 r (does (both (blank n) []) r 9 b)
      × ((mem : List ℕ) → Whole mem → Refused WrongEvent 4 r (does (both (blank n) mem) r 9 b))
