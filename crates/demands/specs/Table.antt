-- Document 01's examples that are marked P, and two of our own, as one table of equations. "Unless said: right frames in ACTIVE, not
-- authenticated, locks clear, AUTH0 FFh." Assumes nothing.
use Rattle.std.specs.Prelude.{◌≡◌, List, [], ◌∷◌, true, false, ℕ, ◌+◌, ◌-◌, ◌*◌, ◌/◌, length, get_or}
use Rattle.std.proofs.lemmas.List.Edits.{sets}
use Rattle.crc_a.specs.CrcA.{with_crc}
use Rattle.image.specs.Layout.{page_at}
use Rattle.image.specs.Uid.{bcc0, bcc1}
use Rattle.image.specs.Write.{locked}
use Rattle.image.specs.Tail.{counter}
use Rattle.tag.specs.declared.state.Wait.TheVariants.{ToIdle, ToHalt}
use Rattle.tag.specs.declared.state.State.TheVariants.{Ready1, Ready2, Active}
use Rattle.tag.specs.declared.state.Tag.{Tag}
use Rattle.tag.specs.State.{field_off}
use Rattle.tag.specs.Outcome.{build, Reply, silence, nibble, bytes, bits_of, answer_of, keep, apply}
use Rattle.tag.specs.Record.{record_of}
use Rattle.radio.specs.Call.{Called, called}
use Rattle.two_wire.specs.Examples.{RollsOver, MemoryExamples}

-- ---- the boards

-- n pages, each byte the number of its page; locks clear, AUTH0 and ACCESS as given, and the tail
abbrev pub board : ℕ → ℕ → ℕ → List ℕ → List ℕ
board n auth0 access tail =
    sets (sets (sets (sets (build (λ j. j / 4) (4 * n + 4)) 10 (0 ∷ 0 ∷ [])) (4 * (n - 5)) (0 ∷ 0 ∷ 0 ∷ [])) (4 * (n - 4) + 3) (auth0 ∷ access ∷ [])) (4 * n) tail

abbrev pub zeros : List ℕ
zeros = 0 ∷ 0 ∷ 0 ∷ 0 ∷ []

abbrev pub plain : ℕ → List ℕ
plain n = board n 0xFF 0x00 zeros

abbrev pub with_uid : List ℕ
with_uid = sets (plain 45) 0 (0x1D ∷ 0xA2 ∷ 0x30 ∷ 0x00 ∷ 0x11 ∷ 0x09 ∷ 0x67 ∷ 0xEC ∷ [])

-- ---- the frames

abbrev pub in_active : Tag
in_active = record { state = Active ToIdle false; answered = false }

abbrev pub in_ready1 : Tag
in_ready1 = record { state = Ready1 ToIdle; answered = false }

-- woken from HALT
abbrev pub in_ready2 : Tag
in_ready2 = record { state = Ready2 ToHalt; answered = false }

-- a right frame
abbrev pub asked_in : Tag → List ℕ → List ℕ → Called
asked_in t img command = called img 1024 (record_of t) (with_crc command) (8 * (length command + 2)) true

abbrev pub asked : List ℕ → List ℕ → Called
asked = asked_in in_active

abbrev pub left : List ℕ → List ℕ → List ℕ
left img command = apply img (asked img command).effect

-- the bytes of four pages, each given by its number
abbrev pub pages_of : ℕ → ℕ → ℕ → ℕ → List ℕ
pages_of a b c d = a ∷ a ∷ a ∷ a ∷ b ∷ b ∷ b ∷ b ∷ c ∷ c ∷ c ∷ c ∷ d ∷ d ∷ d ∷ d ∷ []

abbrev pub nak0 : Reply
nak0 = nibble 0x0

abbrev pub ack : Reply
ack = nibble 0xA

-- ---- the cases

abbrev pub authlim2 : List ℕ
authlim2 = board 45 0xFF 0x02 zeros

-- PWD_AUTH with four equal bytes; the PWD page of this board is 2Bh four times
abbrev pub password : ℕ → List ℕ
password b = 0x1B ∷ b ∷ b ∷ b ∷ b ∷ []

abbrev pub counting : List ℕ
counting = board 45 0xFF 0x10 (0xFE ∷ 0xFF ∷ 0xFF ∷ 0x00 ∷ [])

abbrev pub read0 : List ℕ
read0 = 0x30 ∷ 0x00 ∷ []

abbrev pub first_locks : List ℕ
first_locks = left (plain 45) (0xA2 ∷ 0x02 ∷ 0xFF ∷ 0xFF ∷ 0x01 ∷ 0x00 ∷ [])

abbrev pub second_write : List ℕ
second_write = 0xA2 ∷ 0x02 ∷ 0x00 ∷ 0x00 ∷ 0x08 ∷ 0x00 ∷ []

abbrev pub capability : List ℕ
capability = sets (plain 45) 12 (0xE1 ∷ 0x10 ∷ 0x12 ∷ 0x00 ∷ [])

abbrev pub lock_bit0 : List ℕ
lock_bit0 = sets (plain 45) (4 * 0x28) (0x01 ∷ [])

abbrev pub locked_four : List ℕ
locked_four = sets (plain 45) 10 (0x10 ∷ [])

abbrev pub write_four : List ℕ
write_four = 0xA2 ∷ 0x04 ∷ 0x01 ∷ 0x02 ∷ 0x03 ∷ 0x04 ∷ []

-- a board of 45 pages with this UID whose first settings page begins with these three bytes: the mirror's mode and byte, one that does nothing,
-- and its page
abbrev pub mirroring : ℕ → ℕ → ℕ → List ℕ → List ℕ
mirroring conf page access tail =
    sets (sets (board 45 0xFF access tail) 0 (0x1D ∷ 0xA2 ∷ 0x30 ∷ 0x00 ∷ 0x11 ∷ 0x09 ∷ 0x67 ∷ 0xEC ∷ [])) (4 * 0x29) (conf ∷ 0x00 ∷ page ∷ [])

abbrev pub counter_102e : List ℕ
counter_102e = 0x2E ∷ 0x10 ∷ 0x00 ∷ 0x00 ∷ []

abbrev pub in_active_granted : Tag
in_active_granted = record { state = Active ToIdle true; answered = true }

pub record ProvedTable : Type 0 where
  -- "UID 1D A2 30 11 09 67 EC has BCC0 07h, BCC1 93h."
  pub uid : (bcc0 with_uid ≡ 0x07) × (bcc1 with_uid ≡ 0x93)
  -- "N=231, READ E4h: pages E4h, E5h, E6h, 00h; E7h: NAK 0h.", ACCESS being 00h and PWD and PACK zeros
  pub read_end : (asked (plain 231) (0x30 ∷ 0xE4 ∷ [])).reply ≡ bytes (0x00 ∷ 0xE4 ∷ 0xE4 ∷ 0xE4 ∷ 0 ∷ 0 ∷ 0 ∷ 0 ∷ 0 ∷ 0 ∷ 0 ∷ 0 ∷ 0 ∷ 0 ∷ 0 ∷ 0 ∷ [])
  pub read_past : (asked (plain 231) (0x30 ∷ 0xE7 ∷ [])).reply ≡ nak0
  -- "AUTH0 60h, PROT 1, N=135: READ 5Fh gives 5Fh, 00h, 01h, 02h; 60h NAK 0h. (.. 59h gives 59h-5Ch.)", bytes 10 and 11 of page 02h being clear
  pub read_protected : (asked (board 135 0x60 0x80 zeros) (0x30 ∷ 0x5F ∷ [])).reply
      ≡ bytes (0x5F ∷ 0x5F ∷ 0x5F ∷ 0x5F ∷ 0 ∷ 0 ∷ 0 ∷ 0 ∷ 1 ∷ 1 ∷ 1 ∷ 1 ∷ 2 ∷ 2 ∷ 0 ∷ 0 ∷ [])
  pub read_guarded : (asked (board 135 0x60 0x80 zeros) (0x30 ∷ 0x60 ∷ [])).reply ≡ nak0
  pub read_below : (asked (board 135 0x60 0x80 zeros) (0x30 ∷ 0x59 ∷ [])).reply ≡ bytes (pages_of 0x59 0x5A 0x5B 0x5C)
  -- "AUTH0 01h, PROT 1: READ 00h gives page 0 four times."
  pub read_round : (asked (board 45 0x01 0x80 zeros) read0).reply ≡ bytes (pages_of 0 0 0 0)
  -- "FAST_READ 04h 04h: four bytes; 05h 04h: NAK 0h."
  pub fast_one : (asked (plain 45) (0x3A ∷ 0x04 ∷ 0x04 ∷ [])).reply ≡ bytes (4 ∷ 4 ∷ 4 ∷ 4 ∷ [])
  pub fast_back : (asked (plain 45) (0x3A ∷ 0x05 ∷ 0x04 ∷ [])).reply ≡ nak0
  -- "clear locks; WRITE 02h FF FF 01 00, then 00 00 08 00: both ACK, byte 10 is 01h."
  pub block_first : (asked (plain 45) (0xA2 ∷ 0x02 ∷ 0xFF ∷ 0xFF ∷ 0x01 ∷ 0x00 ∷ [])).reply ≡ ack
  pub lock_second : (asked first_locks second_write).reply ≡ ack
  pub blocked : get_or (left first_locks second_write) 10 0 ≡ 0x01
  -- "page 3 E1 10 12 00 with 00 01 00 00 becomes E1 11 12 00."
  pub gained : page_at (left capability (0xA2 ∷ 0x03 ∷ 0x00 ∷ 0x01 ∷ 0x00 ∷ 0x00 ∷ [])) 3 ≡ record { b0 = 0xE1; b1 = 0x11; b2 = 0x12; b3 = 0x00 }
  -- "N=45, lock bit 0 locks 10h and 11h, not 12h."
  pub lock_bit : (locked 45 lock_bit0 0x10 ≡ true) × (locked 45 lock_bit0 0x11 ≡ true) × (locked 45 lock_bit0 0x12 ≡ false)
  -- "counter on: FFFFFEh counts to FFFFFFh, and stays in the next field."
  pub counts : counter 45 (left counting read0) ≡ 0xFFFFFF
  pub stays : counter 45 (left (left counting read0) read0) ≡ 0xFFFFFF
  -- "AUTHLIM 2: after two wrong passwords the right one gets NAK 0h.", which it does not after one
  pub limit : (asked (left (left authlim2 (password 0x00)) (password 0x01)) (password 0x2B)).reply ≡ nak0
  pub below : (asked (left authlim2 (password 0x00)) (password 0x2B)).reply ≡ bytes (0x2C ∷ 0x2C ∷ [])
  -- "READY1, 93h 24h and bits 8h: 36 bits answered; bits 9h: silence."
  pub collision : (bits_of (called with_uid 1024 (record_of in_ready1) (0x93 ∷ 0x24 ∷ 0x08 ∷ []) 20 true).reply ≡ 36)
      × (answer_of (called with_uid 1024 (record_of in_ready1) (0x93 ∷ 0x24 ∷ 0x08 ∷ []) 20 true).reply ≡ 0xD8 ∷ 0x21 ∷ 0x0A ∷ 0x73 ∷ 0x00 ∷ [])
  pub other : (called with_uid 1024 (record_of in_ready1) (0x93 ∷ 0x24 ∷ 0x09 ∷ []) 20 true).reply ≡ silence
  -- "four bytes sent to 407Eh land at 407Eh, 407Fh, 4040h, 4041h.", at each size
  pub wires : (RollsOver 45) × (RollsOver 135) × (RollsOver 231)
  -- Q-1's: the same at 3FFEh, reads from 3FFFh on, the addresses on both sides of 4000h, and the order of the refusals, at each size
  pub memory : (MemoryExamples 45) × (MemoryExamples 135) × (MemoryExamples 231)
  -- Q-2's: READ 00h in READY1 answers pages 0 to 3, and the tag is in ACTIVE; with AUTH0 00h and PROT it is NAK 0h, and the tag is in IDLE
  pub at_once : ((asked_in in_ready1 (plain 45) read0).reply ≡ bytes (0 ∷ 0 ∷ 0 ∷ 0 ∷ 1 ∷ 1 ∷ 1 ∷ 1 ∷ 2 ∷ 2 ∷ 0 ∷ 0 ∷ 3 ∷ 3 ∷ 3 ∷ 3 ∷ []))
      × ((asked_in in_ready1 (plain 45) read0).left ≡ record_of (record { state = Active ToIdle false; answered = true }))
  pub at_once_guarded : ((asked_in in_ready1 (board 45 0x00 0x80 zeros) read0).reply ≡ nak0) × ((asked_in in_ready1 (board 45 0x00 0x80 zeros) read0).left ≡ record_of field_off)
  -- and READ 04h: silence, wait state
  pub at_once_other : ((asked_in in_ready1 (plain 45) (0x30 ∷ 0x04 ∷ [])).reply ≡ silence) × ((asked_in in_ready1 (plain 45) (0x30 ∷ 0x04 ∷ [])).left ≡ record_of field_off)
  -- in READY2 it counts, and HALT stays the wait state of a tag that was woken from there
  pub at_once_counts : (counter 45 (apply counting (asked_in in_ready2 counting read0).effect) ≡ 0xFFFFFF)
      × ((asked_in in_ready2 counting read0).left ≡ record_of (record { state = Active ToHalt false; answered = true }))
  -- Q-3's: "UID 1D A2 30 11 09 67 EC from byte 1 of page 0Ch reads 1DA230110967EC.", by READ and by FAST_READ
  pub mirror_uid : (asked (mirroring 0x50 0x0C 0x00 zeros) (0x30 ∷ 0x0C ∷ [])).reply
      ≡ bytes (0x0C ∷ 0x31 ∷ 0x44 ∷ 0x41 ∷ 0x32 ∷ 0x33 ∷ 0x30 ∷ 0x31 ∷ 0x31 ∷ 0x30 ∷ 0x39 ∷ 0x36 ∷ 0x37 ∷ 0x45 ∷ 0x43 ∷ 0x0F ∷ [])
  pub mirror_fast : (asked (mirroring 0x50 0x0C 0x00 zeros) (0x3A ∷ 0x0E ∷ 0x10 ∷ [])).reply
      ≡ bytes (0x31 ∷ 0x30 ∷ 0x39 ∷ 0x36 ∷ 0x37 ∷ 0x45 ∷ 0x43 ∷ 0x0F ∷ 0x10 ∷ 0x10 ∷ 0x10 ∷ 0x10 ∷ [])
  -- both at once, over the ends of pages; the counter is at 00102Eh, and its own READ shows 00102F: 7ECx 0010 2F
  pub mirror_both : (asked (mirroring 0xD0 0x0C 0x10 counter_102e) (0x30 ∷ 0x0F ∷ [])).reply
      ≡ bytes (0x37 ∷ 0x45 ∷ 0x43 ∷ 0x78 ∷ 0x30 ∷ 0x30 ∷ 0x31 ∷ 0x30 ∷ 0x32 ∷ 0x46 ∷ 0x11 ∷ 0x11 ∷ 0x12 ∷ 0x12 ∷ 0x12 ∷ 0x12 ∷ [])
  -- the counter alone, one byte further; of a counter at FFFFFFh it shows FFFFFF
  pub mirror_counter : (asked (mirroring 0xA0 0x04 0x10 (0xFF ∷ 0xFF ∷ 0xFF ∷ 0x00 ∷ [])) (0x30 ∷ 0x04 ∷ [])).reply
      ≡ bytes (0x04 ∷ 0x04 ∷ 0x46 ∷ 0x46 ∷ 0x46 ∷ 0x46 ∷ 0x46 ∷ 0x46 ∷ 0x06 ∷ 0x06 ∷ 0x06 ∷ 0x06 ∷ 0x07 ∷ 0x07 ∷ 0x07 ∷ 0x07 ∷ [])
  -- the last place for the UID, byte 2 of page 24h, and one character too far; "A page below 04h": 03h
  pub mirror_last : (asked (mirroring 0x60 0x24 0x00 zeros) (0x30 ∷ 0x24 ∷ [])).reply
      ≡ bytes (0x24 ∷ 0x24 ∷ 0x31 ∷ 0x44 ∷ 0x41 ∷ 0x32 ∷ 0x33 ∷ 0x30 ∷ 0x31 ∷ 0x31 ∷ 0x30 ∷ 0x39 ∷ 0x36 ∷ 0x37 ∷ 0x45 ∷ 0x43 ∷ [])
  pub mirror_far : (asked (mirroring 0x70 0x24 0x00 zeros) (0x30 ∷ 0x24 ∷ [])).reply ≡ bytes (pages_of 0x24 0x25 0x26 0x27)
  pub mirror_low : (asked (mirroring 0x70 0x03 0x00 zeros) (0x30 ∷ 0x03 ∷ [])).reply ≡ bytes (pages_of 3 4 5 6)
  -- both, with the counter off, under password, and under password for a tag that is authenticated: not even the UID, but for the last
  pub mirror_off : (asked (mirroring 0xC0 0x0C 0x00 counter_102e) (0x30 ∷ 0x0C ∷ [])).reply ≡ bytes (pages_of 0x0C 0x0D 0x0E 0x0F)
  pub mirror_guarded : (asked (mirroring 0xC0 0x0C 0x18 counter_102e) (0x30 ∷ 0x0C ∷ [])).reply ≡ bytes (pages_of 0x0C 0x0D 0x0E 0x0F)
  pub mirror_granted : (asked_in in_active_granted (mirroring 0xC0 0x0C 0x18 counter_102e) (0x3A ∷ 0x0F ∷ 0x11 ∷ [])).reply
      ≡ bytes (0x45 ∷ 0x43 ∷ 0x78 ∷ 0x30 ∷ 0x30 ∷ 0x31 ∷ 0x30 ∷ 0x32 ∷ 0x45 ∷ 0x11 ∷ 0x11 ∷ 0x11 ∷ [])
  -- our own: a block bit and a lock under it, set at once: the old block bits decide
  pub together : get_or (left (plain 45) (0xA2 ∷ 0x02 ∷ 0x00 ∷ 0x00 ∷ 0x09 ∷ 0x00 ∷ [])) 10 0 ≡ 0x09
  -- our own: a locked page that a WRITE doesn't change
  pub locked_page : ((asked locked_four write_four).reply ≡ nak0) × ((asked locked_four write_four).effect ≡ keep)
