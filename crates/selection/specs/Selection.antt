-- IDLE, HALT, READY1 and READY2, after document 01's "Radio states": f is a frame's bytes, bits its bit count. Assumes nothing.
use Rattle.std.specs.Prelude.{List, [], ◌∷◌, Bool, cond, ◌&&◌, ◌||◌, ℕ, ◌+◌, ◌-◌, ◌*◌, ◌/◌, ◌%◌, ◌^◌, eqb, leb}
use Rattle.crc_a.specs.CrcA.{crc_right}
use Rattle.image.specs.Uid.{uid, cascade_tag, bcc0, bcc1}
use Rattle.tag.specs.declared.state.Tag.{Tag}
use Rattle.tag.specs.State.{moved, woken, selected}
use Rattle.tag.specs.Outcome.{arg, silence, plain, keep, Does, does, lost, says}

-- ---- IDLE and HALT

-- "REQA (7 bits, 26h) or WUPA (7 bits, 52h)"
unfoldable pub is_reqa : List ℕ → ℕ → Bool
is_reqa f bits = eqb bits 7 && eqb (arg f 0) 0x26

unfoldable pub is_wupa : List ℕ → ℕ → Bool
is_wupa f bits = eqb bits 7 && eqb (arg f 0) 0x52

-- "answers 44h 00h, 16 bits, no CRC, to READY1"
unfoldable pub wakes : Tag → Does
wakes t = does (plain 16 0x0044) keep (moved t (woken t.state))

-- "IDLE: REQA .. or WUPA .."; "Other frames: silence, state kept."
unfoldable pub in_idle : Tag → List ℕ → ℕ → Does
in_idle t f bits = cond (is_reqa f bits || is_wupa f bits) (wakes t) (does silence keep t)

-- "HALT: WUPA only."
unfoldable pub in_halt : Tag → List ℕ → ℕ → Does
in_halt t f bits = cond (is_wupa f bits) (wakes t) (does silence keep t)

-- ---- READY1 and READY2

-- forty bits as one number, the first byte lowest
unfoldable pub forty : ℕ → ℕ → ℕ → ℕ → ℕ → ℕ
forty a b c d e = a + 256 * (b + 256 * (c + 256 * (d + 256 * e)))

-- "READY1 takes code 93h over the five bytes 88h, UID 0-2, BCC0"
unfoldable pub own1 : List ℕ → ℕ
own1 img = forty cascade_tag (uid img 0) (uid img 1) (uid img 2) (bcc0 img)

-- "READY2 takes 95h over UID 3-6, BCC1."
unfoldable pub own2 : List ℕ → ℕ
own2 img = forty (uid img 3) (uid img 4) (uid img 5) (uid img 6) (bcc1 img)

-- the forty bits behind a frame's first two bytes, zeros where it ends before
unfoldable pub sent : List ℕ → ℕ
sent f = forty (arg f 2) (arg f 3) (arg f 4) (arg f 5) (arg f 6)

-- "Second byte 20h-67h, low half at most 7"
unfoldable pub asks : ℕ → Bool
asks x = leb 0x20 x && (leb x 0x67 && leb (x % 16) 7)

-- "n = 8 × (high half - 2) + low half"
unfoldable pub known : ℕ → ℕ
known x = 8 * (x / 16 - 2) + x % 16

-- "the frame must be 16+n bits, its last n the first n of the forty. The answer is the other 40-n, without CRC."
unfoldable pub anticollision : Tag → List ℕ → ℕ → ℕ → Does
anticollision t f bits own =
    let n = known (arg f 1) in
    cond (eqb bits (16 + n) && eqb (sent f) (own % 2 ^ n)) (does (plain (40 - n) (own / 2 ^ n)) keep t) (lost t)

-- "Second byte 70h: five right bytes and CRC answer 04h (to READY2) or 00h (to ACTIVE), each with CRC."
unfoldable pub select : Tag → List ℕ → ℕ → ℕ → ℕ → Does
select t f bits own sak =
    cond (eqb bits 72 && (eqb (sent f) own && crc_right f)) (says (sak ∷ []) keep (moved t (selected t.state))) (lost t)

-- "Anything else, bad parity and a non-match among them: silence, wait state." Document 02, Q-2, takes one frame out of anything else: "A whole READ
-- frame for address 00h with good parity and CRC is to be answered as ACTIVE would answer it, NAK and all. Any other READ there stays an error." That
-- frame doesn't come here: `heard` (crates/radio/specs/Heard.antt) hears it in ACTIVE.
unfoldable pub in_ready : Tag → List ℕ → ℕ → Bool → ℕ → ℕ → ℕ → Does
in_ready t f bits parity code own sak =
    cond (parity && eqb (arg f 0) code)
    (cond (eqb (arg f 1) 0x70) (select t f bits own sak) (cond (asks (arg f 1)) (anticollision t f bits own) (lost t)))
    (lost t)

unfoldable pub in_ready1 : List ℕ → Tag → List ℕ → ℕ → Bool → Does
in_ready1 img t f bits parity = in_ready t f bits parity 0x93 (own1 img) 0x04

unfoldable pub in_ready2 : List ℕ → Tag → List ℕ → ℕ → Bool → Does
in_ready2 img t f bits parity = in_ready t f bits parity 0x95 (own2 img) 0x00
