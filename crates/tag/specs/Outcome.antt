-- What comes out of a frame is one value: a reply, an effect on the image, and the tag that is left. Assumes nothing.
use Rattle.std.specs.Prelude.{◌≡◌, List, [], ◌∷◌, ◌++◌, ℕ, zero, suc, ◌+◌, ◌*◌, ◌/◌, ◌%◌, ◌^◌, ◌≤◌, length, take, drop, get_or}
use Rattle.crc_a.specs.CrcA.{with_crc}
use Rattle.image.specs.declared.layout.Four.{Four}
use Rattle.image.specs.Layout.{Fits, store}
use Rattle.tag.specs.declared.state.Tag.{Tag}
use Rattle.tag.specs.declared.outcome.Step.{Step}
use Rattle.tag.specs.State.{moved, back_to_wait}

-- byte i of a frame, zero behind its end
abbrev pub arg : List ℕ → ℕ → ℕ
arg f i = get_or f i 0

-- silence; the four bits of an ACK or a NAK; bytes, with their CRC_A behind them; the low k bits of a number, without
pub data Reply : Type 0 where
  silence : Reply
  nibble : ℕ → Reply
  bytes : List ℕ → Reply
  plain : ℕ → ℕ → Reply

-- "Silence is count 0."; "ACK (Ah) and NAK are count 4."
unfoldable pub bits_of : Reply → ℕ
bits_of silence = 0
bits_of (nibble v) = 4
bits_of (bytes bs) = 8 * (length bs + 2)
bits_of (plain k v) = k

-- f 0, f 1, .., k of them
abbrev pub build : (ℕ → ℕ) → ℕ → List ℕ
build f zero = []
build f (suc k) = f 0 ∷ build (λ i. f (suc i)) k

-- the low k bytes of a number, least significant first
unfoldable pub byte_of : ℕ → ℕ → ℕ
byte_of v i = v / 256 ^ i % 256

unfoldable pub low_bytes : ℕ → ℕ → List ℕ
low_bytes k v = build (byte_of v) k

-- "that many bits from the buffer's start, bits packed least significant first"; "Unused high bits of the last byte are zero."
unfoldable pub answer_of : Reply → List ℕ
answer_of silence = []
answer_of (nibble v) = v % 16 ∷ []
answer_of (bytes bs) = with_crc bs
answer_of (plain k v) = low_bytes ((k + 7) / 8) (v % 2 ^ k)

-- "buffer bytes past it keep their contents"
unfoldable pub over : List ℕ → List ℕ → List ℕ
over answer buffer = answer ++ drop (length answer) buffer

-- the image stays, or one page of it gets other bytes; the tail is page N
pub data Effect : Type 0 where
  keep : Effect
  put : ℕ → Four → Effect

unfoldable pub apply : List ℕ → Effect → List ℕ
apply img keep = img
apply img (put p v) = store img p v

pub record Does : Type 0 where
  pub reply : Reply
  pub effect : Effect
  pub tag : Tag

abbrev pub does : Reply → Effect → Tag → Does
does r e t = record { reply = r; effect = e; tag = t }

-- "silence, wait state"
unfoldable pub lost : Tag → Does
lost t = does silence keep (moved t (back_to_wait t.state))

-- "ACK (Ah)"
unfoldable pub ack : Effect → Tag → Does
ack e t = does (nibble 0xA) e t

-- "Every NAK goes to the wait state."
unfoldable pub nak_after : Effect → Tag → ℕ → Does
nak_after e t v = does (nibble v) e (moved t (back_to_wait t.state))

abbrev pub nak : Tag → ℕ → Does
nak t v = nak_after keep t v

-- data: "after all data answers in ACTIVE" comes their CRC_A
unfoldable pub says : List ℕ → Effect → Tag → Does
says bs e t = does (bytes bs) e t

-- A call did this: img is the image before it and image' after it, before and after are the answer buffer's bytes.
pub record Did (o : Does) (r : Step) (img image' before after : List ℕ) : Type 0 where
  pub image : image' ≡ apply img o.effect
  pub bits : r.bits ≡ bits_of o.reply
  pub tag : r.tag ≡ o.tag
  pub answer : after ≡ over (answer_of o.reply) before

-- "2: frame call: answer buffer under 1,024 bytes"
abbrev pub answer_room : ℕ
answer_room = 1024

-- an image of n pages, and an answer buffer that isn't refused
pub record Room (n : ℕ) (img answer : List ℕ) : Type 0 where
  pub fit : Fits n img
  pub room : answer_room ≤ length answer

-- ---- what the builders of answers promise, whatever was done to the image

abbrev pub Acks : Tag → Step → List ℕ → List ℕ → Type 0
Acks t r before after = (img : List ℕ) (e : Effect) → Did (ack e t) r img (apply img e) before after

-- the CRC_A stands behind the n bytes that stood at the answer's start
pub record Says (n : ℕ) (t : Tag) (r : Step) (before after : List ℕ) : Type 0 where
  pub bits : r.bits ≡ 8 * (n + 2)
  pub tag : r.tag ≡ t
  pub answer : after ≡ over (with_crc (take n before)) before
