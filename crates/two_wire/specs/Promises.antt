-- What the definitions come to: that an outcome is one, what an event touches, and what writes and reads are worth. Assumes nothing.
use Rattle.std.specs.Prelude.{◌≡◌, ℕ, zero, suc, ◌+◌, ◌-◌, ◌*◌, ◌<◌, ◌≤◌, true, false, ◌≢◌, List, [], map, length, slice_index}
use Rattle.basics.specs.Bytes.{low_first}
use Rattle.two_wire.specs.Span.{offset, within, stores, following}
use Rattle.two_wire.specs.Window.{first, places, page_of, place_of, place_after}
use Rattle.two_wire.specs.Region.{Lent, memory_length, Right, memory, bytes_in, region_of, in_either, byte_at}
use Rattle.two_wire.specs.Record.{entered}
use Rattle.two_wire.specs.Answer.{answer_of}
use Rattle.two_wire.specs.Event.{stop, byte_read_ack, Does, after, does, Did}
use Rattle.two_wire.specs.Run.{Wires, answer_to, after_start, after_stop, after_write, after_read_code, after_reads, answers_to}
use Rattle.two_wire.specs.declared.answer.Reply.TheVariants.{Byte}
use Rattle.two_wire.specs.declared.record.BusRecord.{BusRecord}
use Rattle.two_wire.specs.declared.record.Phase.TheVariants.{Rest, Reading}
use Rattle.two_wire.specs.declared.span.Span.{Span}
use Rattle.two_wire.specs.declared.region.Buffer.{Buffer}
use Rattle.two_wire.specs.declared.region.Buffer.TheVariants.{Image, Memory}
use Rattle.two_wire.specs.declared.event.BusStep.{BusStep}

-- Two outcomes that are allowed for one input are equal: the answer, the record left and every byte of both buffers.
abbrev pub OneOutcome : Type 0
OneOutcome = (o : Does) (s s' : BusStep) (l a a' : Lent) → Did o s l a → Did o s' l a' → (s ≡ s') × (a ≡ a')

-- ---- what an event touches

-- the address of byte o of a buffer
abbrev pub address_of : Buffer → ℕ → ℕ
address_of Image o = first + o
address_of Memory o = memory.first + o

-- 02: "Each transfer touches one region and leaves the other as it was." Any event, on any record; l' is what it leaves. While data bytes come
-- the record's counter is the address sent.
pub record Touches (r : BusRecord) (event : ℕ) (l l' : Lent) : Type 0 where
  pub only_stop : event ≢ stop → l' ≡ l
  pub window_alone : within memory r.counter ≡ false → l'.memory ≡ l.memory
  pub memory_alone : within memory r.counter ≡ true → l'.image ≡ l.image
  -- "with 64-byte pages": no byte changes outside the page of the address sent
  pub page_alone : (k : Buffer) (o : ℕ) → page_of (address_of k o) ≢ page_of r.counter → slice_index (bytes_in k l') o ≡ slice_index (bytes_in k l) o
  -- "except image bytes 0-9"
  pub kept_back : (o : ℕ) → o < 10 → slice_index l'.image o ≡ slice_index l.image o
  pub lengths : (k : Buffer) → length (bytes_in k l') ≡ length (bytes_in k l)

abbrev pub OneRegion : Type 0
OneRegion = (l : Lent) (r : BusRecord) (event b : ℕ) → Touches r event l (after l (does l r event b).effect)

-- ---- what a write is worth

-- the address where data byte k of a write to address a goes, in its 64-byte page
abbrev pub goes_to : ℕ → ℕ → ℕ
goes_to a k = page_of a + place_after a k

-- the span of an address's region, and the bytes behind it
abbrev pub span_at : ℕ → ℕ → Span
span_at n a = (region_of n a).span

abbrev pub bytes_at : ℕ → ℕ → Lent → List ℕ
bytes_at n a l = bytes_in (region_of n a).buffer l

-- how many bytes of a buffer are read as they are stored: those of the image below PWD, and all of the data memory
abbrev pub plain : ℕ → Buffer → ℕ
plain n Image = 4 * (n - 2)
plain n Memory = memory_length

-- A write of bytes to an address of either region, h its high byte and l its low one, whatever was on the wires before. The image has n pages.
pub record Writes (n : ℕ) (w : Wires) (h l : ℕ) (bs : List ℕ) : Type 0 where
  -- "Stop stores the gathered bytes, latest for each place, except image bytes 0-9 and places past the window": byte i, if no more than 63
  -- come after it
  pub lands : (i : ℕ) → i < length bs → length bs ≤ i + places → stores (span_at n (low_first l h)) (goes_to (low_first l h) i) ≡ true
      → slice_index (bytes_at n (low_first l h) (after_stop (after_write w h l bs)).lent) (offset (span_at n (low_first l h)) (goes_to (low_first l h) i)) ≡ slice_index bs i
  -- 02: "none of its bytes is kept back": in the data memory every such byte lands
  pub memory_lands : within memory (low_first l h) ≡ true → (i : ℕ) → i < length bs → length bs ≤ i + places
      → slice_index (after_stop (after_write w h l bs)).lent.memory (goes_to (low_first l h) i) ≡ slice_index bs i
  -- 02: "Each transfer touches one region and leaves the other as it was."
  pub image_left : within memory (low_first l h) ≡ true → (after_stop (after_write w h l bs)).lent.image ≡ w.lent.image
  pub memory_left : within memory (low_first l h) ≡ false → (after_stop (after_write w h l bs)).lent.memory ≡ w.lent.memory
  -- "if any were gathered, the counter becomes the place after the last data byte, rolled within its page. .. The bus is then at rest."
  pub counter_left : 0 < length bs → (after_stop (after_write w h l bs)).bus ≡ entered w.bus Rest (goes_to (low_first l h) (length bs))
  -- "Start: .. drop an unfinished write, the counter staying at the address sent."
  pub dropped : after_stop (after_start (after_write w h l bs)) ≡ record { lent = w.lent; bus = entered w.bus Rest (low_first l h) }
  -- what is written behind the bytes that are kept back, below PWD and within a page, is read back from the same address
  pub read_back : (span_at n (low_first l h)).first + (span_at n (low_first l h)).kept ≤ low_first l h → place_of (low_first l h) + length bs ≤ places
      → low_first l h + length bs ≤ (span_at n (low_first l h)).first + plain n (region_of n (low_first l h)).buffer
      → answers_to (after_read_code (after_write (after_stop (after_write w h l bs)) h l [])) (length bs) ≡ map (λ b. answer_of (Byte b)) bs

abbrev pub EveryWrite : Type 0
EveryWrite = (n : ℕ) (w : Wires) (h l : ℕ) (bs : List ℕ) → Right n w.lent → in_either n (low_first l h) ≡ true → Writes n w h l bs

-- ---- what reads give

-- the address i places on in a span, last to first
unfoldable pub onward : Span → ℕ → ℕ → ℕ
onward s a zero = a
onward s a (suc i) = following s (onward s a i)

-- 02: "A sequential read stays in its own region and rolls from its last byte to its first." Start, A1h and i reads with ACK, from a counter in
-- either region, whatever was on the wires before.
pub record Reads (n : ℕ) (w : Wires) (i : ℕ) : Type 0 where
  pub stays : region_of n (onward (span_at n w.bus.counter) w.bus.counter i) ≡ region_of n w.bus.counter
  pub inside : within (span_at n w.bus.counter) (onward (span_at n w.bus.counter) w.bus.counter i) ≡ true
  pub leaves : after_reads (after_read_code w) i ≡ record { lent = w.lent; bus = entered w.bus Reading (onward (span_at n w.bus.counter) w.bus.counter i) }
  pub gives : answer_to (after_reads (after_read_code w) i) byte_read_ack 0 ≡ answer_of (Byte (byte_at n w.lent (onward (span_at n w.bus.counter) w.bus.counter i)))

abbrev pub EveryRead : Type 0
EveryRead = (n : ℕ) (w : Wires) (i : ℕ) → Right n w.lent → in_either n w.bus.counter ≡ true → Reads n w i

-- 02: "A counter in neither region still counts as 4000h.": the first read behind start and A1h
pub record CountsAsFirst (n : ℕ) (w : Wires) : Type 0 where
  pub gives : answer_to (after_read_code w) byte_read_ack 0 ≡ answer_of (Byte (byte_at n w.lent first))
  pub leaves : after_reads (after_read_code w) 1 ≡ record { lent = w.lent; bus = entered w.bus Reading (following (span_at n first) first) }

abbrev pub EveryOther : Type 0
EveryOther = (n : ℕ) (w : Wires) → Right n w.lent → in_either n w.bus.counter ≡ false → CountsAsFirst n w
