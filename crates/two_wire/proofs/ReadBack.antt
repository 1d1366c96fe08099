-- What a write over the two wires comes to, that it is read back over them, and what sequential reads give. Assumes nothing.
use Rattle.std.proofs.Common.{◌≡◌, ℕ, zero, suc, ◌+◌, ◌-◌, ◌*◌, ◌/◌, ◌%◌, ◌<◌, ◌≤◌, min, true, false, eqb, List, [], ◌∷◌, map, length, get_or, sym, refl, ap, ◌∙◌, subst, ap₂, arith, lt-ltb, eq-eqb, ne_eqb, le-leb}
use Rattle.std.specs.Prelude.{Some}
use borrow.Author.Tests.{eqb-false}
use Rattle.basics.specs.Bytes.{low_first}
use Rattle.basics.proofs.Choice.{by}
use Rattle.image.specs.Layout.{size_of, byte}
use Rattle.image.specs.Shown.{shown}
use Rattle.image.proofs.Laws.{fits}
use Rattle.two_wire.specs.Span.{offset, within, stores, following}
use Rattle.two_wire.specs.Window.{first, window, page_of, place_after}
use Rattle.two_wire.specs.Region.{Lent, memory_length, memory, region_in, bytes_in, region_of, in_either, read_at, shown_in, byte_at}
use Rattle.two_wire.specs.Record.{phase_of, holding, entered, gathers}
use Rattle.two_wire.specs.Answer.{answer_of}
use Rattle.two_wire.specs.Gathered.{landed, stored_in, counter_after}
use Rattle.two_wire.specs.Event.{byte_sent, byte_read_ack, after, device, addressed, sent, stopped, read_on, read, by_event, by_memory, by_size, does}
use Rattle.two_wire.specs.Run.{gathers_all, Wires, answer_to, after_event, after_start, after_stop, after_bytes, after_write, after_read_code, after_reads, answers_to}
use Rattle.two_wire.specs.Promises.{goes_to, span_at, plain, EveryWrite, onward, EveryRead, EveryOther}
use Rattle.two_wire.specs.declared.answer.BusAnswer.{BusAnswer}
use Rattle.two_wire.specs.declared.answer.Reply.TheVariants.{Byte}
use Rattle.two_wire.specs.declared.record.BusRecord.{BusRecord}
use Rattle.two_wire.specs.declared.record.Phase.TheVariants.{Rest, Writing, Reading}
use Rattle.two_wire.specs.declared.span.Span.{Span}
use Rattle.two_wire.specs.declared.region.Buffer.{Buffer}
use Rattle.two_wire.specs.declared.region.Buffer.TheVariants.{Image, Memory}
use Rattle.two_wire.specs.declared.region.Region.{Region}
use Rattle.two_wire.proofs.Laws.{first_at_most, offset_below, region_memory, region_window, same_region, by_buffer, either_region, region_fits}
use Rattle.two_wire.proofs.Stored.{landed_here, bytes_stored, length_stored}
use Rattle.two_wire.proofs.Gather.{Counts, counter_gathered, phase_gathered, counts_gathered, touched}

abbrev wires : Lent → BusRecord → Wires
wires l r = record { lent = l; bus = r }

-- ---- regions

region_either : (n from a : ℕ) → within (span_at n from) a ≡ true → in_either n a ≡ true
region_either n from a w = sym (either_region n a) ∙ ap (λ (g : Region). within g.span a) (same_region n from a w) ∙ w

in_span : (s : Span) (a : ℕ) → s.first ≤ a → a < s.first + s.length → within s a ≡ true
unfolding within
in_span s a l m = rw (le-leb s.first a l, lt-ltb (a - s.first) s.length (omega arith))

next : (s : Span) (a : ℕ) → s.first ≤ a → a + 1 < s.first + s.length → following s a ≡ a + 1
unfolding following
next s a l m = rw (ne_eqb (a - s.first + 1) s.length (λ q. omega arith))

-- the address after one of a span is in it
stays_in : (s : Span) (a : ℕ) → within s a ≡ true → within s (following s a) ≡ true
unfolding following
stays_in s a w =
    let l = first_at_most s a w in
    let m = offset_below s a w in
    by (λ (x : ℕ). within s x ≡ true) (eqb (offset s a + 1) s.length)
    (λ _. in_span s s.first (omega arith) (omega arith))
    (λ e. let ne = eqb-false (offset s a + 1) s.length e in in_span s (a + 1) (omega arith) (omega (arith, ne)))

-- what is read as it is stored
plain_shown : (k : Buffer) (n : ℕ) (l : Lent) (o : ℕ) → o < plain n k → shown_in k n l o ≡ get_or (bytes_in k l) o 0
unfolding shown byte
plain_shown Image n l o h =
    let e : 4 * (o / 4) + o % 4 ≡ o = omega arith in
    rw (lt-ltb (o / 4) (n - 2) (omega arith), e)
plain_shown Memory n l o h = refl

stored_shown : (n a : ℕ) (l : Lent) (g : Region) → region_of n a ≡ g → offset g.span a < plain n g.buffer
    → byte_at n l a ≡ get_or (bytes_in g.buffer l) (offset g.span a) 0
unfolding byte_at
stored_shown n a l g e h = rw e (plain_shown g.buffer n l (offset g.span a) h)

-- ---- what events leave

module _ (n : ℕ) (l : Lent) (size : size_of (length l.image) ≡ Some n) (whole : length l.memory ≡ memory_length) where
  -- A0h and an address of either region
  pub begun : (r : BusRecord) (high low : ℕ) → in_either n (low_first low high) ≡ true → after_write (wires l r) high low [] ≡ wires l (entered r Writing (low_first low high))
  unfolding after_bytes after_event does by_size by_memory by_event sent device addressed after phase_of holding
  begun r high low w = rw (size, whole, size, whole, size, whole, size, whole, w)

  -- a data byte is gathered
  on_byte : (r : BusRecord) (b : ℕ) → r.phase ≡ 4 → after_event (wires l r) byte_sent b ≡ wires l (gathers r b)
  unfolding after_event does by_size by_memory by_event sent after phase_of
  on_byte r b e = rw (size, whole, e)

  on_data : (bs : List ℕ) (r : BusRecord) → r.phase ≡ 4 → after_bytes (wires l r) bs ≡ wires l (gathers_all r bs)
  unfolding after_bytes gathers_all gathers
  on_data [] r e = refl
  on_data (b ∷ bs) r e = rw (on_byte r b e) (on_data bs (gathers r b) e)

  -- a write that isn't stopped yet: the record has gathered the bytes
  wrote : (r : BusRecord) (high low : ℕ) (bs : List ℕ) → in_either n (low_first low high) ≡ true
      → after_write (wires l r) high low bs ≡ wires l (gathers_all (entered r Writing (low_first low high)) bs)
  unfolding after_bytes holding
  wrote r high low bs w = ap (λ (x : Wires). after_bytes x bs) (begun r high low w) ∙ on_data bs (entered r Writing (low_first low high)) refl

  on_stop : (r : BusRecord) → r.phase ≡ 4
      → after_stop (wires l r) ≡ wires (stored_in (region_of n r.counter).buffer (span_at n r.counter) r l) (entered r Rest (counter_after r))
  unfolding after_event does by_size by_memory by_event stopped after
  on_stop r e = rw (size, whole, eq-eqb r.phase 4 e)

  -- a start, and a stop before the device byte
  on_drop : (r : BusRecord) → after_stop (after_start (wires l r)) ≡ wires l (entered r Rest r.counter)
  unfolding after_event does by_size by_memory by_event stopped after holding
  on_drop r = rw (size, whole, size, whole)

  -- start and A1h: the tag gives bytes from the counter on
  read_begun : (r : BusRecord) → after_read_code (wires l r) ≡ wires l (entered r Reading r.counter)
  unfolding after_bytes after_event does by_size by_memory by_event sent device after phase_of holding
  read_begun r = rw (size, whole, size, whole)

  module _ (r : BusRecord) (a : ℕ) (w : in_either n a ≡ true) where
    read_gives : answer_to (wires l (entered r Reading a)) byte_read_ack 0 ≡ answer_of (Byte (byte_at n l a))
    unfolding answer_to does by_size by_memory by_event read read_on read_at holding
    read_gives = rw (size, whole, w)

    read_leaves : after_event (wires l (entered r Reading a)) byte_read_ack 0 ≡ wires l (entered r Reading (following (span_at n a) a))
    unfolding after_event does by_size by_memory by_event read read_on read_at after holding
    read_leaves = rw (size, whole, w)

  module _ (r : BusRecord) (a : ℕ) (f : in_either n a ≡ false) where
    other_gives : answer_to (wires l (entered r Reading a)) byte_read_ack 0 ≡ answer_of (Byte (byte_at n l first))
    unfolding answer_to does by_size by_memory by_event read read_on read_at holding
    other_gives = rw (size, whole, f)

    other_leaves : after_event (wires l (entered r Reading a)) byte_read_ack 0 ≡ wires l (entered r Reading (following (span_at n first) first))
    unfolding after_event does by_size by_memory by_event read read_on read_at after holding
    other_leaves = rw (size, whole, f)

  -- reads give the bytes from the counter on, to the region's last
  module _ (from : ℕ) (r : BusRecord) where
    here : (a b : ℕ) → (span_at n from).first ≤ a → a < (span_at n from).first + (span_at n from).length → byte_at n l (a + 0) ≡ b
        → answer_to (wires l (entered r Reading a)) byte_read_ack 0 ≡ answer_of (Byte b)
    here a b m k h =
        let same : a ≡ a + 0 = omega arith in
        read_gives r a (region_either n from a (in_span (span_at n from) a m k)) ∙ ap (λ (x : ℕ). answer_of (Byte x)) (ap (byte_at n l) same ∙ h)

    onward_one : (a : ℕ) → (span_at n from).first ≤ a → a + 1 < (span_at n from).first + (span_at n from).length
        → after_event (wires l (entered r Reading a)) byte_read_ack 0 ≡ wires l (entered r Reading (a + 1))
    onward_one a m k =
        let inside = in_span (span_at n from) a m (omega arith) in
        read_leaves r a (region_either n from a inside)
        ∙ ap (λ (g : Region). wires l (entered r Reading (following g.span a))) (same_region n from a inside)
        ∙ ap (λ (x : ℕ). wires l (entered r Reading x)) (next (span_at n from) a m k)

    reads_from : (bs : List ℕ) (a : ℕ) → (span_at n from).first ≤ a → a + length bs ≤ (span_at n from).first + (span_at n from).length
        → ((i : ℕ) → i < length bs → byte_at n l (a + i) ≡ get_or bs i 0)
        → answers_to (wires l (entered r Reading a)) (length bs) ≡ map (λ b. answer_of (Byte b)) bs
    unfolding answers_to
    reads_from [] a m k h = refl
    reads_from (b ∷ []) a m k h = ap (λ (x : BusAnswer). x ∷ []) (here a b m (omega arith) (h 0 (omega arith)))
    reads_from (b ∷ c ∷ bs) a m k h =
        ap₂ (λ (x : BusAnswer) (xs : List BusAnswer). x ∷ xs) (here a b m (omega arith) (h 0 (omega arith)))
        (ap (λ (x : Wires). answers_to x (suc (length bs))) (onward_one a m (omega arith))
        ∙ reads_from (c ∷ bs) (a + 1) (omega arith) (omega arith) (λ i j. ap (byte_at n l) (omega arith) ∙ h (suc i) (omega arith)))

-- ---- sequential reads

pub reads : EveryRead
unfolding after_reads onward
reads n w i right either = record {
  stays = region i;
  inside = inside i;
  leaves = left i;
  gives = ap (λ (x : Wires). answer_to x byte_read_ack 0) (left i) ∙ read_gives n l right.size right.whole r (at i) (each i);
}
  where
    l : Lent
    l = w.lent

    r : BusRecord
    r = w.bus

    a : ℕ
    a = r.counter

    at : ℕ → ℕ
    at k = onward (span_at n a) a k

    inside : (k : ℕ) → within (span_at n a) (at k) ≡ true
    inside zero = either_region n a ∙ either
    inside (suc k) = stays_in (span_at n a) (at k) (inside k)

    region : (k : ℕ) → region_of n (at k) ≡ region_of n a
    region k = same_region n a (at k) (inside k)

    each : (k : ℕ) → in_either n (at k) ≡ true
    each k = region_either n a (at k) (inside k)

    left : (k : ℕ) → after_reads (after_read_code w) k ≡ wires l (entered r Reading (at k))
    left zero = read_begun n l right.size right.whole r
    left (suc k) =
        ap (λ (x : Wires). after_event x byte_read_ack 0) (left k) ∙ read_leaves n l right.size right.whole r (at k) (each k)
        ∙ ap (λ (g : Region). wires l (entered r Reading (following g.span (at k)))) (region k)

pub others : EveryOther
unfolding after_reads
others n w right f =
    let begun = read_begun n w.lent right.size right.whole w.bus in
    record {
      gives = ap (λ (x : Wires). answer_to x byte_read_ack 0) begun ∙ other_gives n w.lent right.size right.whole w.bus w.bus.counter f;
      leaves = ap (λ (x : Wires). after_event x byte_read_ack 0) begun ∙ other_leaves n w.lent right.size right.whole w.bus w.bus.counter f;
    }

-- ---- a write

-- byte i of m is one of the gathered, by its remainder where there are more than 64
among : (i m : ℕ) → i < m → i % 64 < min m 64
among i m l = omega arith

-- and its place goes by the remainder
rolled : (a i : ℕ) → (a + i % 64) % 64 ≡ (a + i) % 64
rolled a i = omega arith

rolled_from : (a i : ℕ) → (a + i) % 64 ≡ (a + 0 + i) % 64
rolled_from a i = omega arith

module _ (n : ℕ) (l : Lent) (size : size_of (length l.image) ≡ Some n) (whole : length l.memory ≡ memory_length) (r : BusRecord) (high low : ℕ) (bs : List ℕ) (w : in_either n (low_first low high) ≡ true) where
  abbrev a : ℕ
  a = low_first low high

  abbrev s : Span
  s = span_at n a

  abbrev k : Buffer
  k = (region_of n a).buffer

  -- the record before the data bytes, and after them
  abbrev sent_to : BusRecord
  sent_to = entered r Writing a

  abbrev wrote_to : BusRecord
  wrote_to = gathers_all sent_to bs

  -- the count that is held
  counted : Counts (length bs) wrote_to.held
  unfolding holding
  counted =
      let e : 0 + length bs ≡ length bs = omega arith in
      rw e at (counts_gathered bs sent_to 0 (record { places = refl; next = refl }))

  sent_address : wrote_to.counter ≡ a
  unfolding holding
  sent_address = counter_gathered bs sent_to

  -- what is kept of a record stays through a write
  renewed_all : (counter : ℕ) → entered wrote_to Rest counter ≡ entered r Rest counter
  unfolding holding
  renewed_all counter = refl

  abbrev stored : Lent
  stored = stored_in k s wrote_to l

  pub stopped_at : after_stop (after_write (wires l r) high low bs) ≡ wires stored (entered r Rest (counter_after wrote_to))
  unfolding holding
  stopped_at =
      ap after_stop (wrote n l size whole r high low bs w) ∙ on_stop n l size whole wrote_to (phase_gathered bs sent_to)
      ∙ ap (λ (x : ℕ). wires (stored_in (region_of n x).buffer (span_at n x) wrote_to l) (entered wrote_to Rest (counter_after wrote_to))) sent_address
      ∙ ap (wires stored) (renewed_all (counter_after wrote_to))

  image_left : within memory a ≡ true → (after_stop (after_write (wires l r) high low bs)).lent.image ≡ l.image
  image_left t =
      ap (λ (x : Wires). x.lent.image) stopped_at
      ∙ ap (λ (g : Region). (stored_in g.buffer g.span wrote_to l).image) (sym (region_memory n a (within memory a) refl t))

  memory_left : within memory a ≡ false → (after_stop (after_write (wires l r) high low bs)).lent.memory ≡ l.memory
  memory_left f =
      ap (λ (x : Wires). x.lent.memory) stopped_at
      ∙ ap (λ (g : Region). (stored_in g.buffer g.span wrote_to l).memory) (sym (region_window n a (within memory a) refl (window n) f refl))

  dropped : after_stop (after_start (after_write (wires l r) high low bs)) ≡ wires l (entered r Rest a)
  dropped =
      ap (λ (x : Wires). after_stop (after_start x)) (wrote n l size whole r high low bs w) ∙ on_drop n l size whole wrote_to
      ∙ ap (wires l) (renewed_all wrote_to.counter ∙ ap (entered r Rest) sent_address)

  counter_moved : 0 < length bs → counter_after wrote_to ≡ goes_to a (length bs)
  unfolding counter_after
  counter_moved some =
      let places = counted.places in
      let next = counted.next in
      let there : (a + wrote_to.held) % 64 ≡ (a + length bs) % 64 = omega arith in
      rw (ne_eqb wrote_to.held 0 (λ z. omega arith), sent_address, there)

  landed_bytes : bytes_in k (after_stop (after_write (wires l r) high low bs)).lent ≡ landed s wrote_to (bytes_in k l)
  landed_bytes = ap (λ (x : Wires). bytes_in k x.lent) stopped_at ∙ bytes_stored s wrote_to l k

  lands : (i : ℕ) → i < length bs → length bs ≤ i + 64 → stores s (goes_to a i) ≡ true
      → get_or (bytes_in k (after_stop (after_write (wires l r) high low bs)).lent) (offset s (goes_to a i)) 0 ≡ get_or bs i 0
  unfolding holding
  lands i h m t =
      let fit = region_fits n a (region_of n a) refl l.image l.memory (fits n l.image size) whole in
      let there : goes_to wrote_to.counter (i % 64) ≡ goes_to a i = ap (λ (x : ℕ). goes_to x (i % 64)) sent_address ∙ ap (λ (x : ℕ). page_of a + x) (rolled a i) in
      ap (λ (xs : List ℕ). get_or xs (offset s (goes_to a i)) 0) landed_bytes
      ∙ ap (λ (x : ℕ). get_or (landed s wrote_to (bytes_in k l)) (offset s x) 0) (sym there)
      ∙ landed_here s wrote_to (bytes_in k l) (i % 64) fit (rw counted.places (among i (length bs) h)) (rw there t)
      ∙ ap (λ (x : ℕ). get_or wrote_to.bytes (place_after x (i % 64)) 0) sent_address
      ∙ ap (λ (x : ℕ). get_or wrote_to.bytes x 0) (rolled a i ∙ rolled_from a i)
      ∙ touched bs sent_to i refl h m

  -- the page of an address of the data memory is in the data memory, and none of it is kept back
  memory_stores : within memory a ≡ true → (i : ℕ) → stores memory (goes_to a i) ≡ true
  unfolding stores
  memory_stores t i =
      let below = offset_below memory a t in
      rw (in_span memory (goes_to a i) (omega arith) (omega arith)) (le-leb 0 (goes_to a i - 0) (omega arith))

  memory_lands : within memory a ≡ true → (i : ℕ) → i < length bs → length bs ≤ i + 64
      → get_or (after_stop (after_write (wires l r) high low bs)).lent.memory (goes_to a i) 0 ≡ get_or bs i 0
  memory_lands t i h m =
      let g : region_of n a ≡ region_in n Memory = sym (region_memory n a (within memory a) refl t) in
      let o : goes_to a i ≡ goes_to a i - 0 = omega arith in
      rw o (subst (λ (x : Region). stores x.span (goes_to a i) ≡ true → get_or (bytes_in x.buffer (after_stop (after_write (wires l r) high low bs)).lent) (offset x.span (goes_to a i)) 0 ≡ get_or bs i 0) g
      (lands i h m) (memory_stores t i))

  read_back : s.first + s.kept ≤ a → a % 64 + length bs ≤ 64 → a + length bs ≤ s.first + plain n k
      → answers_to (after_read_code (after_write (after_stop (after_write (wires l r) high low bs)) high low [])) (length bs) ≡ map (λ b. answer_of (Byte b)) bs
  unfolding holding stores
  read_back from page below =
      let size' : size_of (length stored.image) ≡ Some n = ap size_of (length_stored s wrote_to l k Image) ∙ size in
      let whole' : length stored.memory ≡ memory_length = length_stored s wrote_to l k Memory ∙ whole in
      let rested : BusRecord = entered r Rest (counter_after wrote_to) in
      let short = plain_short in
      let again = ap (λ (x : Wires). after_read_code (after_write x high low [])) stopped_at ∙ ap after_read_code (begun n stored size' whole' rested high low w) in
      ap (λ (x : Wires). answers_to x (length bs)) (again ∙ read_begun n stored size' whole' (entered rested Writing a))
      ∙ reads_from n stored size' whole' a (entered rested Writing a) bs a (omega arith) (omega arith)
      (λ i h.
      let e : goes_to a i ≡ a + i = omega arith in
      let inside : within s (a + i) ≡ true = in_span s (a + i) (omega arith) (omega arith) in
      let t : stores s (a + i) ≡ true = rw inside (le-leb s.kept (a + i - s.first) (omega arith)) in
      stored_shown n (a + i) stored (region_of n a) (same_region n a (a + i) inside) (omega arith)
      ∙ sym (ap (λ (x : Wires). get_or (bytes_in k x.lent) (a + i - s.first) 0) stopped_at)
      ∙ rw e at (lands i h (omega arith) (rw e t)))
    where
      -- a region has no fewer bytes than are read as they are stored
      plain_short : plain n k ≤ s.length
      plain_short = by_buffer (λ (g : Region). plain n g.buffer ≤ g.span.length) n a (λ _. omega arith) (λ _. omega arith)

pub writes : EveryWrite
writes n w h l bs right inside =
    let b : Lent = w.lent in
    let r : BusRecord = w.bus in
    let size = right.size in
    let whole = right.whole in
    record {
      lands = lands n b size whole r h l bs inside;
      memory_lands = memory_lands n b size whole r h l bs inside;
      image_left = image_left n b size whole r h l bs inside;
      memory_left = memory_left n b size whole r h l bs inside;
      counter_left = λ some. ap (λ (x : Wires). x.bus) (stopped_at n b size whole r h l bs inside) ∙ ap (entered r Rest) (counter_moved n b size whole r h l bs inside some);
      dropped = dropped n b size whole r h l bs inside;
      read_back = read_back n b size whole r h l bs inside;
    }
