-- What each way through the functions shows. Assumes nothing.
use Rattle.std.proofs.Common.{◌≡◌, ℕ, ◌+◌, ◌-◌, ◌*◌, ◌/◌, ◌%◌, ◌<◌, ◌≤◌, ◌≢◌, Bool, true, false, cond, ltb, leb, List, length, get_or, sym, refl, ap, ◌∙◌, subst, add-one, arith, length-set, ltb-false, ltb-true, le-ltb, lt-ltb, ne_eqb, eqb-true, le-leb, leb-true}
use Rattle.std.specs.Prelude.{Some, None}
use Rattle.basics.proofs.Choice.{and_left, and_right, split, by}
use Rattle.image.specs.Layout.{Fits, size_of}
use Rattle.image.specs.Shown.{shown}
use Rattle.image.proofs.Laws.{fits}
use Rattle.two_wire.specs.Span.{offset, within, stores, following, counted}
use Rattle.two_wire.specs.Window.{first, window, page_of, place_after}
use Rattle.two_wire.specs.Region.{Lent, both, memory_length, Right, memory, region_in, bytes_in, region_of, in_either, read_at, byte_at}
use Rattle.two_wire.specs.Record.{number_of, phase_of, is_in}
use Rattle.two_wire.specs.Gathered.{landed_at, landed_to, counter_after}
use Rattle.two_wire.specs.Event.{event_of, Does, enters, read_on, Refused, by_name, by_event, by_memory, by_size, does, after, Did, Says}
use Rattle.two_wire.specs.declared.answer.Reply.TheVariants.{Byte}
use Rattle.two_wire.specs.declared.record.BusRecord.{BusRecord}
use Rattle.two_wire.specs.declared.record.Phase.{Phase}
use Rattle.two_wire.specs.declared.record.Phase.TheVariants.{Rest, Device, High, Low, Writing, Reading, Deaf}
use Rattle.two_wire.specs.declared.span.Span.{Span}
use Rattle.two_wire.specs.declared.region.Buffer.{Buffer}
use Rattle.two_wire.specs.declared.region.Buffer.TheVariants.{Image, Memory}
use Rattle.two_wire.specs.declared.region.Region.{Region}
use Rattle.two_wire.specs.declared.answer.Refusal.TheVariants.{WrongImage, WrongMemory}
use Rattle.two_wire.specs.declared.event.BusStep.{BusStep}

-- ---- records and answers

-- reading the number that was written gives the phase again
pub phase_number : (p : Phase) → p ≡ phase_of (number_of p)
unfolding phase_of
phase_number Rest = refl
phase_number Device = refl
phase_number High = refl
phase_number Low = refl
phase_number Writing = refl
phase_number Reading = refl
phase_number Deaf = refl

-- ---- addresses

module _ (s : Span) (a : ℕ) (w : within s a ≡ true) where
  pub first_at_most : s.first ≤ a
  unfolding within
  first_at_most = leb-true s.first a (and_left (leb s.first a) (ltb (offset s a) s.length) w)

  pub offset_below : offset s a < s.length
  unfolding within
  offset_below = ltb-true (offset s a) s.length (and_right (leb s.first a) (ltb (offset s a) s.length) w)

-- ---- regions

module _ (n a : ℕ) (t : Bool) (e : t ≡ within memory a) where
  pub region_memory : t ≡ true → region_in n Memory ≡ region_of n a
  unfolding region_of
  region_memory f = rw (← e, f)

  pub region_window : (w : Span) → t ≡ false → w ≡ window n → record { buffer = Image; span = w } ≡ region_of n a
  unfolding region_of
  region_window w f h = rw (← e, f, h)

-- a region of one of the two buffers
pub by_buffer : (P : Region → Type 0) (n a : ℕ) → (within memory a ≡ true → P (region_in n Memory)) → (within memory a ≡ false → P (region_in n Image)) → P (region_of n a)
unfolding region_of
by_buffer P n a m i = by (λ (k : Buffer). P (region_in n k)) (within memory a) m i

pub either_region : (n a : ℕ) → within (region_of n a).span a ≡ in_either n a
either_region n a = by_buffer (λ (g : Region). within g.span a ≡ in_either n a) n a (λ t. rw t) (λ t. rw t)

-- the window begins where the data memory ends
pub either_below : (n a : ℕ) → ltb a (memory_length + 4 * n) ≡ in_either n a
unfolding within
either_below n a =
    split (ltb (a - 0) memory_length)
    (λ t. let l = ltb-true (a - 0) memory_length t in rw (le-leb 0 a (omega arith), t) (lt-ltb a (memory_length + 4 * n) (omega arith)))
    (λ f.
    let l = ltb-false (a - 0) memory_length f in
    split (ltb (a - first) (4 * n))
    (λ t. let m = ltb-true (a - first) (4 * n) t in rw (le-leb 0 a (omega arith), f, le-leb first a (omega arith), t) (lt-ltb a (memory_length + 4 * n) (omega arith)))
    (λ u. let m = ltb-false (a - first) (4 * n) u in rw (le-leb 0 a (omega arith), f, le-leb first a (omega arith), u) (le-ltb a (memory_length + 4 * n) (omega arith))))

module _ (n : ℕ) (img mem : List ℕ) (right : Right n (both img mem)) where
  pub right_fits : Fits n img
  right_fits = fits n img right.size

  pub right_most : n ≤ 231
  right_most = right_fits.most

module _ (n a : ℕ) (g : Region) (e : g ≡ region_of n a) where
  pub region_ends : n ≤ 231 → g.span.first + g.span.length ≤ 0xFFFF
  region_ends m = rw e (by_buffer (λ (x : Region). x.span.first + x.span.length ≤ 0xFFFF) n a (λ _. omega arith) (λ _. omega arith))

  pub region_fits : (img mem : List ℕ) → Fits n img → length mem ≡ memory_length → g.span.length ≤ length (bytes_in g.buffer (both img mem))
  region_fits img mem f m =
      let whole = f.whole in
      rw e (by_buffer (λ (x : Region). x.span.length ≤ length (bytes_in x.buffer (both img mem))) n a (λ _. omega arith) (λ _. omega arith))

-- ---- the address of a read

not_memory : (a : ℕ) → first ≤ a → within memory a ≡ false
unfolding within
not_memory a l = rw (le-leb 0 a (omega arith), le-ltb (a - 0) memory_length (omega arith))

pub first_within : (n : ℕ) → 45 ≤ n → within (window n) first ≡ true
unfolding within
first_within n l = lt-ltb 0 (4 * n) (omega arith)

-- the addresses of a region have that region
pub same_region : (n c a : ℕ) → within (region_of n c).span a ≡ true → region_of n a ≡ region_of n c
same_region n c a =
    by_buffer (λ (g : Region). within g.span a ≡ true → region_of n a ≡ g) n c
    (λ _ w. sym (region_memory n a (within memory a) refl w))
    (λ _ w. sym (region_window n a (within memory a) refl (window n) (not_memory a (first_at_most (window n) a w)) refl))

-- what a counter c counts as; g is its region
module _ (n c : ℕ) (g : Region) (e : g ≡ region_of n c) where
  abbrev place : ℕ
  place = counted g.span c

  place_read : place ≡ read_at n c
  unfolding read_at counted
  place_read = rw e (by_buffer (λ (x : Region). cond (within x.span c) c x.span.first ≡ cond (in_either n c) c first) n c (λ t. rw t) (λ f. rw f))

  place_within : 45 ≤ n → within g.span place ≡ true
  unfolding counted
  place_within l =
      rw e (by_buffer (λ (x : Region). within x.span (cond (within x.span c) c x.span.first) ≡ true) n c (λ t. rw t t)
      (λ _. by (λ (x : ℕ). within (window n) x ≡ true) (within (window n) c) (λ t. t) (λ _. first_within n l)))

  place_region : 45 ≤ n → g ≡ region_of n place
  place_region l = e ∙ sym (same_region n c place (subst (λ (x : Region). within x.span place ≡ true) e (place_within l)))

  -- A byte of the image is read as it is shown: byte o, where o is the counter's place in the window.
  pub byte_shown : (o : ℕ) → o ≡ offset g.span place → (img mem : List ℕ) → Fits n img → (b : ℕ) → g.buffer ≡ Image → b ≡ shown n img (o / 4) (o % 4)
      → b ≡ byte_at n (both img mem) place
  unfolding byte_at
  byte_shown o f img mem fit b i k = rw (← place_region fit.least, i, ← f) k

  -- a byte of the data memory, of any length, is read as it stands
  pub byte_stored : (o : ℕ) → o ≡ offset g.span place → (img mem : List ℕ) → Fits n img → g.buffer ≡ Memory → get_or mem o 0 ≡ byte_at n (both img mem) place
  unfolding byte_at
  byte_stored o f img mem fit i = rw (← place_region fit.least, i, ← f)

  -- and that place lies in the region
  pub place_below : (o : ℕ) → o ≡ offset g.span place → 45 ≤ n → o < g.span.length
  place_below o f l = rw f (offset_below g.span place (place_within l))

-- a read gives the byte that the counter counts as, and goes on to the next
module _ (n : ℕ) (l : Lent) (r : BusRecord) (then : Phase) (s : BusStep) where
  pub reads_on : (o b k : ℕ) (g : Region) (img : List ℕ) → g ≡ region_of n r.counter → o ≡ offset g.span (counted g.span r.counter) → Fits n img
      → b ≡ byte_at n l (counted g.span r.counter) → k ≡ following g.span (g.span.first + o) → Says (enters (Byte b) r then k) s → Says (read_on then n l r) s
  unfolding read_on
  reads_on o b k g img e h fit f i says =
      let m = first_at_most g.span (counted g.span r.counter) (place_within n r.counter g e fit.least) in
      let there : g.span.first + o ≡ counted g.span r.counter = omega arith in
      let next : k ≡ following g.span (counted g.span r.counter) = i ∙ ap (following g.span) there in
      rw (← place_read n r.counter g e, ← f, ← place_region n r.counter g e fit.least, ← next) says

-- what a read finds where what is lent is right; g is the counter's region
module _ (n : ℕ) (img mem : List ℕ) (right : Right n (both img mem)) (r : BusRecord) (g : Region) (e : g ≡ region_of n r.counter) where
  abbrev a : ℕ
  a = counted g.span r.counter

  -- the byte that the counter counts as
  abbrev at : ℕ
  at = offset g.span a

  fit : Fits n img
  fit = right_fits n img mem right

  pub read_below : at < g.span.length
  read_below = place_below n r.counter g e at refl fit.least

  pub read_ends : g.span.first + g.span.length ≤ 0xFFFF
  read_ends = region_ends n r.counter g e fit.most

  pub memory_reaches : g.buffer ≡ Memory → at < length mem
  memory_reaches i =
      let long : g.span.length ≤ length mem = rw i at (region_fits n r.counter g e img mem fit right.whole) in
      let below = read_below in
      omega arith

  module _ (then : Phase) (s : BusStep) (b : ℕ) where
    pub image_read : g.buffer ≡ Image → b ≡ shown n img (at / 4) (at % 4) → Says (enters (Byte b) r then (following g.span (g.span.first + at))) s
        → Says (read_on then n (both img mem) r) s
    image_read i k = reads_on n (both img mem) r then s at b _ g img e refl fit (byte_shown n r.counter g e at refl img mem fit b i k) refl

    pub memory_read : g.buffer ≡ Memory → b ≡ get_or mem at 0 → Says (enters (Byte b) r then (following g.span (g.span.first + at))) s
        → Says (read_on then n (both img mem) r) s
    memory_read i k = reads_on n (both img mem) r then s at b _ g img e refl fit (k ∙ byte_stored n r.counter g e at refl img mem fit i) refl

-- ---- the gathered bytes

module _ (s : Span) (a b : ℕ) (buf : List ℕ) where
  pub length_landed_at : length (landed_at s a b buf) ≡ length buf
  unfolding landed_at
  length_landed_at = by (λ (xs : List ℕ). length xs ≡ length buf) (stores s a) (λ _. length-set buf (offset s a) b) (λ _. refl)

-- the counter stays where none was gathered
pub counter_kept_lem : (r : BusRecord) → r.held ≡ 0 → r.counter ≡ counter_after r
unfolding counter_after
counter_kept_lem r e = rw e

-- one more of them
pub landed_more : (s : Span) (r : BusRecord) (k : ℕ) (buf : List ℕ)
    → landed_to s r (k + 1) buf ≡ landed_at s (page_of r.counter + place_after r.counter k) (get_or r.bytes (place_after r.counter k) 0) (landed_to s r k buf)
unfolding landed_to
landed_more s r k buf = rw add-one

-- ---- an event

-- a record's phase is the one that its number is asked for
pub phase_is : (p : Phase) (r : BusRecord) → is_in p r ≡ true → phase_of r.phase ≡ p
phase_is p r t = ap phase_of (eqb-true r.phase (number_of p) t) ∙ sym (phase_number p)

-- what isn't lent the buffers leaves them
pub left : (o : Does) (s : BusStep) (l : Lent) → Says o s → Did o s l l
unfolding after
left o s l h = record { answer = h.answer; bus = h.bus; lent = sym (ap (after l) h.effect) }

module _ (l : Lent) (r : BusRecord) (event b : ℕ) where
  -- "1: image length isn't 184, 544 or 928"
  pub refused_length : size_of (length l.image) ≡ None → Refused WrongImage 1 r (does l r event b)
  unfolding does by_size
  refused_length e = record { outcome = rw e; answer = rw e }

  module _ (n : ℕ) (size : size_of (length l.image) ≡ Some n) where
    -- "5, bus call with a data memory that isn't 16,384 bytes, after 1 and before 4"
    pub refused_memory_lem : length l.memory ≢ memory_length → Refused WrongMemory 5 r (does l r event b)
    unfolding does by_size by_memory
    refused_memory_lem m = let ne = ne_eqb (length l.memory) memory_length m in record { outcome = rw (size, ne); answer = rw (size, ne) }

    pub by_its_name : length l.memory ≡ memory_length → does l r event b ≡ by_name n l r (event_of event) b
    unfolding does by_size by_memory by_event
    by_its_name m = rw (size, m)
