-- What a stop stores in the buffer behind a span of addresses, byte by byte: a gathered byte lands at its place, and no byte changes outside
-- the 64-byte page of the address sent, among those that are kept, or past the span. Assumes nothing.
use Rattle.std.proofs.Common.{◌≡◌, ℕ, zero, suc, ◌+◌, ◌<◌, ◌≤◌, true, eqb, leb, ◌≢◌, List, length, get_or, sym, refl, ◌∙◌, arith, get_or-set_other, get_or-set_same, eqb-true, leb-true}
use borrow.Author.Tests.{eqb-false}
use Rattle.basics.proofs.Choice.{and_left, and_right, by, split}
use Rattle.two_wire.specs.Span.{offset, within, stores}
use Rattle.two_wire.specs.Window.{page_of, place_of, place_after}
use Rattle.two_wire.specs.Region.{Lent, bytes_in}
use Rattle.two_wire.specs.Gathered.{gathered, landed_at, landed_to, landed, stored_in}
use Rattle.two_wire.specs.declared.record.BusRecord.{BusRecord}
use Rattle.two_wire.specs.declared.span.Span.{Span}
use Rattle.two_wire.specs.declared.region.Buffer.{Buffer}
use Rattle.two_wire.specs.declared.region.Buffer.TheVariants.{Image, Memory}
use Rattle.two_wire.proofs.Laws.{first_at_most, offset_below, length_landed_at}

module _ (s : Span) where
  -- ---- one byte

  module _ (a : ℕ) (t : stores s a ≡ true) where
    inside : within s a ≡ true
    unfolding stores
    inside = and_left (within s a) (leb s.kept (offset s a)) t

    from_first : s.first ≤ a
    from_first = first_at_most s a inside

    below_length : offset s a < s.length
    below_length = offset_below s a inside

    from_kept : s.kept ≤ offset s a
    unfolding stores
    from_kept = leb-true s.kept (offset s a) (and_right (within s a) (leb s.kept (offset s a)) t)

  module _ (a b : ℕ) (buf : List ℕ) where
    at_other : (o : ℕ) → (stores s a ≡ true → o ≢ offset s a) → get_or (landed_at s a b buf) o 0 ≡ get_or buf o 0
    unfolding landed_at
    at_other o h =
        by (λ (xs : List ℕ). get_or xs o 0 ≡ get_or buf o 0) (stores s a) (λ t. get_or-set_other buf (offset s a) o b 0 (h t)) (λ _. refl)

    at_here : stores s a ≡ true → offset s a < length buf → get_or (landed_at s a b buf) (offset s a) 0 ≡ b
    unfolding landed_at
    at_here t k = rw t (get_or-set_same buf (offset s a) b 0 k)

  -- ---- all of them

  module _ (r : BusRecord) (buf : List ℕ) where
    -- the address of data byte k, and the byte
    abbrev address_of : ℕ → ℕ
    address_of k = page_of r.counter + place_after r.counter k

    abbrev byte_of : ℕ → ℕ
    byte_of k = get_or r.bytes (place_after r.counter k) 0

    length_landed_to : (k : ℕ) → length (landed_to s r k buf) ≡ length buf
    unfolding landed_to
    length_landed_to zero = refl
    length_landed_to (suc k) = length_landed_at s (address_of k) (byte_of k) (landed_to s r k buf) ∙ length_landed_to k

    pub length_landed : length (landed s r buf) ≡ length buf
    unfolding landed
    length_landed = length_landed_to (gathered r)

    -- data byte k leaves byte o: it isn't stored, or it is another byte's
    abbrev Spares : ℕ → ℕ → Type 0
    Spares o k = stores s (address_of k) ≡ true → o ≢ offset s (address_of k)

    spared_to : (o k : ℕ) → ((j : ℕ) → j < k → Spares o j) → get_or (landed_to s r k buf) o 0 ≡ get_or buf o 0
    unfolding landed_to
    spared_to o zero h = refl
    spared_to o (suc k) h = at_other (address_of k) (byte_of k) (landed_to s r k buf) o (h k (omega arith)) ∙ spared_to o k (λ j l. h j (omega arith))

    spared : (o : ℕ) → ((k : ℕ) → k < gathered r → Spares o k) → get_or (landed s r buf) o 0 ≡ get_or buf o 0
    unfolding landed
    spared o h = spared_to o (gathered r) h

    -- "except image bytes 0-9"
    pub kept_stay : (o : ℕ) → o < s.kept → get_or (landed s r buf) o 0 ≡ get_or buf o 0
    kept_stay o l = spared o (λ k h t e. omega (arith, from_kept (address_of k) t))

    -- "and places past the window": the tail
    pub past_stay : (o : ℕ) → s.length ≤ o → get_or (landed s r buf) o 0 ≡ get_or buf o 0
    past_stay o l = spared o (λ k h t e. omega (arith, below_length (address_of k) t))

    -- a byte of another page than that of the address sent
    pub other_pages_stay : (o : ℕ) → page_of (s.first + o) ≢ page_of r.counter → get_or (landed s r buf) o 0 ≡ get_or buf o 0
    other_pages_stay o d = spared o (λ k h t e. d (omega (arith, from_first (address_of k) t)))

    -- a byte whose place wasn't gathered
    pub ungathered_stay : (o : ℕ) → ((k : ℕ) → k < gathered r → place_of (s.first + o) ≢ place_after r.counter k) → get_or (landed s r buf) o 0 ≡ get_or buf o 0
    ungathered_stay o d = spared o (λ k h t e. d k h (omega (arith, from_first (address_of k) t)))

    -- within a page two data bytes have two places
    apart : (i j : ℕ) → stores s (address_of i) ≡ true → stores s (address_of j) ≡ true → i < 64 → j < 64 → i ≢ j → offset s (address_of j) ≢ offset s (address_of i)
    apart i j t u l m ne e = ne (omega (arith, from_first (address_of i) t, from_first (address_of j) u))

    -- a gathered byte that this side stores lands
    landed_to_here : (j k : ℕ) → s.length ≤ length buf → j < k → k ≤ 64 → stores s (address_of j) ≡ true → get_or (landed_to s r k buf) (offset s (address_of j)) 0 ≡ byte_of j
    unfolding landed_to
    landed_to_here j zero f l m t = absurd (omega arith)
    landed_to_here j (suc k) f l m t =
        split (eqb j k)
        (λ e.
        let q : j ≡ k = eqb-true j k e in
        rw (← q) (at_here (address_of j) (byte_of j) (landed_to s r j buf) t (omega (arith, below_length (address_of j) t, length_landed_to j))))
        (λ e.
        let ne : j ≡ k → ⊥ = eqb-false j k e in
        at_other (address_of k) (byte_of k) (landed_to s r k buf) (offset s (address_of j)) (λ u. apart k j u t (omega arith) (omega arith) (λ p. ne (sym p)))
        ∙ landed_to_here j k f (omega (arith, ne)) (omega arith) t)

    pub landed_here : (j : ℕ) → s.length ≤ length buf → j < gathered r → stores s (address_of j) ≡ true → get_or (landed s r buf) (offset s (address_of j)) 0 ≡ byte_of j
    unfolding landed
    landed_here j f l t = landed_to_here j (gathered r) f l (omega arith) t

-- ---- both buffers

module _ (s : Span) (r : BusRecord) (l : Lent) where
  pub bytes_stored : (k : Buffer) → bytes_in k (stored_in k s r l) ≡ landed s r (bytes_in k l)
  bytes_stored Image = refl
  bytes_stored Memory = refl

  pub length_stored : (k j : Buffer) → length (bytes_in j (stored_in k s r l)) ≡ length (bytes_in j l)
  length_stored Image Image = length_landed s r l.image
  length_stored Image Memory = refl
  length_stored Memory Image = refl
  length_stored Memory Memory = length_landed s r l.memory
