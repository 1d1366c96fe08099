-- The gathered bytes: which they are, and where a stop stores them. Assumes nothing.
use Rattle.std.specs.Prelude.{ℕ, zero, suc, ◌+◌, min, cond, List, ◌==◌, slice_index, slice_set}
use Rattle.two_wire.specs.Span.{offset, stores}
use Rattle.two_wire.specs.Window.{places, page_of, place_after}
use Rattle.two_wire.specs.Region.{Lent, both}
use Rattle.two_wire.specs.declared.record.BusRecord.{BusRecord}
use Rattle.two_wire.specs.declared.region.Buffer.{Buffer}
use Rattle.two_wire.specs.declared.region.Buffer.TheVariants.{Image, Memory}
use Rattle.two_wire.specs.declared.span.Span.{Span}

-- how many places are gathered, from the place of the address sent on
abbrev pub gathered : BusRecord → ℕ
gathered r = min r.held places

-- "Stop stores the gathered bytes .. except image bytes 0-9 and places past the window": a byte at address a
unfoldable pub landed_at : Span → ℕ → ℕ → List ℕ → List ℕ
landed_at s a b buf = cond (stores s a) (slice_set buf (offset s a) b) buf

-- the first k of them, in the page of the address sent
unfoldable pub landed_to : Span → BusRecord → ℕ → List ℕ → List ℕ
landed_to s r zero buf = buf
landed_to s r (suc k) buf =
    let place = place_after r.counter k in
    landed_at s (page_of r.counter + place) (slice_index r.bytes place) (landed_to s r k buf)

unfoldable pub landed : Span → BusRecord → List ℕ → List ℕ
landed s r buf = landed_to s r (gathered r) buf

-- 02: "the same gather-and-store rules"; "Each transfer touches one region and leaves the other as it was."
abbrev pub stored_in : Buffer → Span → BusRecord → Lent → Lent
stored_in Image s r l = both (landed s r l.image) l.memory
stored_in Memory s r l = both l.image (landed s r l.memory)

-- "if any were gathered, the counter becomes the place after the last data byte, rolled within its page"
unfoldable pub counter_after : BusRecord → ℕ
counter_after r = cond (r.held == 0) r.counter (page_of r.counter + place_after r.counter r.held)
