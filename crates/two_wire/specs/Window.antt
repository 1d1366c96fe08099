-- The window, and the 64-byte pages of addresses. Assumes nothing.
use Rattle.std.specs.Prelude.{ℕ, ◌+◌, ◌*◌, ◌/◌, ◌%◌}
use Rattle.two_wire.specs.declared.span.Span.{Span}

-- "The window is 4000h to 4000h+4N-1"; of it "image bytes 0-9" aren't stored from this side.
abbrev pub first : ℕ
first = 0x4000

abbrev pub window : ℕ → Span
window n = record { first = first; length = 4 * n; kept = 10 }

-- "the 64-byte page": as many places, its first address, and an address in it
abbrev pub places : ℕ
places = 64

abbrev pub page_of : ℕ → ℕ
page_of a = a / places * places

abbrev pub place_of : ℕ → ℕ
place_of a = a % places

-- "only the low six address bits advance, rolling over within the 64-byte page": the place of data byte k of a write to address a
abbrev pub place_after : ℕ → ℕ → ℕ
place_after a k = place_of (a + k)
