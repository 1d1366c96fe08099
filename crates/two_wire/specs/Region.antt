-- The regions of addresses, the window and the data memory, and the lent buffers behind them. Assumes nothing.
use Rattle.std.specs.Prelude.{◌≡◌, ℕ, ◌/◌, ◌%◌, Bool, cond, ◌||◌, List, length, slice_index, Some}
use Rattle.image.specs.Layout.{size_of}
use Rattle.image.specs.Shown.{shown}
use Rattle.two_wire.specs.Span.{offset, within}
use Rattle.two_wire.specs.Window.{first, window}
use Rattle.two_wire.specs.declared.span.Span.{Span}
use Rattle.two_wire.specs.declared.region.Buffer.{Buffer}
use Rattle.two_wire.specs.declared.region.Buffer.TheVariants.{Image, Memory}
use Rattle.two_wire.specs.declared.region.Region.{Region}

-- 02: "a data memory .., lent as a second buffer"
pub record Lent : Type 0 where
  pub image : List ℕ
  pub memory : List ℕ

abbrev pub both : List ℕ → List ℕ → Lent
both img mem = record { image = img; memory = mem }

-- 02: "a data memory of 16,384 bytes at 0000h-3FFFh"; "none of its bytes is kept back"
abbrev pub memory_length : ℕ
memory_length = 16384

abbrev pub memory : Span
memory = record { first = 0; length = memory_length; kept = 0 }

-- what is lent is right, for an image of n pages
pub record Right (n : ℕ) (l : Lent) : Type 0 where
  pub size : size_of (length l.image) ≡ Some n
  pub whole : length l.memory ≡ memory_length

-- the region of each buffer, and the bytes behind it
abbrev pub region_in : ℕ → Buffer → Region
region_in n Image = record { buffer = Image; span = window n }
region_in n Memory = record { buffer = Memory; span = memory }

abbrev pub bytes_in : Buffer → Lent → List ℕ
bytes_in Image l = l.image
bytes_in Memory l = l.memory

-- the region that an address belongs to: the data memory has its own, and the window all others, in it or past it
unfoldable pub region_of : ℕ → ℕ → Region
region_of n a = region_in n (cond (within memory a) Memory Image)

abbrev pub in_either : ℕ → ℕ → Bool
in_either n a = within memory a || within (window n) a

-- 01: "a counter outside the window counts as 4000h"; 02: "A counter in neither region still counts as 4000h."
unfoldable pub read_at : ℕ → ℕ → ℕ
read_at n counter = cond (in_either n counter) counter first

-- byte o of a buffer, as a read gives it: "The PWD and PACK pages read as zeros."
abbrev pub shown_in : Buffer → ℕ → Lent → ℕ → ℕ
shown_in Image n l o = shown n l.image (o / 4) (o % 4)
shown_in Memory n l o = slice_index l.memory o

-- the byte that a read gives at an address
unfoldable pub byte_at : ℕ → Lent → ℕ → ℕ
byte_at n l a = let g = region_of n a in shown_in g.buffer n l (offset g.span a)
