-- Locks in an image, and what a WRITE that isn't refused leaves at its page. Assumes nothing.
use Rattle.std.specs.Prelude.{List, Bool, ℕ, ◌<◌, Option, is_some}
use Rattle.std.specs.Int.Bits.{bit_or}
use Rattle.basics.specs.Bytes.{low_first, low_byte, high_byte}
use Rattle.locks.specs.Bits.{Gains}
use Rattle.locks.specs.Locks as locks
use Rattle.locks.specs.Locks.{lock_page, static_gain, dynamic_gain, block_gain}
use Rattle.locks.specs.declared.LockBit.{LockBit}
use Rattle.image.specs.Layout.{byte, page_at, store, region_of}
use Rattle.image.specs.declared.layout.Four.{Four}
use Rattle.image.specs.declared.layout.Region.{Region}
use Rattle.image.specs.declared.layout.Region.TheVariants.{Uid, StaticLocks, Capability, User, DynamicLocks, Settings, Password, Outside}

-- the static locks are in image bytes 10 and 11, bytes 2 and 3 of page 2
unfoldable pub statics : List ℕ → ℕ
statics img = low_first (byte img 2 2) (byte img 2 3)

-- "Dynamic locks are bits of bytes 0 and 1 of the lock page, numbered 0-15, least significant first."
unfoldable pub dynamics : ℕ → List ℕ → ℕ
dynamics n img = low_first (byte img (lock_page n) 0) (byte img (lock_page n) 1)

-- "Byte 2 holds block bits"
unfoldable pub blocks : ℕ → List ℕ → ℕ
blocks n img = byte img (lock_page n) 2

-- which bit locks page p, page 3 or a user page, and whether one does
unfoldable pub locked_by : ℕ → List ℕ → ℕ → Option LockBit
locked_by n img p = locks.locked_by n (statics img) (dynamics n img) p

abbrev pub locked : ℕ → List ℕ → ℕ → Bool
locked n img p = is_some (locked_by n img p)

-- "Page 2 keeps bytes 0-1 and sets the bits of d2, d3 in its locks"
unfoldable pub statics_written : Four → Four → Four
statics_written old d =
    let after = static_gain (low_first old.b2 old.b3) (low_first d.b2 d.b3) in
    record { b0 = old.b0; b1 = old.b1; b2 = low_byte after; b3 = high_byte after }

-- "page 3 gains the set bits"
unfoldable pub capability_written : Four → Four → Four
capability_written old d =
    record { b0 = bit_or old.b0 d.b0; b1 = bit_or old.b1 d.b1; b2 = bit_or old.b2 d.b2; b3 = bit_or old.b3 d.b3 }

-- "the lock page gains only its defined bits"; "All other bits of the lock page do nothing"
unfoldable pub dynamics_written : ℕ → Four → Four → Four
dynamics_written n old d =
    let after = dynamic_gain n old.b2 (low_first old.b0 old.b1) (low_first d.b0 d.b1) in
    record { b0 = low_byte after; b1 = high_byte after; b2 = block_gain n old.b2 d.b2; b3 = old.b3 }

-- "Other pages are replaced."
unfoldable pub written_in : Region → ℕ → Four → Four → Four
written_in StaticLocks n old d = statics_written old d
written_in Capability n old d = capability_written old d
written_in DynamicLocks n old d = dynamics_written n old d
written_in Uid n old d = d
written_in User n old d = d
written_in Settings n old d = d
written_in Password n old d = d
written_in Outside n old d = d

-- what page p holds after a WRITE of d, having held old
unfoldable pub written : ℕ → ℕ → Four → Four → Four
written n p old d = written_in (region_of n p) n old d

-- "Effect is at once."
unfoldable pub write : ℕ → List ℕ → ℕ → Four → List ℕ
write n img p d = store img p (written n p (page_at img p) d)

-- no lock bit, block bit or capability bit of img is clear in after
pub record NoneCleared (n : ℕ) (img after : List ℕ) : Type 0 where
  pub statics : Gains 16 (statics img) (statics after)
  pub capability : (k : ℕ) → k < 4 → Gains 8 (byte img 3 k) (byte after 3 k)
  pub dynamics : Gains 16 (dynamics n img) (dynamics n after)
  pub blocks : Gains 8 (blocks n img) (blocks n after)
