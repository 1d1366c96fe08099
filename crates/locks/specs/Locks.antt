-- The two kinds of locks, after document 01's "Static locks" and "Dynamic locks", as numbers alone: the static locks are the
-- sixteen bits of image bytes 10 and 11, the dynamic locks those of bytes 0 and 1 of the lock page, whose byte 2 has the block bits.
-- n is the number of pages. Assumes nothing.
use Rattle.std.specs.Prelude.{◌≡◌, ◌⊎◌, Option, Some, None, Bool, false, cond, ◌&&◌, ℕ, ◌-◌, ◌/◌, min, max, eqb, leb, ltb}
use Rattle.locks.specs.Bits.{bit_at, is_set, of_bits}
use Rattle.locks.specs.declared.LockBit.{LockBit}
use Rattle.locks.specs.declared.LockBit.TheVariants.{Static, Dynamic}

-- the three sizes
abbrev pub Sized : ℕ → Type 0
Sized n = (n ≡ 45) ⊎ ((n ≡ 135) ⊎ (n ≡ 231))

-- the column "dynamic lock": 28h, 82h, E2h; user pages are those from 04h to the one before it
abbrev pub lock_page : ℕ → ℕ
lock_page n = n - 5

-- "N=45: twelve bits, two pages each. N=135: eight bits, sixteen each, the last only 128-129. N=231: fourteen bits, sixteen each, the
-- last only 224-225."
unfoldable pub lock_bits : ℕ → ℕ
lock_bits n = cond (eqb n 45) 12 (cond (eqb n 135) 8 14)

unfoldable pub pages_each : ℕ → ℕ
pages_each n = cond (eqb n 45) 2 16

-- "bit 3 locks page 3, bits 4-7 pages 4-7. Byte 11: bits 0-7 lock pages 8-15": static bit p locks page p. Dynamic locks "cover user
-- pages from 16 up, in order". Page 3 and user pages have a lock bit, and no others.
unfoldable pub lock_of : ℕ → ℕ → Option LockBit
lock_of n p = cond (leb 3 p && ltb p (lock_page n)) (cond (ltb p 16) (Some (Static p)) (Some (Dynamic ((p - 16) / pages_each n)))) None

abbrev pub bit_of : Option LockBit → ℕ
bit_of (Some (Static i)) = i
bit_of (Some (Dynamic i)) = i
bit_of None = 0

abbrev pub set_in : ℕ → ℕ → Option LockBit → Bool
set_in statics dynamics (Some (Static i)) = is_set statics i
set_in statics dynamics (Some (Dynamic i)) = is_set dynamics i
set_in statics dynamics None = false

-- which bit locks page p: its own where that is set, else none, and the page is open
unfoldable pub locked_by : ℕ → ℕ → ℕ → ℕ → Option LockBit
locked_by n statics dynamics p = let lock = lock_of n p in cond (set_in statics dynamics lock) lock None

-- ---- what a WRITE sets

-- "A lock bit whose block bit was set before the write isn't set": 1 where bit k of b is clear, else 0
unfoldable pub clear_at : ℕ → ℕ → ℕ
clear_at b k = 1 - bit_at b k

-- k bits after a write of d over old. Bit i is set if it was set, or if d sets it and it may be set, that is, may i is 1.
abbrev pub gain : ℕ → (ℕ → ℕ) → ℕ → ℕ → ℕ
gain k may old d = of_bits k (λ i. max (bit_at old i) (min (bit_at d i) (may i)))

-- "bit 0 blocks the lock of page 3, bit 1 blocks the locks of pages 4-9, bit 2 those of 10-15"
unfoldable pub static_block : ℕ → ℕ
static_block p = cond (ltb p 4) 0 (cond (ltb p 10) 1 2)

-- a block bit may be set always, and the lock of page p while its block bit is clear
unfoldable pub may_static : ℕ → ℕ → ℕ
may_static statics p = cond (ltb p 3) 1 (clear_at statics (static_block p))

unfoldable pub static_gain : ℕ → ℕ → ℕ
static_gain statics d = gain 16 (may_static statics) statics d

-- "Byte 2 holds block bits: bit k blocks lock bits 2k and 2k+1"
unfoldable pub dynamic_block : ℕ → ℕ
dynamic_block i = i / 2

-- "the lock page gains only its defined bits": a lock bit that is none of lock_bits n may never be set
unfoldable pub may_dynamic : ℕ → ℕ → ℕ → ℕ
may_dynamic n blocks i = cond (ltb i (lock_bits n)) (clear_at blocks (dynamic_block i)) 0

unfoldable pub dynamic_gain : ℕ → ℕ → ℕ → ℕ → ℕ
dynamic_gain n blocks dynamics d = gain 16 (may_dynamic n blocks) dynamics d

-- "so six, four and seven of them"
unfoldable pub may_block : ℕ → ℕ → ℕ
may_block n k = cond (ltb k (lock_bits n / 2)) 1 0

unfoldable pub block_gain : ℕ → ℕ → ℕ → ℕ
block_gain n blocks d = gain 8 (may_block n) blocks d
