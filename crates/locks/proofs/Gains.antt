-- What a WRITE leaves of a row of lock bits: no bit clears, and a bit that may not be set doesn't change. Assumes nothing.
use mathlib.Core.Path.{◌≡◌, refl, ap, ◌∙◌}
use mathlib.Core.Bool.{Bool, true, false, cond}
use Prim.Native.Nat.{ℕ, ◌/◌, ◌^◌, ◌≤◌, ◌<◌, min, max}
use native.Mathlib.Omega.{arith}
use lib.Bits.{bit_and, bit_or, or_lt, and_lt}
use lib.Dec.{ltb}
use borrow.Author.Tests.{le-ltb}
use Rattle.basics.proofs.Choice.{by}
use Rattle.locks.specs.Bits.{bit_at, of_bits, Gains}
use Rattle.locks.specs.Locks.{lock_bits, clear_at, gain, static_block, may_static, static_gain, dynamic_block, may_dynamic, dynamic_gain, may_block, block_gain}
use Rattle.locks.proofs.Bits.{bit_at_of_bits, of_bits_lt, by_bits, or_bit, and_bit}

-- ---- any row

module _ (k : ℕ) (may : ℕ → ℕ) (old d : ℕ) where
  bit≤1 : (i : ℕ) → max (bit_at old i) (min (bit_at d i) (may i)) ≤ 1
  bit≤1 i = omega arith

  pub gain_bit : (i : ℕ) → i < k → bit_at (gain k may old d) i ≡ max (bit_at old i) (min (bit_at d i) (may i))
  gain_bit i l = bit_at_of_bits k (λ i. max (bit_at old i) (min (bit_at d i) (may i))) bit≤1 i l

  pub gain_keeps : Gains k old (gain k may old d)
  gain_keeps i l = omega (arith, gain_bit i l)

  pub gain_shut : (i : ℕ) → i < k → may i ≡ 0 → bit_at (gain k may old d) i ≡ bit_at old i
  gain_shut i l shut = omega (arith, gain_bit i l)

  -- by a mask, as the code has it
  pub gain_mask : (mask : ℕ) → ((i : ℕ) → may i ≤ 1) → mask ≡ of_bits k may → old < 2 ^ k → d < 2 ^ k → bit_or old (bit_and d mask) ≡ gain k may old d
  gain_mask mask h e p q =
      by_bits k (bit_or old (bit_and d mask)) (λ i. max (bit_at old i) (min (bit_at d i) (may i)))
      (or_lt k old (bit_and d mask) p (and_lt k d mask q (rw e (of_bits_lt k may h))))
      (λ i l. or_bit old (bit_and d mask) i
      ∙ ap (max (bit_at old i)) (and_bit d mask i ∙ ap (min (bit_at d i)) (ap (λ (x : ℕ). bit_at x i) e ∙ bit_at_of_bits k may h i l)))

-- ---- which bits may be set

pub clear≤1 : (b k : ℕ) → clear_at b k ≤ 1
unfolding clear_at
clear≤1 b k = omega arith

choice≤1 : (t : Bool) (a b : ℕ) → a ≤ 1 → b ≤ 1 → cond t a b ≤ 1
choice≤1 true a b p q = p
choice≤1 false a b p q = q

blocked : (b k : ℕ) → bit_at b k ≡ 1 → clear_at b k ≡ 0
unfolding clear_at
blocked b k h = omega arith

pub may_static≤1 : (statics p : ℕ) → may_static statics p ≤ 1
unfolding may_static
may_static≤1 statics p = choice≤1 (ltb p 3) 1 (clear_at statics (static_block p)) (omega arith) (clear≤1 statics (static_block p))

pub may_dynamic≤1 : (n blocks i : ℕ) → may_dynamic n blocks i ≤ 1
unfolding may_dynamic
may_dynamic≤1 n blocks i = choice≤1 (ltb i (lock_bits n)) (clear_at blocks (dynamic_block i)) 0 (clear≤1 blocks (dynamic_block i)) (omega arith)

pub may_block≤1 : (n k : ℕ) → may_block n k ≤ 1
unfolding may_block
may_block≤1 n k = choice≤1 (ltb k (lock_bits n / 2)) 1 0 (omega arith) (omega arith)

-- ---- the static row

-- a WRITE of page 2 clears no lock and no block bit
pub static_keeps : (statics d : ℕ) → Gains 16 statics (static_gain statics d)
unfolding static_gain
static_keeps statics d = gain_keeps 16 (may_static statics) statics d

-- the lock of a page whose block bit was set before the write doesn't change
pub static_blocked : (statics d p : ℕ) → 3 ≤ p → p < 16 → bit_at statics (static_block p) ≡ 1 → bit_at (static_gain statics d) p ≡ bit_at statics p
unfolding static_gain may_static
static_blocked statics d p h l b =
    gain_shut 16 (may_static statics) statics d p l (rw (le-ltb p 3 h) (blocked statics (static_block p) b))

-- ---- the lock page

-- a WRITE of the lock page clears no lock bit
pub dynamic_keeps : (n blocks dynamics d : ℕ) → Gains 16 dynamics (dynamic_gain n blocks dynamics d)
unfolding dynamic_gain
dynamic_keeps n blocks dynamics d = gain_keeps 16 (may_dynamic n blocks) dynamics d

-- a lock bit whose block bit was set before the write doesn't change
pub dynamic_blocked : (n blocks dynamics d i : ℕ) → i < 16 → bit_at blocks (dynamic_block i) ≡ 1 → bit_at (dynamic_gain n blocks dynamics d) i ≡ bit_at dynamics i
unfolding dynamic_gain may_dynamic
dynamic_blocked n blocks dynamics d i l b =
    gain_shut 16 (may_dynamic n blocks) dynamics d i l (by (λ (m : ℕ). m ≡ 0) (ltb i (lock_bits n)) (λ _. blocked blocks (dynamic_block i) b) (λ _. refl))

-- nor does one that isn't defined
pub dynamic_undefined : (n blocks dynamics d i : ℕ) → i < 16 → lock_bits n ≤ i → bit_at (dynamic_gain n blocks dynamics d) i ≡ bit_at dynamics i
unfolding dynamic_gain may_dynamic
dynamic_undefined n blocks dynamics d i l h = gain_shut 16 (may_dynamic n blocks) dynamics d i l (rw (le-ltb i (lock_bits n) h))

-- no block bit clears, and one that isn't defined doesn't change
pub block_keeps : (n blocks d : ℕ) → Gains 8 blocks (block_gain n blocks d)
unfolding block_gain
block_keeps n blocks d = gain_keeps 8 (may_block n) blocks d

pub block_undefined : (n blocks d k : ℕ) → k < 8 → lock_bits n / 2 ≤ k → bit_at (block_gain n blocks d) k ≡ bit_at blocks k
unfolding block_gain may_block
block_undefined n blocks d k l h = gain_shut 8 (may_block n) blocks d k l (rw (le-ltb k (lock_bits n / 2) h))
