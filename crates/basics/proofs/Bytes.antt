-- Two bytes as one number, and back. Assumes nothing.
use mathlib.Core.Path.{◌≡◌}
use Prim.Native.Nat.{ℕ}
use native.Mathlib.Omega.{arith}
use Rattle.basics.specs.Bytes.{low_first, low_byte, high_byte}

pub low_first_bytes : (w : ℕ) → low_first (low_byte w) (high_byte w) ≡ w
low_first_bytes w = omega arith
