-- The invariant: the mask has the bits from 2 * i on. Assumes nothing.
use Rattle.std.proofs.Common.{◌≡◌, ◌-◌, ◌<◌, ◌+◌, ◌*◌, ◌^◌}
use Rattle.locks.specs.Bits.{of_bits}
use Rattle.locks.specs.Locks.{lock_bits, may_dynamic}
use Rattle.locks.proofs.dynamic_mask.Given as goal

abbrev pub invariant-loop-i : goal.invariant-loop-i
invariant-loop-i l =
    (l.mask ≡ of_bits (lock_bits l.n - 2 * l.i) (λ k. may_dynamic l.n l.blocks (2 * l.i + k))) × (l.mask < 2 ^ 14)
