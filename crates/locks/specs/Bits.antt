-- Bits of a number, least significant first. Assumes nothing.
use Rattle.std.specs.Prelude.{Bool, ℕ, zero, suc, ◌+◌, ◌*◌, ◌/◌, ◌%◌, ◌^◌, ◌≤◌, ◌<◌, eqb}

-- bit i of n, 0 or 1
abbrev pub bit_at : ℕ → ℕ → ℕ
bit_at n i = n / 2 ^ i % 2

abbrev pub is_set : ℕ → ℕ → Bool
is_set n i = eqb (bit_at n i) 1

-- the number of k bits whose bit i is f i
abbrev pub of_bits : ℕ → (ℕ → ℕ) → ℕ
of_bits zero f = 0
of_bits (suc k) f = f 0 + 2 * of_bits k (λ i. f (suc i))

-- of k bits none that is set in a is clear in b
abbrev pub Gains : ℕ → ℕ → ℕ → Type 0
Gains k a b = (i : ℕ) → i < k → bit_at a i ≤ bit_at b i
