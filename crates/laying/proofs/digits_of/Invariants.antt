-- `laying::digits_of` meets its contract. Assumes nothing.
use Rattle.std.proofs.Common.{◌≡◌, ℕ, ◌*◌, ◌/◌, ◌%◌, ◌<◌, length, get_or, take}
use Rattle.basics.specs.Hex.{hex_char, hex_of}
use Rattle.laying.proofs.digits_of.Given as goal

-- the digits of the bytes so far are made, apart
abbrev pub invariant-loop-i : goal.invariant-loop-i
invariant-loop-i g l = record {
  high : (j : ℕ) → j < l.i → get_or l.high j 0 ≡ hex_char (get_or l.bytes j 0 / 16);
  low : (j : ℕ) → j < l.i → get_or l.low j 0 ≡ hex_char (get_or l.bytes j 0 % 16);
  high_len : length l.high ≡ 32;
  low_len : length l.low ≡ 32;
}

-- and in pairs
abbrev pub invariant-loop-k : goal.invariant-loop-k
invariant-loop-k g l = record { made : take (2 * l.k) l.digits ≡ hex_of (take l.k l.bytes); len : length l.digits ≡ 64 }
