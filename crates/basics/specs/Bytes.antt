-- Two bytes as one number. Assumes nothing.
use Rattle.std.specs.Prelude.{ℕ, ◌+◌, ◌*◌, ◌/◌, ◌%◌}

-- "two bytes low first"
abbrev pub low_first : ℕ → ℕ → ℕ
low_first low high = low + 256 * high

-- and the two of a number of sixteen bits
abbrev pub low_byte : ℕ → ℕ
low_byte w = w % 256

abbrev pub high_byte : ℕ → ℕ
high_byte w = w / 256
