-- A byte as two hex digits. Assumes nothing.
use Rattle.std.specs.Prelude.{cond, List, [], ◌∷◌, ℕ, ◌+◌, ◌/◌, ◌%◌, ltb}

-- the hex digit of a number below 16, in capitals
abbrev pub hex_char : ℕ → ℕ
hex_char n = cond (ltb n 10) (n + 48) (n + 55)

-- bytes as pairs of hex digits
abbrev pub hex_of : List ℕ → List ℕ
hex_of [] = []
hex_of (b ∷ r) = hex_char (b / 16) ∷ hex_char (b % 16) ∷ hex_of r
