-- Document 02, Q-4: "Check sum without its table. The cheapest controller has no room for a CRC table, and if our code uses one it must go. If it
-- never did, unroll the shifts by the byte instead. The same CRC_A for every input, and no caller is to notice." What the code does at once, and
-- that it comes to the shifts of CrcA. Assumes nothing.
use Rattle.std.specs.Prelude.{◌≡◌, List, [], ◌∷◌, ℕ, ◌+◌, ◌-◌, ◌*◌, ◌/◌, ◌%◌, ◌^◌, ◌<◌, get_or}
use Rattle.std.specs.Int.Bits.{bit_xor}
use Rattle.basics.specs.Bytes.{low_first}
use Rattle.crc_a.specs.CrcA.{start, byte_in, bytes_in, crc_a}

-- a row of w bits, moved up by k places: what passes its top is lost
abbrev pub up : ℕ → ℕ → ℕ → ℕ
up w k x = x * 2 ^ k % 2 ^ w

-- What so many shifts let out of the register, the first of them at place 0. For a 1 that is let out the polynomial's terms x^12, x^5 and 1 go in, at
-- places 15-12, 15-5 and 15, and are let out 16-12, 16-5 and 16 shifts later. So x = f out, where f y = y + up (16-12) y + up (16-5) y + up 16 y, without
-- carries. Twice f moves by twice as many places, since equal terms cancel; four times f is y in a row of 16 bits, and eight times f in one of 32,
-- since all terms but y have passed the top. So out = f (f² x) in the one, and out = f (f² (f⁴ x)) in the other.
abbrev pub let_out16 : ℕ → ℕ
let_out16 x =
    let a = bit_xor x (up 16 (2 * (16 - 12)) x) in
    bit_xor (bit_xor a (up 16 (16 - 12) a)) (up 16 (16 - 5) a)

abbrev pub let_out32 : ℕ → ℕ
let_out32 x =
    let a = bit_xor x (up 32 (4 * (16 - 12)) x) in
    let b = bit_xor (bit_xor a (up 32 (2 * (16 - 12)) a)) (up 32 (2 * (16 - 5)) a) in
    bit_xor (bit_xor (bit_xor b (up 32 (16 - 12) b)) (up 32 (16 - 5) b)) (up 32 16 b)

-- what stands in the register then: of the terms that went in, what was not let out again
abbrev pub at_once16 : ℕ → ℕ
at_once16 x =
    let out = let_out16 x in
    bit_xor (bit_xor out (out / 2 ^ 5)) (out / 2 ^ 12)

abbrev pub at_once32 : ℕ → ℕ
at_once32 x =
    let out = let_out32 x in
    bit_xor (bit_xor (out / 2 ^ 16) (out / 2 ^ (16 + 5))) (out / 2 ^ (16 + 12))

-- "unroll the shifts by the byte": the high byte moves down, and the low one is let out
abbrev pub byte_at_once : ℕ → ℕ → ℕ
byte_at_once c b =
    let x = bit_xor c b in
    bit_xor (x / 2 ^ 8) (at_once16 (up 16 8 x))

-- and by two bytes and four, where there are so many
abbrev pub two_at_once : ℕ → ℕ → ℕ → ℕ
two_at_once c b₀ b₁ = at_once16 (bit_xor c (low_first b₀ b₁))

abbrev pub four_at_once : ℕ → ℕ → ℕ → ℕ → ℕ → ℕ
four_at_once c b₀ b₁ b₂ b₃ = at_once32 (bit_xor c (low_first b₀ b₁ + 65536 * low_first b₂ b₃))

unfoldable pub bytes_at_once : ℕ → List ℕ → ℕ
bytes_at_once c (b₀ ∷ b₁ ∷ b₂ ∷ b₃ ∷ bs) = bytes_at_once (four_at_once c b₀ b₁ b₂ b₃) bs
bytes_at_once c (b₀ ∷ b₁ ∷ b₂ ∷ []) = byte_at_once (two_at_once c b₀ b₁) b₂
bytes_at_once c (b₀ ∷ b₁ ∷ []) = two_at_once c b₀ b₁
bytes_at_once c (b ∷ []) = byte_at_once c b
bytes_at_once c [] = c

-- "The same CRC_A for every input": the eight shifts for every register and every byte, and those of all bytes over any list
abbrev pub Bytes : List ℕ → Type 0
Bytes bs = (i : ℕ) → get_or bs i 0 < 2 ^ 8

pub record SameCrcA : Type 0 where
  pub byte : (c b : ℕ) → byte_at_once c b ≡ byte_in c b
  pub bytes : (c : ℕ) (bs : List ℕ) → c < 2 ^ 16 → Bytes bs → bytes_at_once c bs ≡ bytes_in c bs
  pub crc : (bs : List ℕ) → Bytes bs → bytes_at_once start bs ≡ crc_a bs
