-- CRC_A, to be compared with ISO/IEC 14443-3. Document 01:
-- "CRC_A: polynomial x^16+x^12+x^5+1, reflected, start 6363h, low byte first". Assumes nothing.
use Rattle.std.specs.Prelude.{◌≡◌, List, [], ◌∷◌, ◌++◌, Bool, ◌&&◌, ℕ, zero, suc, ◌+◌, ◌-◌, ◌*◌, ◌/◌, ◌%◌, ◌^◌, eqb, leb, length, take, get_or}
use Rattle.std.specs.Int.Bits.{bit_xor}
use Rattle.basics.specs.Bytes.{low_first, low_byte, high_byte}

-- "polynomial x^16+x^12+x^5+1, reflected": the coefficient of x^k is bit 15-k; that of x^16 is the bit that leaves the register
unfoldable pub polynomial : ℕ
polynomial = 2 ^ (15 - 12) + 2 ^ (15 - 5) + 2 ^ (15 - 0)

-- "start 6363h"
unfoldable pub start : ℕ
start = 0x6363

-- the register moves to the right by one bit; where a 1 leaves it, the polynomial goes in
unfoldable pub shifted : ℕ → ℕ
shifted c = bit_xor (c / 2) (c % 2 * polynomial)

unfoldable pub shifted_by : ℕ → ℕ → ℕ
shifted_by zero c = c
shifted_by (suc k) c = shifted_by k (shifted c)

-- a byte goes into the register's low half, and eight shifts follow
unfoldable pub byte_in : ℕ → ℕ → ℕ
byte_in c b = shifted_by 8 (bit_xor c b)

unfoldable pub bytes_in : ℕ → List ℕ → ℕ
bytes_in c [] = c
bytes_in c (b ∷ bs) = bytes_in (byte_in c b) bs

unfoldable pub crc_a : List ℕ → ℕ
crc_a bs = bytes_in start bs

-- "low byte first": the two bytes as they are sent
unfoldable pub sent : ℕ → List ℕ
sent c = low_byte c ∷ high_byte c ∷ []

-- bytes and their CRC_A behind them
unfoldable pub with_crc : List ℕ → List ℕ
with_crc bs = bs ++ sent (crc_a bs)

-- the last two bytes are the CRC_A of those before them
unfoldable pub crc_right : List ℕ → Bool
crc_right bs =
    let k = length bs - 2 in
    leb 2 (length bs) && eqb (crc_a (take k bs)) (low_first (get_or bs k 0) (get_or bs (k + 1) 0))

-- The standard's examples: 00 00 gives A0 1E, and 12 34 gives 26 CF.
pub record StandardExamples : Type 0 where
  pub zeros : with_crc (0x00 ∷ 0x00 ∷ []) ≡ 0x00 ∷ 0x00 ∷ 0xA0 ∷ 0x1E ∷ []
  pub counted : with_crc (0x12 ∷ 0x34 ∷ []) ≡ 0x12 ∷ 0x34 ∷ 0x26 ∷ 0xCF ∷ []
