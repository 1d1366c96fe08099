-- The UID and its check bytes. Assumes nothing.
use Rattle.std.specs.Prelude.{◌≡◌, List, [], ◌∷◌, cond, ℕ, ◌-◌, ltb}
use Rattle.std.specs.Int.Bits.{bit_xor}
use Rattle.image.specs.Layout.{byte}

-- "UID bytes 0-2 are image bytes 0-2, UID bytes 3-6 image bytes 4-7."
unfoldable pub uid : List ℕ → ℕ → ℕ
uid img i = cond (ltb i 3) (byte img 0 i) (byte img 1 (i - 3))

-- the cascade tag that stands before UID 0-2 in selection
abbrev pub cascade_tag : ℕ
cascade_tag = 0x88

-- "BCC0 is the exclusive-or of 88h and UID 0-2"
unfoldable pub bcc0 : List ℕ → ℕ
bcc0 img = bit_xor (bit_xor (bit_xor cascade_tag (uid img 0)) (uid img 1)) (uid img 2)

-- "BCC1 of UID 3-6"
unfoldable pub bcc1 : List ℕ → ℕ
bcc1 img = bit_xor (bit_xor (bit_xor (uid img 3) (uid img 4)) (uid img 5)) (uid img 6)

-- "UID 1D A2 30 11 09 67 EC has BCC0 07h, BCC1 93h", whatever byte 3 is
pub record UidExample : Type 0 where
  pub first : (x : ℕ) → bcc0 (0x1D ∷ 0xA2 ∷ 0x30 ∷ x ∷ 0x11 ∷ 0x09 ∷ 0x67 ∷ 0xEC ∷ []) ≡ 0x07
  pub second : (x : ℕ) → bcc1 (0x1D ∷ 0xA2 ∷ 0x30 ∷ x ∷ 0x11 ∷ 0x09 ∷ 0x67 ∷ 0xEC ∷ []) ≡ 0x93
