-- Readings written, byte by byte: each line is computed by the checker. Assumes nothing.
use Rattle.std.specs.Prelude.{◌≡◌, List, [], ◌∷◌, ℕ}
use Rattle.screen.specs.Examples.{reading_block}
use Rattle.logger.specs.Writer.{block_of, written}

-- so many bytes AAh
abbrev pub thirteen : List ℕ
thirteen = 0xAA ∷ 0xAA ∷ 0xAA ∷ 0xAA ∷ 0xAA ∷ 0xAA ∷ 0xAA ∷ 0xAA ∷ 0xAA ∷ 0xAA ∷ 0xAA ∷ 0xAA ∷ 0xAA ∷ []

abbrev pub sixteen : List ℕ
sixteen = 0xAA ∷ 0xAA ∷ 0xAA ∷ thirteen

pub record Examples : Type 0 where
  -- the second 25800 and 42 W: the bytes that the screen's own examples have
  pub same : block_of 25800 42 ≡ reading_block
  -- each byte of both numbers told from the others, low first
  pub each_byte : block_of 0x44332211 0x88776655
      ≡ 0x03 ∷ 0x0B ∷ 0xD5 ∷ 0x00 ∷ 0x08 ∷ 0x11 ∷ 0x22 ∷ 0x33 ∷ 0x44 ∷ 0x55 ∷ 0x66 ∷ 0x77 ∷ 0x88 ∷ 0xFE ∷ []
  pub largest : block_of 4294967295 4294967295
      ≡ 0x03 ∷ 0x0B ∷ 0xD5 ∷ 0x00 ∷ 0x08 ∷ 0xFF ∷ 0xFF ∷ 0xFF ∷ 0xFF ∷ 0xFF ∷ 0xFF ∷ 0xFF ∷ 0xFF ∷ 0xFE ∷ []
  pub exact_room : written 25800 42 (0xAA ∷ thirteen) ≡ record { refused = 0; area = reading_block }
  pub two_more : (written 25800 42 sixteen).area
      ≡ 0x03 ∷ 0x0B ∷ 0xD5 ∷ 0x00 ∷ 0x08 ∷ 0xC8 ∷ 0x64 ∷ 0x00 ∷ 0x00 ∷ 0x2A ∷ 0x00 ∷ 0x00 ∷ 0x00 ∷ 0xFE ∷ 0xAA ∷ 0xAA ∷ []
  pub one_short : written 25800 42 thirteen ≡ record { refused = 23; area = thirteen }
  pub none : written 25800 42 [] ≡ record { refused = 23; area = [] }
