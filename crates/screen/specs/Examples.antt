-- Readings as bytes, and what the definitions say of them: each line is computed by the checker. Assumes nothing.
use Rattle.std.specs.Prelude.{◌≡◌, List, [], ◌∷◌, ◌++◌, Ok, Err, ℕ}
use Rattle.screen.specs.Blocks.{walk}
use Rattle.screen.specs.Screen.{Seen, reads, found_seen, seen, Refused}
use Rattle.screen.specs.declared.refusals.Refusal.TheVariants.{WrongImage, NoMessage, Passes, NoReading}
use Rattle.screen.specs.declared.reading.Verdict.TheVariants.{Live, Old, Ahead}

-- D5 00 08, the second 25800, which is 64C8h, and 42 W
abbrev pub reading : List ℕ
reading = 0xD5 ∷ 0x00 ∷ 0x08 ∷ 0xC8 ∷ 0x64 ∷ 0x00 ∷ 0x00 ∷ 0x2A ∷ 0x00 ∷ 0x00 ∷ 0x00 ∷ []

-- and its block, with FEh behind it
abbrev pub reading_block : List ℕ
reading_block = 0x03 ∷ 0x0B ∷ reading ++ (0xFE ∷ [])

abbrev pub lock_control : List ℕ
lock_control = 0x01 ∷ 0x03 ∷ 0xA0 ∷ 0x0C ∷ 0x34 ∷ []

abbrev pub said : List ℕ → ℕ → Seen
said xs present = found_seen (walk xs) present

pub record Examples : Type 0 where
  pub alone : walk reading_block ≡ Ok reading
  pub behind_lock_control : walk (lock_control ++ reading_block) ≡ Ok reading
  pub behind_nulls : walk (0x00 ∷ 0x00 ∷ reading_block) ≡ Ok reading
  pub long_length : walk (0x03 ∷ 0xFF ∷ 0x00 ∷ 0x0B ∷ reading) ≡ Ok reading
  pub low_byte_first : walk (0x03 ∷ 0xFF ∷ 0x0B ∷ 0x00 ∷ reading) ≡ Err Passes
  pub first_of_two : walk (0x03 ∷ 0x00 ∷ reading_block) ≡ Ok []
  pub behind_the_end : walk (0xFE ∷ reading_block) ≡ Err NoMessage
  pub no_length : walk (0x01 ∷ []) ≡ Err Passes
  pub one_byte_short : walk (0x01 ∷ 0x0C ∷ reading) ≡ Err Passes
  pub to_the_end : walk (0x01 ∷ 0x0B ∷ reading) ≡ Err NoMessage
  pub same_second : said reading_block 25800 ≡ reads Live 42 25800
  pub last_live : said reading_block 26700 ≡ reads Live 42 25800
  pub first_old : said reading_block 26701 ≡ reads Old 42 25800
  pub latest : said reading_block 4294967295 ≡ reads Old 42 25800
  pub one_ahead : said reading_block 25799 ≡ reads Ahead 42 25800
  pub empty : Refused NoReading 22 (said (0x03 ∷ 0x00 ∷ 0xFE ∷ []) 0)
  pub twelve_bytes : Refused NoReading 22 (said (0x03 ∷ 0x0C ∷ reading ++ (0x00 ∷ [])) 0)
  -- and the numbers of the other three refusals
  pub none_said : Refused NoMessage 20 (said (0xFE ∷ reading_block) 25800)
  pub cut_said : Refused Passes 21 (said (0x01 ∷ 0x0C ∷ reading) 25800)
  pub no_image : Refused WrongImage 1 (seen [] 25800)
