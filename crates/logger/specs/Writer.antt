-- The writer for the logger, after request Q-7: "Write the reading of Q-6 into a lent user area". Assumes nothing.
use Rattle.std.specs.Prelude.{◌≡◌, List, [], ◌∷◌, ◌++◌, cond, Result, Ok, Err, ℕ, ltb, length, drop}
use Rattle.image.specs.Layout.{four_of, bytes_of}
use Rattle.logger.specs.declared.ShortArea.{ShortArea}

-- ---- "the reading of Q-6"

-- "the eleven bytes": "exactly D5 00 08 and eight bytes: seconds, then watts, each four bytes low first"
unfoldable pub reading_of : ℕ → ℕ → List ℕ
reading_of second watts = 0xD5 ∷ 0x00 ∷ 0x08 ∷ (bytes_of (four_of second) ++ bytes_of (four_of watts))

-- ---- the writer

-- "03h 0Bh, the eleven bytes, FEh"
unfoldable pub block_of : ℕ → ℕ → List ℕ
block_of second watts = 0x03 ∷ 0x0B ∷ (reading_of second watts ++ (0xFE ∷ []))

-- what comes out: the number of a refusal or 0, and the area that is left
pub record Written : Type 0 where
  pub refused : ℕ
  pub area : List ℕ

-- "and the rest as found"; "Refusals: 23, area under 14 bytes, nothing written."
unfoldable pub written : ℕ → ℕ → List ℕ → Written
written second watts area =
    cond (ltb (length area) 14)
    (record { refused = 23; area = area })
    (record { refused = 0; area = block_of second watts ++ drop 14 area })

-- the number of an answer: of a refusal, or 0
abbrev pub answer_number : Result Unit ShortArea → ℕ
answer_number (Ok done) = 0
answer_number (Err short_area) = 23

-- what the call promises: the number that it answers, and every byte of the area
pub record Wrote (due : Written) (r : ℕ) (after : List ℕ) : Type 0 where
  pub refused : r ≡ due.refused
  pub area : after ≡ due.area
