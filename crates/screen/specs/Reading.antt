-- A reading and its age, after request Q-6. Assumes nothing.
use Rattle.std.specs.Prelude.{List, Bool, cond, ◌&&◌, ℕ, ◌-◌, eqb, leb, ltb, length, get_or}
use Rattle.image.specs.Layout.{four_at, low_first_four}
use Rattle.screen.specs.declared.reading.Verdict.{Verdict}
use Rattle.screen.specs.declared.reading.Verdict.TheVariants.{Live, Old, Ahead}

-- "It must hold exactly D5 00 08 and eight bytes"
unfoldable pub is_reading : List ℕ → Bool
is_reading m = eqb (length m) 11 && (eqb (get_or m 0 0) 0xD5 && (eqb (get_or m 1 0) 0x00 && eqb (get_or m 2 0) 0x08))

-- "seconds, then watts, each four bytes low first"
abbrev pub second_in : List ℕ → ℕ
second_in m = low_first_four (four_at m 3)

abbrev pub watts_in : List ℕ → ℕ
watts_in m = low_first_four (four_at m 7)

-- "Given the present second the answer is live if the reading is 0 to 900 seconds old, old if more, ahead if it lies in the future."
unfoldable pub verdict_at : ℕ → ℕ → Verdict
verdict_at present second = cond (ltb present second) Ahead (cond (leb (present - second) 900) Live Old)

-- and as numbers, of which 0 is none
abbrev pub verdict_number : Verdict → ℕ
verdict_number Live = 1
verdict_number Old = 2
verdict_number Ahead = 3
