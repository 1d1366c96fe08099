-- A reading from the logger to the screen, through the tag: Q-7's bytes over the two wires, read as in Q-6. Assumes nothing.
use Rattle.std.specs.Prelude.{◌≡◌, List, ℕ, length}
use Rattle.image.specs.Layout.{Fits}
use Rattle.two_wire.specs.Region.{memory_length}
use Rattle.two_wire.specs.Run.{Wires, after_stop, after_write}
use Rattle.logger.specs.Writer.{written}
use Rattle.logger.specs.Promises.{ReadBack}

-- the address of page 04h, 4010h
abbrev pub high : ℕ
high = 0x40

abbrev pub low : ℕ
low = 0x10

-- start, A0h, that address, what the writer has left of an area, and stop, whatever was on the wires before
abbrev pub sent : ℕ → ℕ → List ℕ → Wires → Wires
sent second watts area w = after_stop (after_write w high low (written second watts area).area)

-- a reading that is written into an area of 14 bytes and sent to a board of any right-length image and data memory is what its screen reads, at
-- any present second
pub record Logged : Type 0 where
  pub reads : (n second watts : ℕ) (area : List ℕ) (w : Wires) → length area ≡ 14 → Fits n w.lent.image → length w.lent.memory ≡ memory_length
      → ReadBack (sent second watts area w).lent.image second watts
