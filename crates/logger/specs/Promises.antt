-- What follows from the definitions, for every area, image, second and number of watts: proofs/Kept.antt has the proofs. What the screen sees is
-- Q-6's own definition. Assumes nothing.
use Rattle.std.specs.Prelude.{◌≡◌, Result, Ok, Err, List, ◌++◌, ℕ, ◌+◌, ◌*◌, ◌<◌, ◌≤◌, length, take, drop, get_or}
use Rattle.image.specs.Layout.{Fits}
use Rattle.screen.specs.Reading.{verdict_at}
use Rattle.screen.specs.Screen.{reads, seen}
use Rattle.screen.specs.declared.reading.Verdict.TheVariants.{Live, Old, Ahead}
use Rattle.logger.specs.Writer.{block_of, Written, written, answer_number, Wrote}
use Rattle.logger.specs.declared.ShortArea.{ShortArea}

-- "Written at page 04h": k bytes from there on are lent to the writer, and stand there again with what it left
abbrev pub written_at04 : ℕ → ℕ → ℕ → List ℕ → List ℕ
written_at04 k second watts img =
    take (4 * 0x04) img ++ ((written second watts (take k (drop (4 * 0x04) img))).area ++ drop k (drop (4 * 0x04) img))

-- "it is read back by the screen with the same time and watts": at any present second, live, old or ahead by the age alone
pub record ReadBack (img : List ℕ) (second watts : ℕ) : Type 0 where
  pub any : (present : ℕ) → seen img present ≡ reads (verdict_at present second) watts second
  pub live : (age : ℕ) → age ≤ 900 → seen img (second + age) ≡ reads Live watts second
  pub old : (age : ℕ) → 901 ≤ age → seen img (second + age) ≡ reads Old watts second
  pub ahead : (present : ℕ) → present < second → seen img present ≡ reads Ahead watts second

-- two outcomes that the contract allows for one input are equal: by the call's result, and by the number that a board gets of it
pub record Alike : Type 0 where
  pub results : (due : Written) (r r' : Result Unit ShortArea) (after after' : List ℕ) → Wrote due (answer_number r) after → Wrote due (answer_number r') after'
      → (r ≡ r') × (after ≡ after')
  pub numbers : (due : Written) (r r' : ℕ) (after after' : List ℕ) → Wrote due r after → Wrote due r' after' → (r ≡ r') × (after ≡ after')
  -- the number of each result: 0, and of "23, area under 14 bytes"
  pub done : answer_number (Ok tt) ≡ 0
  pub refused : (refusal : ShortArea) → answer_number (Err refusal) ≡ 23

pub record Promises : Type 0 where
  -- "Written at page 04h of any right-length image, it is read back": whatever area from there on was lent, if it has 14 bytes
  pub read_back : (n k second watts : ℕ) (img : List ℕ) → Fits n img → 14 ≤ k → 4 * 0x04 + k ≤ length img
      → ReadBack (written_at04 k second watts img) second watts
  -- and so are its fourteen bytes at page 04h, however they came there
  pub standing : (n second watts : ℕ) (img : List ℕ) → Fits n img → take 14 (drop (4 * 0x04) img) ≡ block_of second watts → ReadBack img second watts
  -- "two readings give equal bytes only if they are equal", whatever areas they were written into
  pub unequal : (second watts second' watts' : ℕ) (area area' : List ℕ) → 14 ≤ length area → 14 ≤ length area'
      → (written second watts area).area ≡ (written second' watts' area').area → (second ≡ second') × (watts ≡ watts')
  -- an area of exactly 14 bytes is then the reading's, as a logger sends them
  pub exact : (second watts : ℕ) (area : List ℕ) → length area ≡ 14 → written second watts area ≡ record { refused = 0; area = block_of second watts }
  -- "23, area under 14 bytes, nothing written"
  pub short : (second watts : ℕ) (area : List ℕ) → length area < 14 → written second watts area ≡ record { refused = 23; area = area }
  -- "and the rest as found", byte by byte, and no byte more or less
  pub rest : (second watts i : ℕ) (area : List ℕ) → 14 ≤ i → get_or (written second watts area).area i 0 ≡ get_or area i 0
  pub long : (second watts : ℕ) (area : List ℕ) → length (written second watts area).area ≡ length area
  pub alike : Alike
