-- What follows from the definitions, for every image and every second: proofs/Kept.antt has the proofs. Assumes nothing.
use Rattle.std.specs.Prelude.{◌≡◌, List, ◌++◌, Ok, ℕ, ◌+◌, ◌*◌, ◌-◌, ◌<◌, ◌≤◌, length, take, drop, get_or}
use Rattle.locks.specs.Locks.{lock_page}
use Rattle.image.specs.Layout.{Fits}
use Rattle.screen.specs.Blocks.{walk}
use Rattle.screen.specs.Reading.{verdict_at}
use Rattle.screen.specs.Screen.{Seen, seen, answer_of}
use Rattle.screen.specs.declared.reading.Verdict.TheVariants.{Live, Old, Ahead}
use Rattle.screen.specs.declared.call.ScreenAnswer.{ScreenAnswer}

-- "live if the reading is 0 to 900 seconds old, old if more, ahead if it lies in the future": over all numbers, so that nothing wraps
pub record Ages : Type 0 where
  pub live : (second age : ℕ) → age ≤ 900 → verdict_at (second + age) second ≡ Live
  pub old : (second age : ℕ) → 901 ≤ age → verdict_at (second + age) second ≡ Old
  pub ahead : (present second : ℕ) → present < second → verdict_at present second ≡ Ahead

-- "Take the first block of type 03h": it ends at a place of the bytes xs, and with whatever bytes behind that place it is found the same
pub record StopsAt (xs m : List ℕ) : Type 0 where
  pub end : ℕ
  pub within : (length m ≤ end) × (end ≤ length xs)
  pub bytes : drop (end - length m) (take end xs) ≡ m
  pub alone : (ys : List ℕ) → walk (take end xs ++ ys) ≡ Ok m

-- the bytes of the user pages are those of page 04h to the page before the lock page
pub record SameUserPages (n : ℕ) (img img' : List ℕ) : Type 0 where
  pub one : Fits n img
  pub other : Fits n img'
  pub bytes : (i : ℕ) → 4 * 0x04 ≤ i → i < 4 * lock_page n → get_or img i 0 ≡ get_or img' i 0

-- two answers that the contract allows for one input are equal: the call's, and the numbers that a board gets of it
pub record Alike : Type 0 where
  pub results : (r r' : Seen) (img : List ℕ) (present : ℕ) → r ≡ seen img present → r' ≡ seen img present → r ≡ r'
  pub numbers : (r r' : ScreenAnswer) (img : List ℕ) (present : ℕ) → r ≡ answer_of (seen img present) → r' ≡ answer_of (seen img present) → r ≡ r'
  -- no two answers of the call have the same numbers, as two refusals would by one number
  pub told_apart : (s s' : Seen) → answer_of s ≡ answer_of s' → s ≡ s'

pub record Promises : Type 0 where
  pub ages : Ages
  pub alike : Alike
  -- nothing behind the first block of type 03h matters
  pub stops : (xs m : List ℕ) → walk xs ≡ Ok m → StopsAt xs m
  -- and no byte outside the user pages
  pub elsewhere : (n : ℕ) (img img' : List ℕ) (present : ℕ) → SameUserPages n img img' → seen img present ≡ seen img' present
