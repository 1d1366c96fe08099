-- The TLV blocks of a list of bytes, after request Q-6: "It walks the TLV blocks from page 04h through the user pages as the Type 2 Tag
-- specification has them". Assumes nothing.
use Rattle.std.specs.Prelude.{◌≡◌, List, [], ◌∷◌, cond, Option, Some, None, Result, Ok, Err, ℕ, zero, suc, eqb, leb, length, take, drop}
use Rattle.std.specs.Borrow.{Bor}
use Rattle.basics.specs.Bytes.{low_first}
use Rattle.screen.specs.declared.refusals.Refusal.{Refusal}
use Rattle.screen.specs.declared.refusals.Refusal.TheVariants.{NoMessage, Passes}

-- ---- what follows the type of a block: a length, and the bytes that it counts

-- the bytes that are counted and those behind them; or "a length, or the bytes it counts, passes the user pages"
abbrev pub Value : Type 0
Value = Option (List ℕ × List ℕ)

unfoldable pub counted : ℕ → List ℕ → Value
counted n xs = cond (leb n (length xs)) (Some (take n xs, drop n xs)) None

-- "lengths are one byte or FFh and two, high byte first"
abbrev pub long_value : List ℕ → Value
long_value [] = None
long_value (high ∷ []) = None
long_value (high ∷ low ∷ xs) = counted (low_first low high) xs

abbrev pub value_of : List ℕ → Value
value_of [] = None
value_of (n ∷ xs) = cond (eqb n 0xFF) (long_value xs) (counted n xs)

-- ---- the walk

-- what it finds: "the first block of type 03h", by the bytes that it counts; none; or a block that passes the end before it
abbrev pub Found : Type 0
Found = Result (List ℕ) Refusal

abbrev pub taken : Value → Found
taken (Some (bytes, behind)) = Ok bytes
taken None = Err Passes

abbrev pub passed_over : (List ℕ → Found) → Value → Found
passed_over go_on (Some (bytes, behind)) = go_on behind
passed_over go_on None = Err Passes

-- one block, and behind it `go_on`: "00h is one byte, FEh ends"; "Take the first block of type 03h"; a block of any other type is passed
-- over, and the end of the bytes ends the walk too
unfoldable pub block : (List ℕ → Found) → List ℕ → Found
block go_on [] = Err NoMessage
block go_on (type ∷ xs) =
    cond (eqb type 0x00) (go_on xs)
    (cond (eqb type 0xFE) (Err NoMessage)
    (cond (eqb type 0x03) (taken (value_of xs)) (passed_over go_on (value_of xs))))

-- at most so many blocks
unfoldable pub blocks : ℕ → List ℕ → Found
blocks zero xs = Err NoMessage
blocks (suc most) xs = block (blocks most) xs

-- and no more blocks than bytes are ever there
unfoldable pub walk : List ℕ → Found
walk xs = blocks (length xs) xs

-- The walk is one block and behind it the walk, to the end: the number above never runs out. And it is the only one that is so.
pub record BlockByBlock : Type 0 where
  pub goes : (xs : List ℕ) → walk xs ≡ block walk xs
  pub only : (f : List ℕ → Found) → ((xs : List ℕ) → f xs ≡ block f xs) → (xs : List ℕ) → f xs ≡ walk xs

-- ---- what the code hands out: parts of the bytes, lent

abbrev pub cut_off : Option (Bor (List ℕ) × Bor (List ℕ)) → Value
cut_off (Some parts) = Some (parts.0.now, parts.1.now)
cut_off None = None

abbrev pub found : Result (Bor (List ℕ)) Refusal → Found
found (Ok value) = Ok value.now
found (Err refusal) = Err refusal
