-- An answer as a list of parts, and the line that they are. Assumes nothing.
use Rattle.std.specs.Prelude.{ℕ, zero, suc, ◌+◌, ◌*◌, ◌/◌, ◌%◌, ◌≡◌, Bool, cond, List, [], ◌∷◌, ◌++◌, ltb, length, take}
use Rattle.basics.specs.Hex.{hex_of}
use Rattle.laying.specs.declared.Letters.{Letters}
use Rattle.laying.specs.declared.Part.{Part as Laying}
use Rattle.laying.specs.declared.Part.TheVariants as laying

-- "Numbers are decimal": as few digits as it has, of at most `most`
abbrev pub decimal_in : ℕ → ℕ → List ℕ
decimal_in zero n = []
decimal_in (suc most) n = cond (ltb n 10) ((48 + n) ∷ []) (decimal_in most (n / 10) ++ ((48 + n % 10) ∷ []))

unfoldable pub decimal : ℕ → List ℕ
decimal n = decimal_in 20 n

-- "`image` alone where it is empty": the space, which is 32, goes with the bytes
abbrev pub tail_of : List ℕ → List ℕ
tail_of [] = []
tail_of (b ∷ r) = 32 ∷ hex_of (b ∷ r)

-- "HHHH": a number of sixteen bits as four hex digits, its high byte first
abbrev pub four_of : ℕ → List ℕ
four_of n = hex_of (n / 256 ∷ n % 256 ∷ [])

-- the letters of a word that stands in an array with their count
abbrev pub letters_of : Letters → List ℕ
letters_of w = take w.0 w.1

-- fixed words; fixed words where a flag is set, or nothing; a number; four hex digits; bytes in hex; bytes in hex behind a space, or nothing
pub data Part : Type 0 where
  word : List ℕ → Part
  flagged : Bool → List ℕ → Part
  number : ℕ → Part
  four : ℕ → Part
  hex : List ℕ → Part
  tail : List ℕ → Part

abbrev pub part_text : Part → List ℕ
part_text (word l) = l
part_text (flagged b l) = cond b l []
part_text (number n) = decimal n
part_text (four n) = four_of n
part_text (hex bs) = hex_of bs
part_text (tail bs) = tail_of bs

-- a line: its parts, and the line's end, which is 10
abbrev pub line_text : List Part → List ℕ
line_text [] = 10 ∷ []
line_text (p ∷ ps) = part_text p ++ line_text ps

-- a part was laid: what stood before it stays
pub record Laid (p : Part) (before after : List ℕ) : Type 0 where
  pub front : after ≡ before ++ part_text p

-- "exactly one line for each": a text is the line of these parts
pub record Line (ps : List Part) (text : List ℕ) : Type 0 where
  pub whole : text ≡ line_text ps

-- ---- the parts of the code

abbrev pub part_laid : Laying → Part
part_laid (laying.Words l) = word l.now
part_laid (laying.Flagged b l) = flagged b l.now
part_laid (laying.Number n) = number n
part_laid (laying.Four n) = four n
part_laid (laying.Hex bs) = hex bs.now
part_laid (laying.Tail bs) = tail bs.now

abbrev pub parts_laid : List Laying → List Part
parts_laid [] = []
parts_laid (p ∷ ps) = part_laid p ∷ parts_laid ps

-- room for a part, and for a line: no number has more than 20 digits
abbrev pub room_of : Part → ℕ
room_of (word l) = length l
room_of (flagged b l) = length l
room_of (number n) = 20
room_of (four n) = 4
room_of (hex bs) = 2 * length bs
room_of (tail bs) = 2 * length bs + 1

abbrev pub room_for : List Part → ℕ
room_for [] = 1
room_for (p ∷ ps) = room_of p + room_for ps
