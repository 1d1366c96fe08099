-- One word of a line: where it ends, and the number or the bytes that it is. Assumes nothing.
use Rattle.std.specs.Prelude.{ℕ, ◌+◌, ◌*◌, ◌-◌, ◌≤◌, Bool, true, false, cond, ◌&&◌, List, [], ◌∷◌, ◌++◌, ltb, leb, length, take, drop, Option, Some, None, is_some, option_map, option_and_then, unwrap_or, IfSome}
use Rattle.basics.specs.Runs.{index_of}
use Rattle.words.specs.declared.word.Arg.{Arg}

-- ---- "Words are separated by exactly one space"

-- the length of the first word: up to the first space, which is 32
abbrev pub word_end : List ℕ → ℕ
word_end w = index_of 32 w

abbrev pub first_of : List ℕ → List ℕ
first_of w = take (word_end w) w

abbrev pub rest_of : List ℕ → List ℕ
rest_of w = drop (word_end w + 1) w

abbrev pub goes_on : List ℕ → Bool
goes_on w = ltb (word_end w) (length w)

-- ---- a word as an argument: its number with no bytes, or its bytes with their count

pub data Value : Type 0 where
  none : Value
  value : ℕ → List ℕ → Value

-- the value of a digit of either case; any other byte has none
unfoldable pub digit_of : ℕ → Option ℕ
digit_of b =
    cond (ltb b 48) None
    (cond (ltb b 58) (Some (b - 48))
    (cond (ltb b 65) None
    (cond (ltb b 71) (Some (b - 55))
    (cond (ltb b 97) None
    (cond (ltb b 103) (Some (b - 87)) None)))))

-- a number n with one more digit d behind it, where d is a digit of the base
abbrev pub longer : ℕ → ℕ → ℕ → Option ℕ
longer base n d = cond (ltb d base) (Some (n * base + d)) None

-- a number n with the digit that a byte is behind it; none, where it is no digit of the base. A byte that is no digit counts as 16.
unfoldable pub with_digit : ℕ → ℕ → ℕ → Option ℕ
with_digit base n b = longer base n (unwrap_or (digit_of b) 16)

unfoldable pub value_from : ℕ → ℕ → List ℕ → Option ℕ
value_from base n [] = Some n
value_from base n (b ∷ r) = option_and_then (λ m. value_from base m r) (with_digit base n b)

abbrev pub at_most : ℕ → ℕ → Option ℕ
at_most most n = cond (leb n most) (Some n) None

-- a number of at least `least` and at most `digits` digits, and at most `most`
abbrev pub number_in : ℕ → ℕ → ℕ → ℕ → List ℕ → Option ℕ
number_in base least digits most w =
    cond (leb least (length w) && leb (length w) digits) (option_and_then (at_most most) (value_from base 0 w)) None

-- "Bytes .. are pairs of hex digits, either case in": the byte of two digits; none, where one of them is no digit
unfoldable pub hex_pair : ℕ → ℕ → Option ℕ
hex_pair h l = option_and_then (λ x. option_map (λ y. x * 16 + y) (digit_of l)) (digit_of h)

abbrev pub all_pairs : List ℕ → Bool
all_pairs [] = true
all_pairs (h ∷ []) = false
all_pairs (h ∷ l ∷ r) = is_some (hex_pair h l) && all_pairs r

abbrev pub pairs_of : List ℕ → List ℕ
pairs_of [] = []
pairs_of (h ∷ []) = []
pairs_of (h ∷ l ∷ r) = unwrap_or (hex_pair h l) 0 ∷ pairs_of r

-- one byte or more, and at most `most`
abbrev pub bytes_in : ℕ → List ℕ → Value
bytes_in most w = cond (ltb 0 (length w) && leb (length w) (2 * most) && all_pairs w) (value (length (pairs_of w)) (pairs_of w)) none

-- ---- what the code hands out, and the buffer of the bytes

-- a value's bytes behind others
abbrev pub behind : List ℕ → Value → Value
behind bs none = none
behind bs (value n cs) = value n (bs ++ cs)

-- what an argument and the buffer say together
abbrev pub reads : Option Arg → List ℕ → Value
reads (Some a) xs = value a.number (take a.end xs)
reads None xs = none

-- a number of at most `most`, and bytes that end no further than at e
abbrev pub ArgFits : ℕ → ℕ → Option Arg → Type 0
ArgFits most e r = IfSome r (λ a. (a.number ≤ most) × (a.end ≤ e))
