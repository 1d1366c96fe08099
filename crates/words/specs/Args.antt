-- The arguments of a line. Assumes nothing.
use Rattle.std.specs.Prelude.{ℕ, ◌+◌, ◌≤◌, ◌≡◌, Bool, cond, List, [], ◌∷◌, ◌++◌, map, ltb, length, take, get_or, Option, Some, None, Result, Ok, Err}
use Rattle.std.specs.Str.{bytes_eq}
use Rattle.words.specs.Text.{text}
use Rattle.words.specs.Word.{first_of, rest_of, goes_on, Value, none, value, number_in, bytes_in}
use Rattle.words.specs.declared.args.Kind.{Kind}
use Rattle.words.specs.declared.args.Kind.TheVariants as kind
use Rattle.words.specs.declared.args.Refusal.{Refusal}
use Rattle.words.specs.declared.args.Refusal.TheVariants as refusal
use Rattle.words.specs.declared.args.Given.{Given}

-- ---- one argument

-- what an argument is: a number of a base, of at least and at most so many digits, and at most so large; one of two words; bytes, at most so many;
-- bytes, or `-` for none
pub data Form : Type 0 where
  number : ℕ → ℕ → ℕ → ℕ → Form
  either : List ℕ → List ℕ → Form
  hex : ℕ → Form
  dashed : ℕ → Form

-- a number as an argument, which has no bytes
abbrev pub plain : Option ℕ → Value
plain None = none
plain (Some n) = value n []

-- one of two words: 0 for the first and 1 for the second
unfoldable pub either_of : List ℕ → List ℕ → List ℕ → Option ℕ
either_of one other w = cond (bytes_eq w one) (Some 0) (cond (bytes_eq w other) (Some 1) None)

-- "bytes in pairs of hex digits, or `-` for none"
unfoldable pub dashed_in : ℕ → List ℕ → Value
dashed_in most w = cond (bytes_eq w (text "-")) (value 0 []) (bytes_in most w)

-- what a word is as an argument of a form
unfoldable pub value_of : Form → List ℕ → Value
value_of (number base least digits most) w = plain (number_in base least digits most w)
value_of (either one other) w = plain (either_of one other w)
value_of (hex most) w = bytes_in most w
value_of (dashed most) w = dashed_in most w

-- ---- all arguments: their numbers, and their bytes one behind the other

pub data Args : Type 0 where
  bad : Args
  good : List ℕ → List ℕ → Args

abbrev pub join : Value → Args → Args
join none a = bad
join (value n bs) bad = bad
join (value n bs) (good ns cs) = good (n ∷ ns) (bs ++ cs)

-- `on` says whether a space and w follow
unfoldable pub args_of : List Form → Bool → List ℕ → Args
args_of [] on w = cond on bad (good [] [])
args_of (f ∷ fs) on w = cond on (join (value_of f (first_of w)) (args_of fs (goes_on w) (rest_of w))) (good [] [])

-- ---- a whole line

-- its arguments, or why it has none: no such command, not how the command is written, a line too long
pub data Said : Type 0 where
  given : List ℕ → List ℕ → Said
  unknown : Said
  wrong : Said
  long : Said

abbrev pub enough : ℕ → Args → Said
enough least bad = wrong
enough least (good ns bs) = cond (ltb (length ns) least) wrong (given ns bs)

-- of a command, so many of whose arguments must be there
unfoldable pub argued : ℕ → List Form → List ℕ → Said
argued needed fs w = enough needed (args_of fs (goes_on w) (rest_of w))

-- ---- what the code hands out, and the buffer of the bytes

-- the form of a kind, whose two words are lent
abbrev pub form_of : Kind → Form
form_of (kind.Number n) = number n.base n.least n.digits n.most
form_of (kind.Either one other) = either one.now other.now
form_of (kind.Hex most) = hex most
form_of (kind.Dashed most) = dashed most

abbrev pub forms_of : List Kind → List Form
forms_of ks = map form_of ks

abbrev pub judged : Refusal → Said
judged refusal.Unknown = unknown
judged refusal.Wrong = wrong
judged refusal.Long = long

abbrev pub said_by : Result Given Refusal → List ℕ → Said
said_by (Ok r) xs = given (take r.count r.numbers) (take r.end xs)
said_by (Err e) xs = judged e

-- the largest number of a form, and how many bytes it may have
abbrev pub most_of : Form → ℕ
most_of (number base least digits most) = most
most_of (either one other) = 1
most_of (hex most) = most
most_of (dashed most) = most

abbrev pub room_of : Form → ℕ
room_of (number base least digits most) = 0
room_of (either one other) = 0
room_of (hex most) = most
room_of (dashed most) = most

abbrev pub room_for : List Form → ℕ
room_for [] = 0
room_for (f ∷ fs) = room_of f + room_for fs

-- the largest number of the argument of a place, 0 where there is none
abbrev pub most_at : List Form → ℕ → ℕ
most_at fs j = get_or (map most_of fs) j 0

-- no number is larger than its form allows, and those behind the first c are 0
pub record Bounded (fs : List Form) (c : ℕ) (ns : List ℕ) : Type 0 where
  pub below : (j : ℕ) → get_or ns j 0 ≤ most_at fs j
  pub beyond : (j : ℕ) → c ≤ j → get_or ns j 0 ≡ 0

pub record GivenFits (fs : List Form) (r : Given) : Type 0 where
  pub numbers : Bounded fs r.count r.numbers
  pub end : r.end ≤ room_for fs
