-- Laws of laying parts. Assumes nothing.
use Rattle.std.proofs.Common.{◌≡◌, ℕ, ◌+◌, ◌-◌, ◌*◌, ◌/◌, ◌%◌, ◌^◌, ◌<◌, ◌≤◌, List, [], ◌∷◌, ◌++◌, length, get_or, take, drop, refl, ap, sym, ◌∙◌, append_assoc, append-nil, length-append, arith, rules, zero, suc, true, false, add-one}
use Rattle.std.specs.Fmt.{decimal as std_decimal}
use Rattle.std.proofs.lemmas.Fmt.{decimal_from_appends, AppendsLastDigit, length-decimal-le}
use lib.ListN.{drop_of_length-le, length-take}
use lib.Seq.{length-take-le}
use borrow.Rule.Slice.PartMut.{put_mid}
use borrow.Author.Count.{below_more}
use Rattle.std.proofs.lemmas.Slice.{take-put_mid}
use Rattle.std.proofs.lemmas.List.{take_more, at_drop_more, take-append-drop, take_all, get_or-set_same, get_or-set_other}
use Rattle.std.proofs.Math.ListN.{set, length-set}
use Rattle.std.proofs.Math.Seq.{take-suc-set}
use Rattle.std.specs.Prelude.{ltb}
use Rattle.basics.proofs.Choice.{by}
use Rattle.basics.specs.Hex.{hex_char, hex_of}
use Rattle.laying.specs.Parts.{decimal_in, decimal, Part, word, flagged, number, four, hex, tail, part_text, line_text, part_laid, parts_laid, room_of, room_for, Laid}
use Rattle.laying.specs.declared.Part.{Part as Laying}

-- ---- numbers

decimal_appends : AppendsLastDigit decimal_in
decimal_appends = search rules

pub decimal_is : (n : ℕ) → n < 2 ^ 64 → decimal n ≡ std_decimal n
unfolding decimal
decimal_is n small = decimal_from_appends decimal_in decimal_appends 20 n small (length-decimal-le 20 n (omega arith) (omega arith) small)

-- ---- runs of bytes

-- a text that `basics::copy` laid over a part as long as it is
pub copied : (s part m : List ℕ) → length m ≤ length s → part ≡ s ++ drop (length s) m → part ≡ s
copied s part m h e = e ∙ ap (λ (x : List ℕ). s ++ x) (drop_of_length-le m h) ∙ append-nil s

-- the front of a text that `basics::copy` laid at a place of a buffer
pub put_copied : (text out part : List ℕ) (at count : ℕ) → count ≤ length text → at + count ≤ length out
    → part ≡ take (count - 0) (drop 0 text) ++ drop (length (take (count - 0) (drop 0 text))) (take (at + count - at) (drop at out))
    → Laid (word (take count text)) (take at out) (take (at + count) (put_mid at (at + count - at) out part))
put_copied text out part at count h k e =
    let s = take (count - 0) (drop 0 text) in
    let front : s ≡ take count text = ap (λ (n : ℕ). take n text) (let z : count - 0 ≡ count = omega arith in z) in
    let few : length s ≡ count = ap length front ∙ length-take-le count text h in
    let under : length (take (at + count - at) (drop at out)) ≤ length s = simp length-take (omega (arith, few)) in
    let laid : part ≡ take count text = copied s part (take (at + count - at) (drop at out)) under e ∙ front in
    let long : at + count ≡ at + length part = omega (arith, ap length laid, length-take-le count text h) in
    record { front = take-put_mid at (at + count - at) out part (at + count) long (omega arith) ∙ ap (λ (x : List ℕ). take at out ++ x) laid }

-- ---- hex

hex_append : (xs ys : List ℕ) → hex_of (xs ++ ys) ≡ hex_of xs ++ hex_of ys
hex_append [] ys = refl
hex_append (x ∷ xs) ys = ap (λ (l : List ℕ). hex_char (x / 16) ∷ hex_char (x % 16) ∷ l) (hex_append xs ys)

-- one more number is stored, behind those so far
pub one_stored : (f : ℕ → ℕ) (xs : List ℕ) (i x : ℕ) → i < length xs → x ≡ f i → ((j : ℕ) → j < i → get_or xs j 0 ≡ f j)
    → (j : ℕ) → j < i + 1 → get_or (set xs i x) j 0 ≡ f j
one_stored f xs i x below e before =
    below_more (λ (j : ℕ). get_or (set xs i x) j 0 ≡ f j) i (λ j h. get_or-set_other xs i j x 0 (omega arith) ∙ before j h) (get_or-set_same xs i x 0 below ∙ e)

-- one byte stored at the end of what is laid lengthens it
stored : (text front : List ℕ) (to x : ℕ) → to < length text → take to text ≡ front → take (to + 1) (set text to x) ≡ front ++ (x ∷ [])
stored text front to x h e = ap (λ (k : ℕ). take k (set text to x)) (add-one to) ∙ take-suc-set text to x h ∙ ap (λ (l : List ℕ). l ++ (x ∷ [])) e

-- the digits of one more byte are stored, its high one and then its low one
pub pair_laid : (text front bytes : List ℕ) (to next i high low : ℕ) → i < length bytes → to + 1 < length text → next ≡ to + 2
    → high ≡ hex_char (get_or bytes i 0 / 16) → low ≡ hex_char (get_or bytes i 0 % 16) → take to text ≡ front ++ hex_of (take i bytes)
    → take next (set (set text to high) (to + 1) low) ≡ front ++ hex_of (take (i + 1) bytes)
pair_laid text front bytes to next i high low below room step h l e =
    let two : to + 1 < length (set text to high) = simp length-set (omega arith) in
    let one_on : next ≡ to + 1 + 1 = omega arith in
    rw one_on (
    stored (set text to high) ((front ++ hex_of (take i bytes)) ++ (high ∷ [])) (to + 1) low two (stored text (front ++ hex_of (take i bytes)) to high (omega arith) e)
    ∙ rw (h, l, take_more bytes i 0 below, hex_append (take i bytes) (get_or bytes i 0 ∷ [])) (simp append_assoc)
    )

-- the digits of all bytes are made
pub all_made : (digits bytes : List ℕ) (i n : ℕ) → i ≡ n → length bytes ≡ n → take (2 * i) digits ≡ hex_of (take i bytes)
    → take (2 * n) digits ≡ hex_of bytes
all_made digits bytes i n all b e = rw (← all) (e ∙ ap hex_of (take_all i bytes (omega arith)))

-- the first bytes of a list are laid, and those behind them are left
pub chunk_more : (rest some behind before after whole digits : List ℕ) (n : ℕ) → some ≡ take n rest → behind ≡ drop n rest → digits ≡ hex_of some
    → after ≡ before ++ digits → before ++ hex_of rest ≡ whole → after ++ hex_of behind ≡ whole
chunk_more rest some behind before after whole digits n s h d a b =
    rw (a, d, s, h, append_assoc before (hex_of (take n rest)) (hex_of (drop n rest)), ← hex_append (take n rest) (drop n rest), take-append-drop n rest) b

length-hex : (xs : List ℕ) → length (hex_of xs) ≡ 2 * length xs
length-hex [] = refl
length-hex (x ∷ xs) = let h : length (hex_of xs) ≡ 2 * length xs = length-hex xs in omega arith

-- what is laid and the room for what is left stay as many
pub same_room : (before rest after behind whole : List ℕ) → before ++ hex_of rest ≡ whole → after ++ hex_of behind ≡ whole
    → length after + 2 * length behind ≡ length before + 2 * length rest
same_room before rest after behind whole b a =
    omega (arith, length-hex rest, length-hex behind, simp length-append at (ap length b), simp length-append at (ap length a))

-- one more byte is laid
pub one_more : (bytes start before after : List ℕ) (i : ℕ) → i < length bytes → before ≡ start ++ hex_of (take i bytes)
    → after ≡ before ++ hex_of (get_or bytes i 0 ∷ []) → after ≡ start ++ hex_of (take (i + 1) bytes)
one_more bytes start before after i below b a =
    rw (a, b, take_more bytes i 0 below, hex_append (take i bytes) (get_or bytes i 0 ∷ [])) (append_assoc start (hex_of (take i bytes)) (hex_of (get_or bytes i 0 ∷ [])))

-- and so it is by its high digit, and then its low one
pub hex_more : (bytes start before mid after : List ℕ) (i high low : ℕ) → i < length bytes → before ≡ start ++ hex_of (take i bytes)
    → high ≡ hex_char (get_or bytes i 0 / 16) → low ≡ hex_char (get_or bytes i 0 % 16) → mid ≡ before ++ high ∷ [] → after ≡ mid ++ low ∷ []
    → after ≡ start ++ hex_of (take (i + 1) bytes)
hex_more bytes start before mid after i high low below b h l m a =
    one_more bytes start before after i below b (rw (a, m, h, l) (append_assoc before (hex_char (get_or bytes i 0 / 16) ∷ []) (hex_char (get_or bytes i 0 % 16) ∷ [])))

-- ---- parts

length-decimal_in-le : (most n : ℕ) → length (decimal_in most n) ≤ most
length-decimal_in-le zero n = omega arith
length-decimal_in-le (suc most) n =
    by (λ (l : List ℕ). length l ≤ suc most) (ltb n 10) (λ _. omega arith) (λ _. omega (arith, length-append (decimal_in most (n / 10)) ((48 + n % 10) ∷ []), length-decimal_in-le most (n / 10)))

-- a part takes no more than its room
part_fits : (p : Part) → length (part_text p) ≤ room_of p
unfolding decimal
part_fits (word l) = omega arith
part_fits (flagged true l) = omega arith
part_fits (flagged false l) = omega arith
part_fits (number n) = length-decimal_in-le 20 n
part_fits (four n) = omega arith
part_fits (hex bs) = omega (arith, length-hex bs)
part_fits (tail []) = omega arith
part_fits (tail (b ∷ bs)) = omega (arith, length-hex bs)

module _ (ps : List Laying) (i : ℕ) (d : Laying) (below : i < length ps) (before after : List ℕ) (laid : Laid (part_laid (get_or ps i d)) before after) where
  pub line_more : (line : List ℕ) → before ++ line_text (parts_laid (drop i ps)) ≡ line → after ++ line_text (parts_laid (drop (i + 1) ps)) ≡ line
  line_more line e =
      rw laid.front (append_assoc before (part_text (part_laid (get_or ps i d))) (line_text (parts_laid (drop (i + 1) ps))))
      ∙ ap (λ (x : List ℕ). before ++ x) (sym (at_drop_more (λ (x : List Laying). line_text (parts_laid x)) ps i d below))
      ∙ e

  pub room_more : (room : ℕ) → length before + room_for (parts_laid (drop i ps)) ≤ room → length after + room_for (parts_laid (drop (i + 1) ps)) ≤ room
  room_more room h =
      let p = part_laid (get_or ps i d) in
      let longer : length after ≡ length before + length (part_text p) = ap length laid.front ∙ length-append before (part_text p) in
      let left : room_for (parts_laid (drop i ps)) ≡ room_of p + room_for (parts_laid (drop (i + 1) ps)) =
      at_drop_more (λ (x : List Laying). room_for (parts_laid x)) ps i d below in
      omega (arith, part_fits p)
