-- Laws of CRC_A: the standard's examples, the turns of its loop and the bytes behind it, and that bytes with their CRC_A behind them are right.
-- Assumes nothing.
use mathlib.Core.Path.{◌≡◌, refl, sym, ap, ◌∙◌}
use mathlib.Core.List.{List, [], ◌∷◌, ◌++◌}
use mathlib.Core.Bool.{true, false}
use Prim.Native.Nat.{ℕ, ◌+◌, ◌-◌, ◌*◌, ◌/◌, ◌%◌, ◌≤◌, ◌<◌}
use native.Mathlib.Nat.{add-zero}
use native.Mathlib.Numerals.{add-one}
use native.Mathlib.Omega.{arith}
use lib.ListN.{length, take, drop, get_or, set, length-append}
use lib.Seq.{sets, take_at, drop-cons, get_or-append-add}
use Rattle.std.proofs.lemmas.List.{take_rest}
use borrow.Author.Tests.{le-leb, lt-leb, eq-eqb}
use lib.Dec.{eqb}
use Rattle.basics.specs.Bytes.{low_first}
use Rattle.crc_a.specs.CrcA.{polynomial, start, shifted, shifted_by, byte_in, bytes_in, crc_a, sent, with_crc, crc_right, StandardExamples}

pub standard_examples : StandardExamples
unfolding polynomial start shifted shifted_by byte_in bytes_in crc_a sent with_crc
standard_examples = record { zeros = refl; counted = refl }

-- ---- the bytes: what is left of them, from the register so far, comes to the whole's

pub four_more : (bytes rest : List ℕ) (register next : ℕ) → bytes_in register rest ≡ crc_a bytes → 4 ≤ length rest
    → next ≡ byte_in (byte_in (byte_in (byte_in register (get_or rest 0 0)) (get_or rest 1 0)) (get_or rest 2 0)) (get_or rest 3 0)
    → bytes_in next (take (length rest - 4) (drop 4 rest)) ≡ crc_a bytes
unfolding bytes_in
four_more bytes rest register next h l e = rw (take_rest rest 4, e) (front rest l ∙ h)
  where
    front : (xs : List ℕ) → 4 ≤ length xs
        → bytes_in (byte_in (byte_in (byte_in (byte_in register (get_or xs 0 0)) (get_or xs 1 0)) (get_or xs 2 0)) (get_or xs 3 0)) (drop 4 xs) ≡ bytes_in register xs
    front (b0 ∷ b1 ∷ b2 ∷ b3 ∷ xs) l = refl
    front (b0 ∷ b1 ∷ b2 ∷ []) l = absurd (omega arith)
    front (b0 ∷ b1 ∷ []) l = absurd (omega arith)
    front (b0 ∷ []) l = absurd (omega arith)
    front [] l = absurd (omega arith)

-- two of the last bytes
pub two_more : (rest : List ℕ) (register next : ℕ) → 2 ≤ length rest → next ≡ byte_in (byte_in register (get_or rest 0 0)) (get_or rest 1 0)
    → bytes_in next (take (length rest - 2) (drop 2 rest)) ≡ bytes_in register rest
unfolding bytes_in
two_more rest register next l e = rw (take_rest rest 2, e) (front rest l)
  where
    front : (xs : List ℕ) → 2 ≤ length xs → bytes_in (byte_in (byte_in register (get_or xs 0 0)) (get_or xs 1 0)) (drop 2 xs) ≡ bytes_in register xs
    front (b0 ∷ b1 ∷ xs) l = refl
    front (b0 ∷ []) l = absurd (omega arith)
    front [] l = absurd (omega arith)

-- the last one, and none
pub one_last : (rest : List ℕ) (register next : ℕ) → 1 ≤ length rest → length rest < 2 → next ≡ byte_in register (get_or rest 0 0) → next ≡ bytes_in register rest
unfolding bytes_in
one_last (b0 ∷ []) register next l m e = e
one_last (b0 ∷ b1 ∷ xs) register next l m e = absurd (omega arith)
one_last [] register next l m e = absurd (omega arith)

pub none_last : (rest : List ℕ) (register : ℕ) → length rest < 1 → register ≡ bytes_in register rest
unfolding bytes_in
none_last [] register l = refl
none_last (b ∷ xs) register l = absurd (omega arith)

-- ---- the same by place, of bytes that are counted by an index

-- from the register so far, what is left from place i on comes to the whole's: a byte goes in, then two of them, then four
pub byte_turn : (bytes : List ℕ) (i register next : ℕ) → i < length bytes → bytes_in register (drop i bytes) ≡ crc_a bytes → next ≡ byte_in register (get_or bytes i 0)
    → bytes_in next (drop (i + 1) bytes) ≡ crc_a bytes
unfolding bytes_in
byte_turn bytes i register next l h e = rw (e, add-one) (ap (bytes_in register) (sym (drop-cons bytes i 0 l)) ∙ h)

pub two_turn : (bytes : List ℕ) (i register next : ℕ) → i + 2 ≤ length bytes → bytes_in register (drop i bytes) ≡ crc_a bytes
    → next ≡ byte_in (byte_in register (get_or bytes i 0)) (get_or bytes (i + 1) 0) → bytes_in next (drop (i + 2) bytes) ≡ crc_a bytes
two_turn bytes i register next l h e =
    let middle = byte_in register (get_or bytes i 0) in
    let once : bytes_in middle (drop (i + 1) bytes) ≡ crc_a bytes = byte_turn bytes i register middle (omega arith) h refl in
    let two : i + 2 ≡ i + 1 + 1 = omega arith in
    ap (λ (k : ℕ). bytes_in next (drop k bytes)) two ∙ byte_turn bytes (i + 1) middle next (omega arith) once e

pub four_turn : (bytes : List ℕ) (i register next : ℕ) → i + 4 ≤ length bytes → bytes_in register (drop i bytes) ≡ crc_a bytes
    → next ≡ byte_in (byte_in (byte_in (byte_in register (get_or bytes i 0)) (get_or bytes (i + 1) 0)) (get_or bytes (i + 2) 0)) (get_or bytes (i + 3) 0)
    → bytes_in next (drop (i + 4) bytes) ≡ crc_a bytes
four_turn bytes i register next l h e =
    let middle = byte_in (byte_in register (get_or bytes i 0)) (get_or bytes (i + 1) 0) in
    let once : bytes_in middle (drop (i + 2) bytes) ≡ crc_a bytes = two_turn bytes i register middle (omega arith) h refl in
    let three : i + 3 ≡ i + 2 + 1 = omega arith in
    let four : i + 4 ≡ i + 2 + 2 = omega arith in
    let e' : next ≡ byte_in (byte_in middle (get_or bytes (i + 2) 0)) (get_or bytes (i + 2 + 1) 0) = e ∙ ap (λ (k : ℕ). byte_in (byte_in middle (get_or bytes (i + 2) 0)) (get_or bytes k 0)) three in
    ap (λ (k : ℕ). bytes_in next (drop k bytes)) four ∙ two_turn bytes (i + 2) middle next (omega arith) once e'

-- where the fours end and two bytes or three are left, two more go in
module _ (bytes : List ℕ) (whole i register after : ℕ) (w : whole ≡ length bytes - length bytes % 4) (l : i ≤ whole) (k : whole ≤ i)
    (h : bytes_in register (drop i bytes) ≡ crc_a bytes) where
  at_whole : i ≡ whole
  at_whole = omega arith

  pub two_more_lem : (next : ℕ) → 2 ≤ length bytes % 4 → next ≡ byte_in (byte_in register (get_or bytes whole 0)) (get_or bytes (whole + 1) 0) → after ≡ next
      → bytes_in after (drop (length bytes - length bytes % 2) bytes) ≡ crc_a bytes
  two_more_lem next m e f =
      let even : length bytes - length bytes % 2 ≡ whole + 2 = omega arith in
      rw (f, even) (two_turn bytes whole register next (omega arith) (ap (λ (x : ℕ). bytes_in register (drop x bytes)) (sym at_whole) ∙ h) e)

-- ---- behind a buffer's bytes

pub appended : (buffer : List ℕ) (n c : ℕ) → c ≡ crc_a (take n buffer) → set (set buffer n (c % 256)) (n + 1) (c / 256) ≡ sets buffer n (sent (crc_a (take n buffer)))
unfolding sent
appended buffer n c e = rw (← e, add-one)

-- ---- a frame's end

pub too_short : (frame : List ℕ) → length frame < 2 → false ≡ crc_right frame
unfolding crc_right
too_short frame l = simp (lt-leb _ _ l)

pub ends_with : (frame : List ℕ) (w c : ℕ) → 2 ≤ length frame → w ≡ low_first (get_or frame (length frame - 2) 0) (get_or frame (length frame - 1) 0)
    → c ≡ crc_a (take (length frame - 2) frame) → eqb c w ≡ crc_right frame
unfolding crc_right
ends_with frame w c l h e =
    let last : length frame - 1 ≡ length frame - 2 + 1 = omega arith in
    rw (h, e, last) (simp (le-leb _ _ l))

-- bytes with their CRC_A behind them
pub with_crc_right : (bs : List ℕ) → crc_right (with_crc bs) ≡ true
unfolding crc_right with_crc sent
with_crc_right bs =
    let c = crc_a bs in
    let whole = bs ++ (c % 256 ∷ c / 256 ∷ []) in
    let n : length whole ≡ length bs + 2 = length-append bs (c % 256 ∷ c / 256 ∷ []) in
    let k : length whole - 2 ≡ length bs = omega arith in
    let lo : get_or whole (length bs) 0 ≡ c % 256 = ap (λ (i : ℕ). get_or whole i 0) (sym (add-zero (length bs))) ∙ get_or-append-add bs (c % 256 ∷ c / 256 ∷ []) 0 0 in
    let hi : get_or whole (length bs + 1) 0 ≡ c / 256 = get_or-append-add bs (c % 256 ∷ c / 256 ∷ []) 1 0 in
    rw (le-leb 2 (length whole) (omega arith), k, lo, hi, take_at bs (c % 256 ∷ c / 256 ∷ []) (length bs) refl) (eq-eqb c (c % 256 + 256 * (c / 256)) (omega arith))
