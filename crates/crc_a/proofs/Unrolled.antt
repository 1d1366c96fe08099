-- Shifts at once. The shifts and what the code does in their place are linear, and so the same where they are the same for each single bit, which is
-- computed. Assumes nothing.
use mathlib.Core.Path.{◌≡◌, refl, sym, ap, ap₂, subst, ◌∙◌}
use mathlib.Core.List.{List, [], ◌∷◌}
use Prim.Native.Nat.{ℕ, zero, suc, ◌+◌, ◌-◌, ◌*◌, ◌/◌, ◌%◌, ◌^◌, ◌<◌}
use native.Mathlib.Nat.{lt_of_lt_of_le, mul-one, mul_assoc, pow-suc, mod-lt}
use native.Mathlib.Omega.{arith}
use lib.Bits.{bit_xor, differ, xor_comm, xor_zero_r, xor_shifted, xor_lt}
use lib.Pow.{pow_pos, pow_mono, shr_lt}
use Rattle.basics.specs.Bytes.{low_first}
use Rattle.crc_a.specs.CrcA.{polynomial, start, shifted, shifted_by, byte_in, bytes_in, crc_a}
use Rattle.crc_a.specs.Unrolled.{up, at_once16, at_once32, byte_at_once, two_at_once, bytes_at_once, Bytes, SameCrcA}
use Rattle.crc_a.proofs.Linear.{Linear, low, xor_assoc, itself, moved_up, moved_down, both, ◌then◌, alike, same}

-- ---- the shifts are linear

fed_back : (x y : ℕ) → x < 2 → y < 2 → differ x y * polynomial ≡ bit_xor (x * polynomial) (y * polynomial)
unfolding polynomial
fed_back zero zero h k = refl
fed_back zero (suc zero) h k = refl
fed_back zero (suc (suc y)) h k = absurd (omega arith)
fed_back (suc zero) zero h k = refl
fed_back (suc zero) (suc zero) h k = refl
fed_back (suc zero) (suc (suc y)) h k = absurd (omega arith)
fed_back (suc (suc x)) y h k = absurd (omega arith)

shifted_linear : Linear shifted
unfolding shifted
shifted_linear =
    let fed : Linear (λ (x : ℕ). x % 2 * polynomial) = record { over = λ a b. ap (λ (x : ℕ). x * polynomial) (low a b) ∙ fed_back (a % 2) (b % 2) (omega arith) (omega arith) } in
    both (moved_down 1) fed

shifts_linear : (k : ℕ) → Linear (shifted_by k)
unfolding shifted_by
shifts_linear zero = itself
shifts_linear (suc k) = shifted_linear then (shifts_linear k)

-- ---- the high byte moves down

shifted_even : (m : ℕ) → shifted (m * 2) ≡ m
unfolding shifted polynomial
shifted_even m =
    let h : m * 2 / 2 ≡ m = omega arith in
    let z : m * 2 % 2 ≡ 0 = omega arith in
    ap₂ (λ (x y : ℕ). bit_xor x (y * polynomial)) h z ∙ xor_zero_r m

high_shifts : (k h : ℕ) → shifted_by k (h * 2 ^ k) ≡ h
unfolding shifted_by
high_shifts zero h = mul-one h
high_shifts (suc k) h =
    ap (λ (x : ℕ). shifted_by k (shifted x)) (ap (λ (x : ℕ). h * x) (pow-suc 2 k) ∙ sym (mul_assoc h (2 ^ k) 2))
    ∙ ap (shifted_by k) (shifted_even (h * 2 ^ k))
    ∙ high_shifts k h

-- ---- sixteen shifts, and thirty_two

linear16 : Linear at_once16
linear16 =
    both itself (moved_up 16 (2 * (16 - 12)))
    then (both (both itself (moved_up 16 (16 - 12))) (moved_up 16 (16 - 5)))
    then (both (both itself (moved_down 5)) (moved_down 12))

linear32 : Linear at_once32
linear32 =
    both itself (moved_up 32 (4 * (16 - 12)))
    then (both (both itself (moved_up 32 (2 * (16 - 12)))) (moved_up 32 (2 * (16 - 5))))
    then (both (both (both itself (moved_up 32 (16 - 12))) (moved_up 32 (16 - 5))) (moved_up 32 16))
    then (both (both (moved_down 16) (moved_down (16 + 5))) (moved_down (16 + 12)))

pub sixteen : (x : ℕ) → x < 2 ^ 16 → at_once16 x ≡ shifted_by 16 x
unfolding polynomial shifted shifted_by alike
sixteen = same at_once16 (shifted_by 16) linear16 (shifts_linear 16) 16 refl

pub thirty_two : (x : ℕ) → x < 2 ^ 32 → at_once32 x ≡ shifted_by 32 x
unfolding polynomial shifted shifted_by alike
thirty_two = same at_once32 (shifted_by 32) linear32 (shifts_linear 32) 32 refl

-- the register has sixteen bits again when those above them have moved down
shifts_lt : (k x : ℕ) → x < 2 ^ (16 + k) → shifted_by k x < 2 ^ 16
unfolding polynomial shifted shifted_by
shifts_lt zero x l = l
shifts_lt (suc k) x l =
    let e : 16 + suc k ≡ 16 + k + 1 = omega arith in
    let moved : x / 2 < 2 ^ (16 + k) = shr_lt (16 + k) 1 (subst (λ (m : ℕ). x < 2 ^ m) e l) in
    let fed : x % 2 * polynomial < 2 ^ (16 + k) = lt_of_lt_of_le {m = 2 ^ 16} (omega arith) (pow_mono {i = 16} (omega arith)) in
    shifts_lt k (shifted x) (xor_lt (16 + k) (x / 2) (x % 2 * polynomial) moved fed)

pub thirty_two_lt : (x : ℕ) → x < 2 ^ 32 → at_once32 x < 2 ^ 16
thirty_two_lt x l = subst (λ (y : ℕ). y < 2 ^ 16) (sym (thirty_two x l)) (shifts_lt 32 x (omega arith))

-- ---- bytes that go in one after the other go in together, the later ones above the earlier

pub byte_in_lem : (c b r : ℕ) → r ≡ shifted_by 16 (up 16 8 (bit_xor c b)) → bit_xor (bit_xor c b / 2 ^ 8) r ≡ byte_in c b
unfolding byte_in shifted_by
byte_in_lem c b r e =
    let x = bit_xor c b in
    let high = x / 2 ^ 8 in
    let low = x % 2 ^ 8 in
    let moved : up 16 8 x ≡ low * 2 ^ 8 = omega arith in
    let apart : bit_xor (high * 2 ^ 8) low ≡ x = xor_shifted high 8 low (omega arith) ∙ omega arith in
    let shifts : r ≡ shifted_by 8 low = e ∙ ap (shifted_by 16) moved ∙ ap (shifted_by 8) (high_shifts 8 low) in
    ap₂ bit_xor (sym (high_shifts 8 high)) shifts ∙ sym ((shifts_linear 8).over (high * 2 ^ 8) low) ∙ ap (shifted_by 8) apart

-- a byte before a row
before : (c b row : ℕ) → b < 2 ^ 8 → bit_xor (byte_in c b) row ≡ shifted_by 8 (bit_xor c (low_first b row))
unfolding byte_in
before c b row l =
    let above : bit_xor b (row * 2 ^ 8) ≡ low_first b row = xor_comm b (row * 2 ^ 8) ∙ xor_shifted row 8 b l ∙ omega arith in
    ap (bit_xor (byte_in c b)) (sym (high_shifts 8 row))
    ∙ sym ((shifts_linear 8).over (bit_xor c b) (row * 2 ^ 8))
    ∙ ap (shifted_by 8) (xor_assoc c b (row * 2 ^ 8) ∙ ap (bit_xor c) above)

pub two_in : (c b₀ b₁ w r : ℕ) → b₀ < 2 ^ 8 → w ≡ low_first b₀ b₁ → r ≡ shifted_by 16 (bit_xor c w) → r ≡ byte_in (byte_in c b₀) b₁
unfolding byte_in shifted_by
two_in c b₀ b₁ w r l e h = h ∙ ap (λ (x : ℕ). shifted_by 16 (bit_xor c x)) e ∙ ap (shifted_by 8) (sym (before c b₀ b₁ l))

pub four_in : (c b₀ b₁ b₂ b₃ low high r : ℕ) → b₀ < 2 ^ 8 → b₁ < 2 ^ 8 → b₂ < 2 ^ 8 → low ≡ low_first b₀ b₁ → high ≡ low_first b₂ b₃
    → r ≡ shifted_by 32 (bit_xor c (low + 65536 * high)) → r ≡ byte_in (byte_in (byte_in (byte_in c b₀) b₁) b₂) b₃
unfolding byte_in shifted_by
four_in c b₀ b₁ b₂ b₃ low high r l₀ l₁ l₂ e f h =
    let row₂ = low_first b₂ b₃ in
    let row₁ = low_first b₁ row₂ in
    let row : low + 65536 * high ≡ low_first b₀ row₁ = omega arith in
    h
    ∙ ap (λ (x : ℕ). shifted_by 32 (bit_xor c x)) row
    ∙ ap (shifted_by 24) (sym (before c b₀ row₁ l₀))
    ∙ ap (shifted_by 16) (sym (before (byte_in c b₀) b₁ row₂ l₁))
    ∙ ap (shifted_by 8) (sym (before (byte_in (byte_in c b₀) b₁) b₂ b₃ l₂))

-- ---- "The same CRC_A for every input"

byte_same : (c b : ℕ) → byte_at_once c b ≡ byte_in c b
byte_same c b = let x = up 16 8 (bit_xor c b) in byte_in_lem c b (at_once16 x) (sixteen x (mod-lt (bit_xor c b * 2 ^ 8) (pow_pos 16)))

two_same : (c b₀ b₁ : ℕ) → c < 2 ^ 16 → b₀ < 2 ^ 8 → b₁ < 2 ^ 8 → two_at_once c b₀ b₁ ≡ byte_in (byte_in c b₀) b₁
two_same c b₀ b₁ l l₀ l₁ =
    let w = low_first b₀ b₁ in
    two_in c b₀ b₁ w (two_at_once c b₀ b₁) l₀ refl (sixteen (bit_xor c w) (xor_lt 16 c w l (omega arith)))

all_same : (c : ℕ) (bs : List ℕ) → c < 2 ^ 16 → Bytes bs → bytes_at_once c bs ≡ bytes_in c bs
unfolding bytes_at_once bytes_in
all_same c [] l h = refl
all_same c (b ∷ []) l h = byte_same c b
all_same c (b₀ ∷ b₁ ∷ []) l h = two_same c b₀ b₁ l (h 0) (h 1)
all_same c (b₀ ∷ b₁ ∷ b₂ ∷ []) l h = byte_same (two_at_once c b₀ b₁) b₂ ∙ ap (λ (x : ℕ). byte_in x b₂) (two_same c b₀ b₁ l (h 0) (h 1))
all_same c (b₀ ∷ b₁ ∷ b₂ ∷ b₃ ∷ bs) l h =
    let low = low_first b₀ b₁ in
    let high = low_first b₂ b₃ in
    let x = bit_xor c (low + 65536 * high) in
    let l₀ : b₀ < 2 ^ 8 = h 0 in
    let l₁ : b₁ < 2 ^ 8 = h 1 in
    let l₂ : b₂ < 2 ^ 8 = h 2 in
    let l₃ : b₃ < 2 ^ 8 = h 3 in
    let x_lt : x < 2 ^ 32 = xor_lt 32 c (low + 65536 * high) (omega arith) (omega arith) in
    all_same (at_once32 x) bs (thirty_two_lt x x_lt) (λ i. h (suc (suc (suc (suc i)))))
    ∙ ap (λ (y : ℕ). bytes_in y bs) (four_in c b₀ b₁ b₂ b₃ low high (at_once32 x) l₀ l₁ l₂ refl refl (thirty_two x x_lt))

pub same_crc_a : SameCrcA
unfolding start crc_a
same_crc_a = record { byte = byte_same; bytes = all_same; crc = λ bs h. all_same start bs (omega arith) h }
