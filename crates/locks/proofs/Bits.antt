-- One bit of a number: how `|` and `&` act on it, and a number from its bits. Assumes nothing.
use mathlib.Core.Path.{◌≡◌, refl, sym, ap, ap₂, ◌∙◌}
use Prim.Native.Nat.{ℕ, zero, suc, suc-le-suc, ◌+◌, ◌-◌, ◌*◌, ◌/◌, ◌%◌, ◌^◌, ◌≤◌, ◌<◌, min, max}
use native.Mathlib.Nat.{not-suc-le-zero, le_of_suc-le-suc, zero-lt-suc, add-zero, lt_of_lt_of_le}
use native.Mathlib.Omega.{arith}
use native.Mathlib.Numerals.{one-add}
use lib.Pow.{shr-shr, pow_mono}
use lib.Bits.{bit_and, bit_or, or_step, and_step, or_shr, and_shr}
use Rattle.locks.specs.Bits.{bit_at, of_bits, Gains}

pub or_bit : (a b i : ℕ) → bit_at (bit_or a b) i ≡ max (bit_at a i) (bit_at b i)
or_bit a b i = rw or_shr (omega (arith, or_step (a / 2 ^ i) (b / 2 ^ i)))

pub and_bit : (a b i : ℕ) → bit_at (bit_and a b) i ≡ min (bit_at a i) (bit_at b i)
and_bit a b i = rw and_shr (omega (arith, and_step (a / 2 ^ i) (b / 2 ^ i)))

pub or_gains : (k a b : ℕ) → Gains k a (bit_or a b)
or_gains k a b i l = omega (arith, or_bit a b i)

pub gains_self : (k a : ℕ) → Gains k a a
gains_self k a i l = omega arith

pub gains_trans : (k a b c : ℕ) → Gains k a b → Gains k b c → Gains k a c
gains_trans k a b c p q i l = omega (arith, p i l, q i l)

shr_suc : (n i : ℕ) → n / 2 ^ suc i ≡ n / 2 / 2 ^ i
shr_suc n i = ap (λ (x : ℕ). n / 2 ^ x) (sym (one-add i)) ∙ sym (shr-shr n 1 i)

pub of_bits_lt : (k : ℕ) (f : ℕ → ℕ) → ((i : ℕ) → f i ≤ 1) → of_bits k f < 2 ^ k
of_bits_lt zero f h = omega arith
of_bits_lt (suc k) f h = omega (arith, h 0, of_bits_lt k (λ i. f (suc i)) (λ i. h (suc i)))

-- bit i of a number made of bits
pub bit_at_of_bits : (k : ℕ) (f : ℕ → ℕ) → ((i : ℕ) → f i ≤ 1) → (i : ℕ) → i < k → bit_at (of_bits k f) i ≡ f i
bit_at_of_bits zero f h i l = absurd (not-suc-le-zero l)
bit_at_of_bits (suc k) f h zero l = omega (arith, h 0)
bit_at_of_bits (suc k) f h (suc i) l =
    rw shr_suc
    (ap (λ (x : ℕ). x / 2 ^ i % 2) (half (f 0) (of_bits k (λ i. f (suc i))) (h 0)) ∙ bit_at_of_bits k (λ i. f (suc i)) (λ i. h (suc i)) i (le_of_suc-le-suc l))
  where
    half : (b x : ℕ) → b ≤ 1 → (b + 2 * x) / 2 ≡ x
    half b x h = omega arith

-- a number of k bits is known by its bits
pub by_bits : (k x : ℕ) (f : ℕ → ℕ) → x < 2 ^ k → ((i : ℕ) → i < k → bit_at x i ≡ f i) → x ≡ of_bits k f
by_bits zero x f l h = omega arith
by_bits (suc k) x f l h =
    omega (
      arith,
      h 0 (zero-lt-suc k),
      by_bits k (x / 2) (λ i. f (suc i)) (omega arith)
          (λ i m. ap (λ (y : ℕ). y % 2) (sym (shr_suc x i)) ∙ h (suc i) (suc-le-suc m)),
    )

-- bits that agree below k make the same number
pub of_bits_cong : (k : ℕ) (f g : ℕ → ℕ) → ((i : ℕ) → i < k → f i ≡ g i) → of_bits k f ≡ of_bits k g
of_bits_cong zero f g h = refl
of_bits_cong (suc k) f g h =
    ap₂ (λ (x y : ℕ). x + 2 * y) (h 0 (zero-lt-suc k)) (of_bits_cong k (λ i. f (suc i)) (λ i. g (suc i)) (λ i l. h (suc i) (suc-le-suc l)))

-- bits that are 0 from k on are not needed
pub of_bits_zeros : (k m : ℕ) (f g : ℕ → ℕ) → k ≤ m → ((i : ℕ) → i < k → f i ≡ g i) → ((i : ℕ) → k ≤ i → g i ≡ 0) → of_bits k f ≡ of_bits m g
of_bits_zeros zero zero f g l same none = refl
of_bits_zeros zero (suc m) f g l same none =
    omega (
      arith,
      none 0 (omega arith),
      of_bits_zeros zero m f (λ i. g (suc i)) (omega arith) (λ i b. absurd (not-suc-le-zero b)) (λ i b. none (suc i) (omega arith)),
    )
of_bits_zeros (suc k) zero f g l same none = absurd (not-suc-le-zero l)
of_bits_zeros (suc k) (suc m) f g l same none =
    ap₂ (λ (x y : ℕ). x + 2 * y) (same 0 (zero-lt-suc k))
    (of_bits_zeros k m (λ i. f (suc i)) (λ i. g (suc i)) (le_of_suc-le-suc l) (λ i b. same (suc i) (suc-le-suc b)) (λ i b. none (suc i) (suc-le-suc b)))

-- ---- a number gathered from the top down, two bits at a time that are both x: bits 2 * i and up of f's n

pub gathered_none : (n j : ℕ) (f : ℕ → ℕ) → j ≡ n → 0 ≡ of_bits (n - j) f
gathered_none n j f h = let e : n - j ≡ 0 = omega arith in rw e

pub gathered_more : (f : ℕ → ℕ) (n i x : ℕ) → 0 < i → 2 * i ≤ n → x ≡ f (2 * (i - 1)) → x ≡ f (2 * (i - 1) + 1)
    → 3 * x + 4 * of_bits (n - 2 * i) (λ k. f (2 * i + k)) ≡ of_bits (n - 2 * (i - 1)) (λ k. f (2 * (i - 1) + k))
gathered_more f n i x h l low high =
    let e : n - 2 * (i - 1) ≡ suc (suc (n - 2 * i)) = omega arith in
    let above = of_bits_cong (n - 2 * i) (λ k. f (2 * (i - 1) + suc (suc k))) (λ k. f (2 * i + k)) (λ k b. ap f (omega arith)) in
    rw e (omega (arith, ap f (add-zero (2 * (i - 1)))))

pub gathered_all : (f : ℕ → ℕ) (n j : ℕ) → j ≡ 0 → of_bits (n - j) (λ i. f (j + i)) ≡ of_bits n f
gathered_all f n j z =
    let e : n - j ≡ n = omega arith in
    ap (λ (k : ℕ). of_bits k (λ i. f (j + i))) e ∙ of_bits_cong n (λ i. f (j + i)) f (λ i l. ap f (omega arith))

pub gathered_lt : (m k : ℕ) (f : ℕ → ℕ) → ((i : ℕ) → f i ≤ 1) → k ≤ m → of_bits k f < 2 ^ m
gathered_lt m k f h l = lt_of_lt_of_le (of_bits_lt k f h) (pow_mono l)
