-- What is linear: what it makes of an exclusive-or is the exclusive-or of what it makes of the two sides. Two such functions are the same for each row of
-- n bits where they are the same for each of n single bits. Assumes nothing.
use mathlib.Core.Path.{◌≡◌, refl, sym, ap, ap₂, subst, ◌∙◌}
use mathlib.Core.Bool.{Bool, true, ◌&&◌}
use Prim.Native.Nat.{ℕ, zero, suc, ◌+◌, ◌*◌, ◌/◌, ◌%◌, ◌^◌, ◌<◌}
use native.Mathlib.Nat.{add-zero, one-mul, zero-mul, mod-lt}
use native.Mathlib.Omega.{arith}
use lib.Arith.{bin_ind}
use lib.Bits.{bit_xor, differ, xor_step, xor_comm, xor_self, xor_shifted, xor_block, xor_shr, xor_mod}
use lib.Dec.{eqb}
use lib.Pow.{pow_pos, shr_lt, split}
use borrow.Author.Tests.{eqb-true}
use Rattle.basics.proofs.Choice.{and_left, and_right}

-- ---- exclusive-or, bit by bit

differ_lt : (x y : ℕ) → x < 2 → y < 2 → differ x y < 2
differ_lt zero y h k = k
differ_lt (suc zero) zero h k = h
differ_lt (suc zero) (suc zero) h k = omega arith
differ_lt (suc zero) (suc (suc y)) h k = absurd (omega arith)
differ_lt (suc (suc x)) y h k = absurd (omega arith)

differ_assoc : (x y z : ℕ) → x < 2 → y < 2 → z < 2 → differ (differ x y) z ≡ differ x (differ y z)
differ_assoc zero y z h k l = refl
differ_assoc (suc zero) zero z h k l = refl
differ_assoc (suc zero) (suc zero) zero h k l = refl
differ_assoc (suc zero) (suc zero) (suc zero) h k l = refl
differ_assoc (suc zero) (suc zero) (suc (suc z)) h k l = absurd (omega arith)
differ_assoc (suc zero) (suc (suc y)) z h k l = absurd (omega arith)
differ_assoc (suc (suc x)) y z h k l = absurd (omega arith)

pub low : (a b : ℕ) → bit_xor a b % 2 ≡ differ (a % 2) (b % 2)
low a b = omega (arith, xor_step a b, differ_lt (a % 2) (b % 2) (omega arith) (omega arith))

pub xor_assoc : (a b c : ℕ) → bit_xor (bit_xor a b) c ≡ bit_xor a (bit_xor b c)
xor_assoc =
    bin_ind (λ (n : ℕ). (b c : ℕ) → bit_xor (bit_xor n b) c ≡ bit_xor n (bit_xor b c)) (λ b c. refl)
    (λ n ih b c.
    xor_step (bit_xor n b) c
    ∙ ap₂ (λ (x y : ℕ). x * 2 + y)
    (ap (λ (x : ℕ). bit_xor x (c / 2)) (xor_shr n b 1) ∙ ih (b / 2) (c / 2) ∙ ap (bit_xor (n / 2)) (sym (xor_shr b c 1)))
    (ap (λ (x : ℕ). differ x (c % 2)) (low n b) ∙ differ_assoc (n % 2) (b % 2) (c % 2) (omega arith) (omega arith) (omega arith) ∙ ap (differ (n % 2)) (sym (low b c)))
    ∙ sym (xor_step n (bit_xor b c)))

xor_four : (a b c d : ℕ) → bit_xor (bit_xor a b) (bit_xor c d) ≡ bit_xor (bit_xor a c) (bit_xor b d)
xor_four a b c d =
    xor_assoc a b (bit_xor c d)
    ∙ ap (bit_xor a) (sym (xor_assoc b c d) ∙ ap (λ (x : ℕ). bit_xor x d) (xor_comm b c) ∙ xor_assoc c b d)
    ∙ sym (xor_assoc a c (bit_xor b d))

-- ---- what is linear

pub record Linear (f : ℕ → ℕ) : Type 0 where
  pub over : (a b : ℕ) → f (bit_xor a b) ≡ bit_xor (f a) (f b)

pub itself : Linear (λ (x : ℕ). x)
itself = record { over = λ a b. refl }

scaled : (k a b : ℕ) → bit_xor a b * 2 ^ k ≡ bit_xor (a * 2 ^ k) (b * 2 ^ k)
scaled k a b = let h = xor_block k a b 0 0 (pow_pos k) (pow_pos k) in sym (simp add-zero at h)

pub moved_up : (w k : ℕ) → Linear (λ (x : ℕ). x * 2 ^ k % 2 ^ w)
moved_up w k = record { over = λ a b. ap (λ (x : ℕ). x % 2 ^ w) (scaled k a b) ∙ xor_mod (a * 2 ^ k) (b * 2 ^ k) w }

pub moved_down : (k : ℕ) → Linear (λ (x : ℕ). x / 2 ^ k)
moved_down k = record { over = λ a b. xor_shr a b k }

pub both : {f g : ℕ → ℕ} → Linear f → Linear g → Linear (λ (x : ℕ). bit_xor (f x) (g x))
both {f} {g} h k = record { over = λ a b. ap₂ bit_xor (h.over a b) (k.over a b) ∙ xor_four (f a) (f b) (g a) (g b) }

infixl 20 ◌then◌
pub ◌then◌ : {f g : ℕ → ℕ} → Linear f → Linear g → Linear (λ (x : ℕ). g (f x))
◌then◌ {f} {g} h k = record { over = λ a b. ap g (h.over a b) ∙ k.over (f a) (f b) }

-- ---- the same for each of n single bits, the same for each row of n bits

zero_stays : (f : ℕ → ℕ) → Linear f → f 0 ≡ 0
zero_stays f h = h.over 0 0 ∙ xor_self (f 0)

module _ (f g : ℕ → ℕ) where
  unfoldable pub alike : ℕ → Bool
  alike zero = true
  alike (suc k) = eqb (f (2 ^ k)) (g (2 ^ k)) && alike k

  -- the highest of the bits, or none
  top : Linear f → Linear g → (n h : ℕ) → f (2 ^ n) ≡ g (2 ^ n) → h < 2 → f (h * 2 ^ n) ≡ g (h * 2 ^ n)
  top h k n zero e l = rw (zero-mul (2 ^ n)) (zero_stays f h ∙ sym (zero_stays g k))
  top h k n (suc zero) e l = rw (one-mul (2 ^ n)) e
  top h k n (suc (suc m)) e l = absurd (omega arith)

  pub same : Linear f → Linear g → (n : ℕ) → alike n ≡ true → (x : ℕ) → x < 2 ^ n → f x ≡ g x
  unfolding alike
  same h k zero t x l = let z : x ≡ 0 = omega arith in rw z (zero_stays f h ∙ sym (zero_stays g k))
  same h k (suc n) t x l =
      let high = x / 2 ^ n in
      let low = x % 2 ^ n in
      let apart : x ≡ bit_xor (high * 2 ^ n) low = sym (xor_shifted high n low (mod-lt x (pow_pos n)) ∙ split x n) in
      let e : f (2 ^ n) ≡ g (2 ^ n) = eqb-true (f (2 ^ n)) (g (2 ^ n)) (and_left (eqb (f (2 ^ n)) (g (2 ^ n))) (alike n) t) in
      let l' : x < 2 ^ (1 + n) = let one_more : suc n ≡ 1 + n = omega arith in subst (λ (m : ℕ). x < 2 ^ m) one_more l in
      let here : f (high * 2 ^ n) ≡ g (high * 2 ^ n) = top h k n high e (shr_lt 1 n l') in
      let below : f low ≡ g low = same h k n (and_right (eqb (f (2 ^ n)) (g (2 ^ n))) (alike n) t) low (mod-lt x (pow_pos n)) in
      ap f apart ∙ h.over (high * 2 ^ n) low ∙ ap₂ bit_xor here below ∙ sym (k.over (high * 2 ^ n) low) ∙ sym (ap g apart)
