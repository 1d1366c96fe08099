-- What is left of forty bits, and what `known` says of the second byte. Assumes nothing.
use Rattle.std.proofs.Common.{◌≡◌, refl, Bool, true, false, ℕ, ◌+◌, ◌-◌, ◌/◌, ◌^◌, ◌≤◌, ◌<◌, if◌then◌else◌, Some, None, arith}
use native.Mathlib.Nat.{div-lt_iff_lt-mul}
use lib.Pow.{pow_pos, pow-add}

pub others_fit : (own n : ℕ) → own < 2 ^ 40 → n ≤ 39 → own / 2 ^ n < 2 ^ (40 - n)
others_fit own n l m =
    let e : 40 - n + n ≡ 40 = omega arith in
    (div-lt_iff_lt-mul (pow_pos n)).1 (rw (← pow-add 2 (40 - n) n, e) l)

pub asked : (b : Bool) (n k : ℕ) → Some n ≡ (if b then Some k else None) → b ≡ true
asked true n k e = refl
asked false n k e = absurd cc

pub not_asked : (b : Bool) (k : ℕ) → None ≡ (if b then Some k else None) → b ≡ false
not_asked true k e = absurd cc
not_asked false k e = refl
