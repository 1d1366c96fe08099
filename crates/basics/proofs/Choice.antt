-- The laws of choice: tests taken apart and put together, and what a function by cases gives. Assumes nothing.
use mathlib.Core.Path.{◌≡◌, refl, sym, ◌∙◌}
use mathlib.Core.Bool.{Bool, true, false, not, cond, ◌&&◌}
use Prim.Native.Nat.{ℕ}
use native.Mathlib.Omega.{arith}

pub never : {C : Type 0} → true ≡ false → C
never e = absurd (let z : ◌≡◌ {A = ℕ} 0 1 = cc in omega arith)

-- ---- a test, both ways

pub split : {C : Type 0} (b : Bool) → (b ≡ true → C) → (b ≡ false → C) → C
split true f g = f refl
split false f g = g refl

-- a property of a choice, from the property of each side
pub by : {A : Type 0} (P : A → Type 0) (b : Bool) {x y : A} → (b ≡ true → P x) → (b ≡ false → P y) → P (cond b x y)
by P true f g = f refl
by P false f g = g refl

-- ---- and, not

pub and_left : (a b : Bool) → (a && b) ≡ true → a ≡ true
and_left true b e = refl
and_left false b e = e

pub and_right : (a b : Bool) → (a && b) ≡ true → b ≡ true
and_right true b e = e
and_right false b e = never (let z : true ≡ false = cc in z)

pub and_both : (a b : Bool) → a ≡ true → b ≡ true → (a && b) ≡ true
and_both a b e h = rw (e, h)

pub not_true : (a : Bool) → not a ≡ true → a ≡ false
not_true true e = never (let z : true ≡ false = cc in z)
not_true false e = refl

pub not_not : (a : Bool) → a ≡ not (not a)
not_not true = refl
not_not false = refl

-- ---- choices

-- a choice between one thing and itself
pub same_either : {A : Type 0} (b : Bool) (x : A) → x ≡ cond b x x
same_either true x = refl
same_either false x = refl

-- what a function by cases gives, where the case is known
pub by_case : {A B : Type 0} (f : A → B) (s s' : A) (r : B) → s ≡ s' → r ≡ f s' → r ≡ f s
by_case f s s' r e h = rw e h

-- the value of a test that is held as a flag, where the flag's is known
pub flag : (f t v : Bool) → f ≡ t → f ≡ v → t ≡ v
flag f t v e h = sym e ∙ h
