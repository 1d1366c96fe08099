-- What each way through the mirror shows. Assumes nothing.
use mathlib.Core.Path.{◌≡◌, refl}
use mathlib.Core.List.{List}
use mathlib.Core.Bool.{Bool, false, cond}
use Prim.Native.Nat.{ℕ, ◌/◌, ◌<◌}
use native.Mathlib.Omega.{arith}
use borrow.Author.Tests.{leb-false}
use Rattle.std.specs.Prelude.{Option, Some, None, IfSome, option_and_then}
use Rattle.image.specs.Layout.{byte, page_at, first_settings}
use Rattle.image.specs.Mirror.{is_chosen, chosen, wanted, allowed, mirror_for}
use Rattle.image.specs.declared.layout.Four.{Four}
use Rattle.image.specs.declared.mirror.Mirror.{Mirror}

-- ---- no mirror

pub not_chosen : (n : ℕ) (img : List ℕ) (authenticated : Bool) → is_chosen n img ≡ false → None ≡ mirror_for n img authenticated
unfolding mirror_for wanted chosen page_at
not_chosen n img authenticated h =
    let l : byte img (first_settings n) 0 < 64 = leb-false _ _ h in
    let z : byte img (first_settings n) 0 / 64 ≡ 0 = omega arith in
    simp z

-- ---- whether it is shown

module _ (n : ℕ) (img : List ℕ) (authenticated : Bool) where
  -- whether one is allowed may be asked before it is known which
  asked : (b : Bool) (o : Option Mirror) → IfSome o (λ m. allowed n img authenticated m ≡ b)
      → option_and_then (λ m. cond b (Some m) None) o ≡ option_and_then (λ m. cond (allowed n img authenticated m) (Some m) None) o
  asked b None h = refl
  asked b (Some m) h = rw h

  -- the mirror that the settings want is the one that is seen where it is allowed, and else there is none
  pub known : (page : Four) (o : Option Mirror) (b : Bool) → page ≡ page_at img (first_settings n) → o ≡ wanted page → IfSome o (λ m. allowed n img authenticated m ≡ b)
      → option_and_then (λ m. cond b (Some m) None) o ≡ mirror_for n img authenticated
  unfolding mirror_for
  known page o b e f h = rw (← e, ← f) (asked b o h)
