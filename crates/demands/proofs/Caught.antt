-- Demand 3 does not hold of a tag that acknowledges and stores nothing, nor of one that stores the first WRITE only. Assumes nothing.
use mathlib.Core.Path.{◌≡◌, refl, ap}
use Prim.Native.Nat.{ℕ}
use native.Mathlib.Omega.{arith}
use Rattle.image.specs.declared.layout.Four.{Four}
use Rattle.demands.specs.Demand.{Keeps3}
use Rattle.demands.specs.Table.{plain}
use Rattle.demands.specs.Wrong.{lazy, once, two_writes}
use Rattle.demands.proofs.Computes.{computes}

pub lazy_caught : Keeps3 lazy → ⊥
unfolding computes
lazy_caught keeps =
    let e : ◌≡◌ {A = ℕ} 4 5 = ap (λ (v : Four). v.b0) ((keeps (plain 45) two_writes).user_pages 4 refl) in
    omega arith

pub once_caught : Keeps3 once → ⊥
unfolding computes
once_caught keeps =
    let e : ◌≡◌ {A = ℕ} 1 5 = ap (λ (v : Four). v.b0) ((keeps (plain 45) two_writes).user_pages 4 refl) in
    omega arith
