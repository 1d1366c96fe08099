-- What a written reading is, and where it stands. Assumes nothing.
use mathlib.Core.Path.{◌≡◌, refl, ap, ◌∙◌}
use mathlib.Core.List.{List, ◌++◌, append-nil}
use Prim.Native.Nat.{ℕ, ◌-◌, ◌≤◌}
use native.Mathlib.Omega.{arith}
use lib.ListN.{length, take, drop, length-take, drop_of_length-le}
use borrow.Rule.Slice.PartMut.{put_mid}
use borrow.Author.Tests.{le-ltb}
use Rattle.image.specs.Layout.{bytes_of}
use Rattle.logger.specs.Writer.{reading_of, block_of, written, Wrote}

-- however long its numbers are
pub block_length : (second watts : ℕ) → length (block_of second watts) ≡ 14
unfolding block_of reading_of bytes_of
block_length second watts = refl

-- a block that is copied to the first fourteen bytes of an area, which has these, is a reading written there
pub area_written : (second watts : ℕ) (area : List ℕ) (block part : List ℕ) → 14 ≤ length area → block ≡ block_of second watts
    → part ≡ block ++ drop (length block) (take (14 - 0) (drop 0 area))
    → Wrote (written second watts area) 0 (put_mid 0 (14 - 0) area part)
unfolding written
area_written second watts area block part h e p =
    let l : length block ≡ 14 = ap length e ∙ block_length second watts in
    let few : length (take 14 area) ≤ length block = simp length-take (omega (arith, l)) in
    let q : part ≡ block_of second watts =
    p ∙ ap (λ (x : List ℕ). block ++ x) (drop_of_length-le (take 14 area) few) ∙ append-nil block ∙ e in
    rw (le-ltb (length area) 14 h) (record { refused = refl; area = ap (λ (x : List ℕ). x ++ drop 14 area) q })
