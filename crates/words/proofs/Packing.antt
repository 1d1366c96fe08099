-- Laws of a word as a number: two words of bytes with one number are one word. Assumes nothing.
use Prim.Native.Nat.{ℕ, ◌<◌, ◌≤◌}
use mathlib.Core.Path.{◌≡◌, refl, ap, sym, ◌∙◌}
use mathlib.Core.Bool.{Bool, true, false, cond, ◌&&◌}
use mathlib.Core.List.{List, [], ◌∷◌}
use native.Mathlib.Omega.{arith}
use lib.Dec.{ltb, eqb}
use borrow.Author.Tests.{ltb-true, eq-eqb, ne_eqb, eqb-true}
use Rattle.std.specs.Str.{bytes_eq}
use Rattle.std.proofs.lemmas.Bool.Decides.{same_from_decides}
use Rattle.std.proofs.lemmas.Slice.Eq.{bytes_eq-Decides}
use Rattle.basics.proofs.Choice.{and_left, and_right}
use Rattle.words.specs.Pack.{pack, packed_of, all_bytes, readable}

pub pack_some : (w : List ℕ) → 1 ≤ pack w
pack_some [] = omega arith
pack_some (b ∷ r) = omega (arith, pack_some r)

pack_same : (w l : List ℕ) → all_bytes w ≡ true → all_bytes l ≡ true → pack w ≡ pack l → w ≡ l
pack_same [] [] a b e = refl
pack_same [] (y ∷ ys) a b e = absurd (omega (arith, e, pack_some ys))
pack_same (x ∷ xs) [] a b e = absurd (omega (arith, e, pack_some xs))
pack_same (x ∷ xs) (y ∷ ys) a b e =
    let u : x < 256 = ltb-true x 256 (and_left (ltb x 256) (all_bytes xs) a) in
    let v : y < 256 = ltb-true y 256 (and_left (ltb y 256) (all_bytes ys) b) in
    let p : x ≡ y = omega (arith, e, u, v) in
    let f : pack xs ≡ pack ys = omega (arith, e, u, v) in
    let q : xs ≡ ys = pack_same xs ys (and_right (ltb x 256) (all_bytes xs) a) (and_right (ltb y 256) (all_bytes ys) b) f in
    cc

-- a word of a table, whose number fits 64 bits
abbrev pub is_word : List ℕ → Bool
is_word l = ltb (pack l) 0x1_0000_0000_0000_0000 && all_bytes l

module _ (w : List ℕ) (k : ℕ) (number : k ≡ packed_of w) (bytes : readable w k ≡ true) where
  -- a word of the table has the number k just where it is w
  pub by_number : (l : List ℕ) → is_word l ≡ true → eqb k (pack l) ≡ bytes_eq w l
  unfolding packed_of readable
  by_number l h = same_from_decides (eqb k (pack l)) (bytes_eq w l) (same, number_of) (bytes_eq-Decides w l)
    where
      number_of : w ≡ l → eqb k (pack l) ≡ true
      number_of e =
          let t : ltb (pack l) 0x1_0000_0000_0000_0000 ≡ true = and_left (ltb (pack l) 0x1_0000_0000_0000_0000) (all_bytes l) h in
          eq-eqb k (pack l) (number ∙ ap packed_of e ∙ ap (λ (o : Bool). cond o (pack l) 0) t)

      packed : (o : Bool) → cond o (pack w) 0 ≡ pack l → pack w ≡ pack l
      packed true e = e
      packed false e = absurd (let z : ◌≡◌ {A = ℕ} 0 (pack l) = e in omega (arith, pack_some l))

      same : eqb k (pack l) ≡ true → w ≡ l
      same t =
          let e : k ≡ pack l = eqb-true k (pack l) t in
          let z : eqb k 0 ≡ false = ne_eqb k 0 (λ n. omega (arith, pack_some l)) in
          let a : all_bytes w ≡ true = sym (ap (λ (o : Bool). cond o true (all_bytes w)) z) ∙ bytes in
          pack_same w l a (and_right (ltb (pack l) 0x1_0000_0000_0000_0000) (all_bytes l) h)
          (packed (ltb (pack w) 0x1_0000_0000_0000_0000) (sym number ∙ e))
