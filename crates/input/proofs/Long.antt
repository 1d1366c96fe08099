-- A line that fills the line buffer is answered as the whole line would be. Assumes nothing.
use Prim.Native.Nat.{ℕ, ◌+◌, ◌-◌, ◌<◌, ◌≤◌}
use mathlib.Core.Path.{◌≡◌, refl, sym, ap, ap₂, ◌∙◌}
use mathlib.Core.Bool.{Bool, cond}
use mathlib.Core.List.{List, []}
use native.Mathlib.Omega.{arith}
use lib.Dec.{eqb, leb}
use lib.ListN.{length, take, get_or}
use lib.Seq.{get_or-take, take_all, length-take-le}
use borrow.Author.Tests.{leb-true, leb-false, ne_eqb}
use Rattle.basics.proofs.Choice.{split, by}
use Rattle.input.specs.Lines.{unended, is_skipped, Program, answer_to, kept_after}
use Rattle.input.specs.Reading.{longest, line_room, kept}
use Rattle.input.specs.Running.{LongAlike}

-- a front of a line is skipped where the line is
skips_front : (n : ℕ) (l : List ℕ) → 0 < n → n ≤ length l → is_skipped (take n l) ≡ is_skipped l
unfolding is_skipped
skips_front n l s h =
    let m : length (take n l) ≡ n = length-take-le n l h in
    rw (ne_eqb (length (take n l)) 0 (λ z. omega (arith, m)), ne_eqb (length l) 0 (λ z. omega arith), get_or-take n l 0 0 (omega arith))

-- a line that is too long is so without a carriage return at its end, and it is skipped then where it was
module _ (w : List ℕ) (h : longest + 1 < length w) where
  long_unended : longest < length (unended w)
  unfolding unended
  long_unended =
      by (λ (u : List ℕ). longest < length u) (eqb (get_or w (length w - 1) 0) 13)
      (λ e. omega (arith, length-take-le (length w - 1) w (omega arith)))
      (λ e. omega arith)

  skips_unended : is_skipped (unended w) ≡ is_skipped w
  unfolding unended
  skips_unended =
      by (λ (u : List ℕ). is_skipped u ≡ is_skipped w) (eqb (get_or w (length w - 1) 0) 13)
      (λ e. skips_front (length w - 1) w (omega arith) (omega arith))
      (λ e. refl)

-- what is made of a line, d where it is skipped: the same of all that are too long
module _ {A : Type 0} (f : List ℕ → A) (d : A) (alike : (l l' : List ℕ) → longest < length l → longest < length l' → f l ≡ f l') where
  abbrev made : List ℕ → A
  made line = let l = unended line in cond (is_skipped l) d (f l)

  made_kept : (l : List ℕ) → made (kept l) ≡ made l
  made_kept l =
      split (leb (length l) line_room)
      (λ e. ap made (take_all line_room l (leb-true (length l) line_room e)))
      (λ e. let h : line_room < length l = leb-false (length l) line_room e in
      let few : longest + 1 < length (kept l) = omega (arith, length-take-le line_room l (omega arith)) in
      let many : longest + 1 < length l = omega arith in
      let skips : is_skipped (unended (kept l)) ≡ is_skipped (unended l) =
      skips_unended (kept l) few ∙ skips_front line_room l (omega arith) (omega arith) ∙ sym (skips_unended l many) in
      ap₂ (λ (s : Bool) (x : A). cond s d x) skips (alike (unended (kept l)) (unended l) (long_unended (kept l) few) (long_unended l many)))

module _ {Kept : Type 0} (p : Program Kept) (alike : LongAlike p) (k : Kept) (l : List ℕ) where
  pub answer_kept : answer_to p k (kept l) ≡ answer_to p k l
  unfolding answer_to
  answer_kept = made_kept (p.answer k) [] (alike.answer k) l

  pub next_kept : kept_after p k (kept l) ≡ kept_after p k l
  unfolding kept_after
  next_kept = made_kept (p.next k) k (alike.next k) l
