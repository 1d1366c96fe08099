-- What each way through the blocks shows. Assumes nothing.
use mathlib.Core.Path.{◌≡◌, ◌∙◌}
use mathlib.Core.List.{List, [], ◌∷◌}
use Prim.Native.Nat.{ℕ, ◌≤◌, ◌<◌}
use native.Mathlib.Omega.{arith}
use denote.Ref.{Bor}
use lib.ListN.{length, drop, get_or}
use borrow.Author.Tests.{ne_eqb, lt-leb, le-leb}
use Rattle.std.specs.Prelude.{Option, Some, None, Err, MatchOption}
use Rattle.std.specs.List.{IsSplitAt}
use Rattle.screen.specs.declared.refusals.Refusal.TheVariants.{NoMessage}
use Rattle.screen.specs.Blocks.{counted, value_of, cut_off, taken, passed_over, block, walk}
use Rattle.screen.proofs.Walking.{goes}

pub cut_at : (n : ℕ) (xs : List ℕ) (r : Option (Bor (List ℕ) × Bor (List ℕ)))
    → MatchOption r (length xs < n) (λ p. IsSplitAt xs n p.0.now p.1.now) → cut_off r ≡ counted n xs
unfolding counted
cut_at n xs None h = rw (lt-leb n (length xs) h)
cut_at n xs (Some p) h = rw (le-leb n (length xs) h.0, h.1, h.2)

-- ---- the walk, a block at a time

pub walk_over : (xs : List ℕ) → length xs < 1 → walk xs ≡ Err NoMessage
unfolding block
walk_over [] h = goes []
walk_over (x ∷ xs) h = absurd (omega arith)

pub walk_ends : (xs : List ℕ) → 1 ≤ length xs → get_or xs 0 0 ≡ 0xFE → walk xs ≡ Err NoMessage
unfolding block
walk_ends [] h e = absurd (omega arith)
walk_ends (type ∷ xs) h e = goes (type ∷ xs) ∙ rw e

pub walk_null : (xs : List ℕ) → 1 ≤ length xs → get_or xs 0 0 ≡ 0x00 → walk xs ≡ walk (drop 1 xs)
unfolding block
walk_null [] h e = absurd (omega arith)
walk_null (type ∷ xs) h e = goes (type ∷ xs) ∙ rw e

pub walk_message : (xs : List ℕ) → 1 ≤ length xs → get_or xs 0 0 ≡ 0x03 → walk xs ≡ taken (value_of (drop 1 xs))
unfolding block
walk_message [] h e = absurd (omega arith)
walk_message (type ∷ xs) h e = goes (type ∷ xs) ∙ rw e

pub walk_past : (xs : List ℕ) → 1 ≤ length xs → (get_or xs 0 0 ≡ 0x00 → ⊥) → (get_or xs 0 0 ≡ 0xFE → ⊥) → (get_or xs 0 0 ≡ 0x03 → ⊥)
    → walk xs ≡ passed_over walk (value_of (drop 1 xs))
unfolding block
walk_past [] h some goes_on other = absurd (omega arith)
walk_past (type ∷ xs) h some goes_on other = goes (type ∷ xs) ∙ rw (ne_eqb type 0x00 some, ne_eqb type 0xFE goes_on, ne_eqb type 0x03 other)

-- What each kind of block leads the walk to, for each of its goals.
pub ruleset walking = (walk_over, walk_ends, walk_null, walk_message, walk_past)
