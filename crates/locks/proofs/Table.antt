-- A table that a rule makes, row by row: what stands at place k is what the rule says of k. Assumes nothing.
use mathlib.Core.Path.{◌≡◌, ◌∙◌, sym, ap}
use mathlib.Core.List.{List, [], ◌∷◌}
use Prim.Native.Nat.{ℕ, zero, suc, ◌+◌, ◌<◌}
use native.Mathlib.Nat.{add-zero, zero-add, add-suc, suc-add, le_of_suc-le-suc, not-suc-le-zero}
use lib.ListN.{get_or}

module _ {A : Type 0} (rule : ℕ → A) where
  -- the rule at k, k + 1, .., for n rows
  abbrev pub rows : ℕ → ℕ → List A
  rows k zero = []
  rows k (suc n) = rule k ∷ rows (suc k) n

  from : (k n i : ℕ) (other : A) → i < n → get_or (rows k n) i other ≡ rule (k + i)
  from k zero i other h = absurd (not-suc-le-zero h)
  from k (suc n) zero other h = ap rule (sym (add-zero k))
  from k (suc n) (suc i) other h = from (suc k) n i other (le_of_suc-le-suc h) ∙ ap rule (suc-add k i ∙ sym (add-suc k i))

  pub at : (n i : ℕ) (other : A) → i < n → get_or (rows 0 n) i other ≡ rule i
  at n i other h = from 0 n i other h ∙ ap rule (zero-add i)

  -- of a copy of the table
  pub copy_at : (table : List A) (n i : ℕ) (other : A) → table ≡ rows 0 n → i < n → get_or table i other ≡ rule i
  copy_at table n i other e h = rw e (at n i other h)

-- two rules that make the same table agree on it
pub agree : {A : Type 0} (f g : ℕ → A) (n i : ℕ) → rows f 0 n ≡ rows g 0 n → i < n → f i ≡ g i
agree f g n i e h = sym (at f n i (f 0) h) ∙ copy_at g (rows f 0 n) n i (f 0) e h
