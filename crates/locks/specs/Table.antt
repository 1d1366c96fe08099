-- Needed by the code alone: the rule of its table of all 34 dynamic lock bits, and what the table tells. Rows 0-11 are N=45, rows 12-19
-- N=135, rows 20-33 N=231. Assumes nothing.
use Rattle.std.specs.Prelude.{◌≡◌, List, [], ◌∷◌, ◌++◌, get_or, cond, ℕ, zero, suc, ◌+◌, ◌-◌, ◌*◌, ◌≤◌, ◌<◌, min, eqb, ltb}
use Rattle.locks.specs.Locks.{Sized, lock_page, lock_bits, pages_each, dynamic_block}
use Rattle.locks.specs.declared.Row.{Row}

abbrev pub first_page : Row → ℕ
first_page r = r.0

abbrev pub last_page : Row → ℕ
last_page r = r.1

abbrev pub block_bit : Row → ℕ
block_bit r = r.2

-- lock bit i at n pages: "They cover user pages from 16 up, in order", the last only as far as user pages go
unfoldable pub row_for : ℕ → ℕ → Row
row_for n i =
    let first = 16 + pages_each n * i in
    (first, min (first + (pages_each n - 1)) (lock_page n - 1), dynamic_block i)

-- row k of the table
unfoldable pub row_at : ℕ → Row
row_at k = cond (ltb k 12) (row_for 45 k) (cond (ltb k 20) (row_for 135 (k - 12)) (row_for 231 (k - 20)))

-- where the rows of a size begin
unfoldable pub first_row : ℕ → ℕ
first_row n = cond (eqb n 45) 0 (cond (eqb n 135) 12 20)

-- the rows of a size, from lock bit i on so many, and all of them
abbrev pub rows_from : ℕ → ℕ → ℕ → List Row
rows_from n i zero = []
rows_from n i (suc k) = row_for n i ∷ rows_from n (suc i) k

unfoldable pub rows_for : ℕ → List Row
rows_for n = rows_from n 0 (lock_bits n)

-- the three sizes' rows, one size behind the other, are the 34 rows in their order, and lock bit i of a size has the i-th of its rows
pub record InOrder : Type 0 where
  pub rows : (k : ℕ) (other : Row) → k < 34 → get_or (rows_for 45 ++ (rows_for 135 ++ rows_for 231)) k other ≡ row_at k
  pub of_size : (n i : ℕ) → Sized n → i < lock_bits n → row_at (first_row n + i) ≡ row_for n i

-- the row has the page
abbrev pub Covers : Row → ℕ → Type 0
Covers r p = (first_page r ≤ p) × (p ≤ last_page r)
