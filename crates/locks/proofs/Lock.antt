-- Which bit locks a page: what the table's row for it tells is what document 01's arithmetic says; and a locked page stays locked.
-- Assumes nothing.
use mathlib.Core.Path.{◌≡◌, ◌∙◌, refl, sym, ap, subst}
use mathlib.Core.Logic.{⊎_elim}
use Rattle.std.specs.Prelude.{Option, Some, None, is_some}
use mathlib.Core.Bool.{Bool, true, false, cond, ◌&&◌}
use Prim.Native.Nat.{ℕ, zero, suc, ◌+◌, ◌-◌, ◌*◌, ◌/◌, ◌≤◌, ◌<◌}
use native.Mathlib.Omega.{arith}
use lib.ListN.{length, get_or, get_or-append}
use Rattle.std.proofs.lemmas.List.{get_or-append_right}
use mathlib.Core.List.{List, ◌∷◌, ◌++◌}
use lib.Dec.{leb, ltb, eqb}
use borrow.Author.Tests.{ltb-true, ltb-false, eqb-true, eq-eqb, lt-ltb, le-ltb, le-leb, lt-leb}
use Rattle.basics.proofs.Choice.{by}
use Rattle.locks.proofs.Bits.{of_bits_zeros}
use Rattle.locks.proofs.Table.{rows, copy_at}
use Rattle.locks.specs.Bits.{bit_at, is_set, Gains, of_bits}
use Rattle.locks.specs.Locks.{Sized, lock_page, lock_bits, pages_each, dynamic_block, lock_of, bit_of, set_in, locked_by, clear_at, may_dynamic}
use Rattle.locks.specs.Table.{first_page, last_page, block_bit, row_for, row_at, first_row, rows_from, rows_for, InOrder, Covers}
use Rattle.locks.specs.declared.Row.{Row}
use Rattle.locks.specs.declared.LockBit.{LockBit}
use Rattle.locks.specs.declared.LockBit.TheVariants.{Static, Dynamic}

pub sized_least : {n : ℕ} → Sized n → 45 ≤ n
sized_least s = ⊎_elim (λ e. omega arith) (λ s. ⊎_elim (λ e. omega arith) (λ e. omega arith) s) s

pub sized_most : {n : ℕ} → Sized n → n ≤ 231
sized_most s = ⊎_elim (λ e. omega arith) (λ s. ⊎_elim (λ e. omega arith) (λ e. omega arith) s) s

-- what holds of the three sizes holds of each n that is one
pub by_size_lem : (P : ℕ → Type 0) → P 45 → P 135 → P 231 → {n : ℕ} → Sized n → P n
by_size_lem P a b c s = ⊎_elim (λ e. subst P (sym e) a) (λ s. ⊎_elim (λ e. subst P (sym e) b) (λ e. subst P (sym e) c) s) s

pub last_size : {n : ℕ} → Sized n → (n ≡ 45 → ⊥) → (n ≡ 135 → ⊥) → n ≡ 231
last_size s a b = ⊎_elim (λ e. absurd (a e)) (λ s. ⊎_elim (λ e. absurd (b e)) (λ e. e) s) s

-- ---- the row of a page

-- so many rows from i on are those that the rule makes: how many they are, and which stands at each place
rows_made : (n i k : ℕ) → rows_from n i k ≡ rows (row_for n) i k
rows_made n i zero = refl
rows_made n i (suc k) = ap (λ (r : List Row). row_for n i ∷ r) (rows_made n (suc i) k)

rows_length : (n i k : ℕ) → length (rows_from n i k) ≡ k
rows_length n i zero = refl
rows_length n i (suc k) = ap suc (rows_length n (suc i) k)

pub rows_count : (n : ℕ) → length (rows_for n) ≡ lock_bits n
unfolding rows_for
rows_count n = rows_length n 0 (lock_bits n)

pub rows_are : (n i : ℕ) (other : Row) → i < lock_bits n → get_or (rows_for n) i other ≡ row_for n i
unfolding rows_for
rows_are n i other l = copy_at (row_for n) (rows_from n 0 (lock_bits n)) (lock_bits n) i other (rows_made n 0 (lock_bits n)) l

-- the table of all three sizes: the rows of a size stand at its place in it
of_size : (n i : ℕ) → Sized n → i < lock_bits n → row_at (first_row n + i) ≡ row_for n i
unfolding row_at first_row lock_bits
of_size n i s = by_size_lem (λ n. i < lock_bits n → row_at (first_row n + i) ≡ row_for n i) at45 at135 at231 s
  where
    at45 : i < 12 → row_at (0 + i) ≡ row_for 45 i
    at45 l = let e : 0 + i ≡ i = omega arith in rw (e, lt-ltb i 12 l)

    at135 : i < 8 → row_at (12 + i) ≡ row_for 135 i
    at135 l =
        let e : 12 + i - 12 ≡ i = omega arith in
        rw (le-ltb (12 + i) 12 (omega arith), lt-ltb (12 + i) 20 (omega arith), e)

    at231 : i < 14 → row_at (20 + i) ≡ row_for 231 i
    at231 l =
        let e : 20 + i - 20 ≡ i = omega arith in
        rw (le-ltb (20 + i) 12 (omega arith), le-ltb (20 + i) 20 (omega arith), e)

-- and that table is the three sizes' rows, one size behind the other
in_place : (k : ℕ) (other : Row) → k < 34 → get_or (rows_for 45 ++ (rows_for 135 ++ rows_for 231)) k other ≡ row_at k
unfolding row_at lock_bits
in_place k other l =
    let twelve : length (rows_for 45) ≡ 12 = rows_count 45 in
    let eight : length (rows_for 135) ≡ 8 = rows_count 135 in
    by (λ (r : Row). get_or (rows_for 45 ++ (rows_for 135 ++ rows_for 231)) k other ≡ r) (ltb k 12)
    (λ a. let m : k < 12 = ltb-true k 12 a in get_or-append (rows_for 45) (rows_for 135 ++ rows_for 231) other k (rw twelve m) ∙ rows_are 45 k other m)
    (λ a.
    let m : 12 ≤ k = ltb-false k 12 a in
    get_or-append_right (rows_for 45) (rows_for 135 ++ rows_for 231) 12 k other twelve m
    ∙ by (λ (r : Row). get_or (rows_for 135 ++ rows_for 231) (k - 12) other ≡ r) (ltb k 20)
    (λ b. let h = ltb-true k 20 b in
    let below : k - 12 < 8 = omega arith in
    get_or-append (rows_for 135) (rows_for 231) other (k - 12) (rw eight below) ∙ rows_are 135 (k - 12) other below)
    (λ b. let h = ltb-false k 20 b in
    let e : k - 12 - 8 ≡ k - 20 = omega arith in
    let below : k - 20 < 14 = omega arith in
    get_or-append_right (rows_for 135) (rows_for 231) 8 (k - 12) other eight (omega arith) ∙ ap (λ (i : ℕ). get_or (rows_for 231) i other) e
    ∙ rows_are 231 (k - 20) other below))

pub in_order : InOrder
in_order = record { rows = in_place; of_size = of_size }

-- a row that was looked up among them
pub looked_up : (n i : ℕ) (rows : List Row) (r other : Row) → rows ≡ rows_for n → i < length rows → r ≡ get_or rows i other → r ≡ row_for n i
looked_up n i rows r other e l q =
    let below : i < lock_bits n = rw (e, rows_count n) at l in
    q ∙ rw e (rows_are n i other below)

-- a page that is at most its row's last is a user page
row_within : (n i p : ℕ) → Sized n → p ≤ last_page (row_for n i) → p < lock_page n
unfolding row_for
row_within n i p s l = let least = sized_least s in omega arith

-- a user page from 16 up is in the row that the arithmetic names
row_covers : (n p : ℕ) → Sized n → 16 ≤ p → p < lock_page n → ((p - 16) / pages_each n < lock_bits n) × Covers (row_for n ((p - 16) / pages_each n)) p
unfolding row_for pages_each lock_bits
row_covers n p s =
    by_size_lem (λ n. 16 ≤ p → p < lock_page n → ((p - 16) / pages_each n < lock_bits n) × Covers (row_for n ((p - 16) / pages_each n)) p)
    (λ h l. omega arith) (λ h l. omega arith) (λ h l. omega arith) s

-- ---- the rows' block column

pub lock_bits≤14 : (n : ℕ) → lock_bits n ≤ 14
unfolding lock_bits
lock_bits≤14 n = by (λ (k : ℕ). k ≤ 14) (eqb n 45) (λ _. omega arith) (λ _. by (λ (k : ℕ). k ≤ 14) (eqb n 135) (λ _. omega arith) (λ _. omega arith))

pub block_lt : (n i : ℕ) → i < lock_bits n → block_bit (row_for n i) < 16
unfolding row_for dynamic_block
block_lt n i l = let most = lock_bits≤14 n in omega arith

-- a block bit is that of two rows, so that two lock bits may be set alike
pub pair_may : (n blocks i x : ℕ) → 2 * i + 1 < lock_bits n → x ≡ clear_at blocks (block_bit (row_for n (2 * i)))
    → (x ≡ may_dynamic n blocks (2 * i)) × (x ≡ may_dynamic n blocks (2 * i + 1))
unfolding may_dynamic row_for dynamic_block
pair_may n blocks i x l e =
    let next : (2 * i + 1) / 2 ≡ 2 * i / 2 = omega arith in
    (e ∙ rw (lt-ltb (2 * i) (lock_bits n) (omega arith)), e ∙ rw (lt-ltb (2 * i + 1) (lock_bits n) l, next))

-- a size has an even number of lock bits
pub pairs : (n : ℕ) → 2 * (lock_bits n / 2) ≡ lock_bits n
unfolding lock_bits
pairs n = by (λ (k : ℕ). 2 * (k / 2) ≡ k) (eqb n 45) (λ _. omega arith) (λ _. by (λ (k : ℕ). 2 * (k / 2) ≡ k) (eqb n 135) (λ _. omega arith) (λ _. omega arith))

-- the lock bits that a size has are all that may be set
pub all_open : (n blocks : ℕ) → of_bits (lock_bits n) (may_dynamic n blocks) ≡ of_bits 16 (may_dynamic n blocks)
unfolding may_dynamic
all_open n blocks = of_bits_zeros (lock_bits n) 16 (may_dynamic n blocks) (may_dynamic n blocks) (let most = lock_bits≤14 n in omega arith) (λ i l. refl) (λ i l. rw (le-ltb i (lock_bits n) l))

-- ---- what each way through the question shows

pub no_lock : (n p : ℕ) → p < 3 → None ≡ lock_of n p
unfolding lock_of
no_lock n p l = simp (lt-leb _ _ l)

pub static_lock : (n p : ℕ) → Sized n → 3 ≤ p → p < 16 → Some (Static p) ≡ lock_of n p
unfolding lock_of
static_lock n p s h l =
    let least = sized_least s in
    simp (le-leb _ _ h, lt-ltb p (lock_page n) (omega arith), lt-ltb _ _ l)

-- a page from 16 up that its row lacks is no user page
no_row : (n p : ℕ) → Sized n → 16 ≤ p → ((p - 16) / pages_each n < lock_bits n → Covers (row_for n ((p - 16) / pages_each n)) p → ⊥) → None ≡ lock_of n p
unfolding lock_of
no_row n p s h lacks = simp (le-leb 3 p (omega arith)) (outside (ltb p (lock_page n)) refl)
  where
    outside : (t : Bool) → ltb p (lock_page n) ≡ t → None ≡ cond t (cond (ltb p 16) (Some (Static p)) (Some (Dynamic ((p - 16) / pages_each n)))) None
    outside false e = refl
    outside true e = let g = row_covers n p s h (ltb-true p (lock_page n) e) in absurd (lacks g.0 g.1)

-- what the row of its candidate i tells of a page from 16 up
module _ (n i p : ℕ) (s : Sized n) (h : 16 ≤ p) (e : i ≡ (p - 16) / pages_each n) where
  pub past_rows : lock_bits n ≤ i → None ≡ lock_of n p
  past_rows l = no_row n p s h (λ g f. omega arith)

  module _ (r : Row) (is_row : r ≡ row_for n i) where
    pub not_in_row : (first_page r ≤ p → p ≤ last_page r → ⊥) → None ≡ lock_of n p
    not_in_row out = no_row n p s h (λ g f. out (rw (is_row, e) f.0) (rw (is_row, e) f.1))

    pub in_row : p ≤ last_page r → Some (Dynamic i) ≡ lock_of n p
    unfolding lock_of
    in_row m =
        let within = row_within n i p s (rw is_row at m) in
        simp (le-leb 3 p (omega arith), lt-ltb p (lock_page n) within, le-ltb p 16 h) (ap (λ (i : ℕ). Some (Dynamic i)) e)

-- ---- the lock bit of a page is one of sixteen

pub lock_lt : (n p : ℕ) (r : Option LockBit) → Sized n → r ≡ lock_of n p → bit_of r < 16
unfolding lock_of pages_each
lock_lt n p r s e = rw e (by_size_lem (λ n. bit_of (lock_of n p) < 16) (one 40 2 (λ l. omega arith)) (one 130 16 (λ l. omega arith)) (one 226 16 (λ l. omega arith)) s)
  where
    one : (end' w : ℕ) → (p < end' → (p - 16) / w < 16) → bit_of (cond (leb 3 p && ltb p end') (cond (ltb p 16) (Some (Static p)) (Some (Dynamic ((p - 16) / w)))) None) < 16
    one end' w h = pick (leb 3 p) (ltb p end') (ltb p 16) refl refl
      where
        pick : (a b t : Bool) → ltb p end' ≡ b → ltb p 16 ≡ t → bit_of (cond (a && b) (cond t (Some (Static p)) (Some (Dynamic ((p - 16) / w)))) None) < 16
        pick false b t e f = omega arith
        pick true false t e f = omega arith
        pick true true true e f = ltb-true p 16 f
        pick true true false e f = h (ltb-true p end' e)

pub static_bit : (i : ℕ) (l : Option LockBit) → bit_of l < 16 → l ≡ Some (Static i) → i < 16
static_bit i l h e = rw e at h

pub dynamic_bit : (i : ℕ) (l : Option LockBit) → bit_of l < 16 → l ≡ Some (Dynamic i) → i < 16
dynamic_bit i l h e = rw e at h

-- ---- the answer

pub asked : (statics dynamics : ℕ) (l l' : Option LockBit) (b : Bool) → l ≡ l' → b ≡ set_in statics dynamics l' → b ≡ set_in statics dynamics l
asked statics dynamics l l' b e h = rw e h

module _ (n statics dynamics p : ℕ) (r : Option LockBit) (e : r ≡ lock_of n p) (b : Bool) (q : b ≡ set_in statics dynamics r) where
  pub set_locks : b ≡ true → r ≡ locked_by n statics dynamics p
  unfolding locked_by
  set_locks h = rw (← e, ← q, h)

  pub clear_open : b ≡ false → None ≡ locked_by n statics dynamics p
  unfolding locked_by
  clear_open h = rw (← e, ← q, h)

-- a page is locked exactly where its lock bit is set
pub locked_set : (n statics dynamics p : ℕ) → is_some (locked_by n statics dynamics p) ≡ set_in statics dynamics (lock_of n p)
unfolding locked_by
locked_set n statics dynamics p = pick (lock_of n p)
  where
    kept : (b : Bool) (l : Option LockBit) → is_some l ≡ true → is_some (cond b l None) ≡ b
    kept true l e = e
    kept false l e = refl

    pick : (l : Option LockBit) → is_some (cond (set_in statics dynamics l) l None) ≡ set_in statics dynamics l
    pick (Some (Static i)) = kept (is_set statics i) (Some (Static i)) refl
    pick (Some (Dynamic i)) = kept (is_set dynamics i) (Some (Dynamic i)) refl
    pick None = refl

-- a page once locked stays locked while no lock bit clears
pub stays_locked : (n p statics dynamics statics' dynamics' : ℕ) → Sized n → Gains 16 statics statics' → Gains 16 dynamics dynamics'
    → is_some (locked_by n statics dynamics p) ≡ true → is_some (locked_by n statics' dynamics' p) ≡ true
stays_locked n p statics dynamics statics' dynamics' s g h e =
    locked_set n statics' dynamics' p ∙ pick (lock_of n p) (lock_lt n p (lock_of n p) s refl) (sym (locked_set n statics dynamics p) ∙ e)
  where
    still : (a b i : ℕ) → bit_at a i ≤ bit_at b i → is_set a i ≡ true → is_set b i ≡ true
    still a b i l e = eq-eqb (bit_at b i) 1 (omega (arith, eqb-true (bit_at a i) 1 e))

    pick : (l : Option LockBit) → bit_of l < 16 → set_in statics dynamics l ≡ true → set_in statics' dynamics' l ≡ true
    pick (Some (Static i)) l e = still statics statics' i (g i l) e
    pick (Some (Dynamic i)) l e = still dynamics dynamics' i (h i l) e
    pick None l e = e
