-- What each way through the questions shows, and the examples of the layout. Assumes nothing.
use mathlib.Core.Path.{◌≡◌, refl, ◌∙◌}
use mathlib.Core.Logic.{◌⊎◌, inl, inr, ⊎_elim}
use mathlib.Core.List.{List}
use mathlib.Core.Bool.{cond}
use Prim.Native.Nat.{ℕ, ◌+◌, ◌*◌, ◌≤◌, ◌<◌}
use native.Mathlib.Omega.{arith}
use lib.Dec.{eqb, ltb}
use lib.ListN.{length}
use borrow.Author.Tests.{eqb-true, lt-ltb, le-ltb, lt-leb, le-leb}
use Rattle.std.specs.Prelude.{Option, Some}
use Rattle.basics.proofs.Choice.{by}
use Rattle.locks.specs.Locks.{Sized, lock_page}
use Rattle.locks.proofs.Lock.{sized_least, sized_most}
use Rattle.image.specs.Layout.{size_of, Fits, byte, page_at, store, first_settings, pwd_page, region_of, TheTable}
use Rattle.image.specs.Uid.{uid, bcc0, bcc1, UidExample}
use Rattle.image.specs.Write.{written_in, written, write}
use Rattle.image.specs.Tail.{counter_in, next_count, counted}
use Rattle.image.specs.declared.layout.Four.{Four}
use Rattle.image.specs.declared.layout.Region.{Region}
use Rattle.image.specs.declared.layout.Region.TheVariants.{Uid, StaticLocks, Capability, User, DynamicLocks, Settings, Password, Outside}

-- ---- sizes

sized_fits : (n : ℕ) (img : List ℕ) → Sized n → length img ≡ 4 * n + 4 → Fits n img
sized_fits n img s e = record { size = s; least = sized_least s; most = sized_most s; whole = e }

-- an image whose length has a size has as many pages
pub fits : (n : ℕ) (img : List ℕ) → size_of (length img) ≡ Some n → Fits n img
unfolding size_of
fits n img =
    let P : Option ℕ → Type 0 = λ s. s ≡ Some n → Fits n img in
    let l = length img in
    by P (eqb l 184) (λ p. same 45 184 (inl refl) (eqb-true l 184 p) refl)
    (λ _. by P (eqb l 544) (λ p. same 135 544 (inr (inl refl)) (eqb-true l 544 p) refl)
    (λ _. by P (eqb l 928) (λ p. same 231 928 (inr (inr refl)) (eqb-true l 928 p) refl) (λ _ h. cc)))
  where
    same : (m k : ℕ) → Sized m → length img ≡ k → k ≡ 4 * m + 4 → Some m ≡ Some n → Fits n img
    same m k s e f p = let q : m ≡ n = cc in rw (← q) (sized_fits m img s (e ∙ f))

-- ---- regions

module _ (n p : ℕ) where
  pub outside : n ≤ p → Outside ≡ region_of n p
  unfolding region_of
  outside l = simp (le-leb _ _ l)

  pub in_statics : p < n → p ≡ 2 → StaticLocks ≡ region_of n p
  unfolding region_of
  in_statics l e = simp (lt-leb n p l, le-ltb p 2 (omega arith), lt-ltb p 3 (omega arith))

  pub in_capability : p < n → p ≡ 3 → Capability ≡ region_of n p
  unfolding region_of
  in_capability l e = simp (lt-leb n p l, le-ltb p 2 (omega arith), le-ltb p 3 (omega arith), lt-ltb p 4 (omega arith))

  -- from page 4 on a page goes by its distance from the end
  module _ (distance : ℕ) (from_four : 4 ≤ p) (e : p + distance ≡ n) (some : 0 < distance) where
    at_back : cond (ltb p (lock_page n)) User (cond (ltb p (first_settings n)) DynamicLocks (cond (ltb p (pwd_page n)) Settings Password)) ≡ region_of n p
    unfolding region_of
    at_back = simp (lt-leb n p (omega arith), le-ltb p 2 (omega arith), le-ltb p 3 (omega arith), le-ltb p 4 from_four)

    pub in_settings : 3 ≤ distance → distance < 5 → Settings ≡ region_of n p
    in_settings k m = rw (← at_back, le-ltb p (lock_page n) (omega arith), le-ltb p (first_settings n) (omega arith), lt-ltb p (pwd_page n) (omega arith))

    pub in_dynamics : distance ≡ 5 → DynamicLocks ≡ region_of n p
    in_dynamics k = rw (← at_back, le-ltb p (lock_page n) (omega arith), lt-ltb p (first_settings n) (omega arith))

    pub in_user : 3 ≤ distance → 5 ≤ distance → (distance ≡ 5 → ⊥) → User ≡ region_of n p
    in_user k m q = rw (← at_back, lt-ltb p (lock_page n) (omega arith))

-- ---- what a WRITE leaves at its page

pub replaced : (n p : ℕ) (old d : Four) → region_of n p ≡ User → written n p old d ≡ d
unfolding written written_in
replaced n p old d e = rw e

-- a store of the bytes themselves is a WRITE, in each region but those of the locks and of the capability container
pub write_replaces : (n p : ℕ) (img img' : List ℕ) (d : Four) (region : Region) → region ≡ region_of n p
    → (region ≡ Uid) ⊎ ((region ≡ User) ⊎ ((region ≡ Settings) ⊎ ((region ≡ Password) ⊎ (region ≡ Outside)))) → img' ≡ store img p d → img' ≡ write n img p d
unfolding write written written_in
write_replaces n p img img' d region e k h =
    ⊎_elim
    (by Uid (λ old. refl))
    (⊎_elim (by User (λ old. refl)) (⊎_elim (by Settings (λ old. refl)) (⊎_elim (by Password (λ old. refl)) (by Outside (λ old. refl)))))
    k
  where
    by : (region' : Region) → ((old : Four) → d ≡ written_in region' n old d) → region ≡ region' → img' ≡ write n img p d
    by region' same f = rw (← e, f, ← same (page_at img p)) h

-- ---- the counter

-- a counter that is full stays
pub count_stays : (c : ℕ) → 0xFFFFFF ≤ c → c ≡ next_count c
unfolding next_count
count_stays c l = simp (le-ltb c 0xFFFFFF l)

pub next_not_less : (c : ℕ) → c ≤ next_count c
unfolding next_count
next_not_less c = by (λ (k : ℕ). c ≤ k) (ltb c 0xFFFFFF) (λ _. omega arith) (λ _. omega arith)

-- the three bytes hold the next count, and the failed-password count is kept
pub counter_counted : (tail : Four) → counter_in (counted tail) ≡ next_count (counter_in tail)
unfolding counted counter_in
counter_counted tail = omega arith

-- ---- the examples

pub the_table : TheTable
unfolding size_of region_of
the_table = record {
  n45 = record { size = refl; pages = refl; regions = refl };
  n135 = record { size = refl; pages = refl; regions = refl };
  n231 = record { size = refl; pages = refl; regions = refl };
}

pub uid_example : UidExample
unfolding uid bcc0 bcc1 byte
uid_example = record { first = λ x. refl; second = λ x. refl }
