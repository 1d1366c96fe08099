-- A page stored: the length stays, the page has its new bytes, and every other byte is kept. Assumes nothing.
use mathlib.Core.Path.{◌≡◌, refl, sym, ap, ◌∙◌}
use mathlib.Core.Logic.{◌≢◌}
use mathlib.Core.List.{List, [], ◌∷◌, ◌++◌, append_assoc}
use Prim.Native.Nat.{ℕ, zero, suc, ◌+◌, ◌-◌, ◌*◌, ◌≤◌, ◌<◌, zero-le, suc-le-suc}
use native.Mathlib.Nat.{add-sub_cancel_left, not-suc-le-zero, le_of_suc-le-suc}
use native.Mathlib.Omega.{arith}
use lib.ListN.{length, get_or, take, drop, set, length-set}
use lib.Seq.{sets, sets-eq, length-sets, get_or-set_same, get_or-set_other, drop-drop}
use borrow.Rule.Slice.PartMut.{put_mid}
use Rattle.image.specs.Layout.{Fits, byte, page_at, bytes_of, store}
use Rattle.image.specs.declared.layout.Four.{Four}

-- ---- what the code leaves

-- the part that was lent is back in the image
pub part_back : (xs page : List ℕ) (at : ℕ) (v : Four) → at + 4 ≤ length xs → page ≡ bytes_of v → put_mid at (at + 4 - at) xs page ≡ sets xs at (bytes_of v)
unfolding bytes_of
part_back xs page at v l e =
    let vs = bytes_of v in
    rw (e, add-sub_cancel_left)
    (ap (λ (t : List ℕ). take at xs ++ (vs ++ t)) (drop-drop 4 at xs) ∙ sym (append_assoc (take at xs) vs (drop (at + 4) xs)) ∙ sym (sets-eq vs xs at l))

-- ---- the length stays

pub length_store : (img : List ℕ) (p : ℕ) (v : Four) → length (store img p v) ≡ length img
unfolding store
length_store img p v = length-sets img (4 * p) (bytes_of v)

pub fits_store : (n : ℕ) (img : List ℕ) (p : ℕ) (v : Four) → Fits n img → Fits n (store img p v)
fits_store n img p v f = record { size = f.size; least = f.least; most = f.most; whole = length_store img p v ∙ f.whole }

-- ---- byte by byte

sets_out : (vs l : List ℕ) (i j : ℕ) → ((k : ℕ) → k < length vs → j ≢ i + k) → get_or (sets l i vs) j 0 ≡ get_or l j 0
sets_out [] l i j h = refl
sets_out (a ∷ vs) l i j h =
    sets_out vs (set l i a) (suc i) j (λ k hk. omega (arith, h (suc k) (suc-le-suc hk)))
    ∙ get_or-set_other l i j a 0 (omega (arith, h 0 (suc-le-suc zero-le)))

sets_in : (vs l : List ℕ) (i k : ℕ) → k < length vs → i + k < length l → get_or (sets l i vs) (i + k) 0 ≡ get_or vs k 0
sets_in [] l i k h g = absurd (not-suc-le-zero h)
sets_in (a ∷ vs) l i zero h g =
    sets_out vs (set l i a) (suc i) (i + 0) (λ k hk. omega arith)
    ∙ ap (λ (x : ℕ). get_or (set l i a) x 0) (omega arith) ∙ get_or-set_same l i a 0 (omega arith)
sets_in (a ∷ vs) l i (suc k) h g =
    let e : i + suc k ≡ suc i + k = omega arith in
    ap (λ (x : ℕ). get_or (sets (set l i a) (suc i) vs) x 0) e
    ∙ sets_in vs (set l i a) (suc i) k (le_of_suc-le-suc h) (rw (length-set l i a) (omega arith))

pub byte_same : (img : List ℕ) (p k : ℕ) (v : Four) → k < 4 → 4 * p + 4 ≤ length img → byte (store img p v) p k ≡ get_or (bytes_of v) k 0
unfolding byte store bytes_of
byte_same img p k v h l = sets_in (bytes_of v) img (4 * p) k h (omega arith)

pub byte_other : (img : List ℕ) (p q k : ℕ) (v : Four) → k < 4 → q ≢ p → byte (store img p v) q k ≡ byte img q k
unfolding byte store bytes_of
byte_other img p q k v h d = sets_out (bytes_of v) img (4 * p) (4 * q + k) (λ j l e. d (omega arith))

pub page_same : (img : List ℕ) (p : ℕ) (v : Four) → 4 * p + 4 ≤ length img → page_at (store img p v) p ≡ v
unfolding page_at bytes_of
page_same img p v l =
    let at : (k : ℕ) → k < 4 → byte (store img p v) p k ≡ get_or (bytes_of v) k 0 = λ k h. byte_same img p k v h l in
    simp (at 0 (omega arith), at 1 (omega arith), at 2 (omega arith), at 3 (omega arith))

pub page_other : (img : List ℕ) (p q : ℕ) (v : Four) → q ≢ p → page_at (store img p v) q ≡ page_at img q
unfolding page_at
page_other img p q v d =
    let at : (k : ℕ) → k < 4 → byte (store img p v) q k ≡ byte img q k = λ k h. byte_other img p q k v h d in
    simp (at 0 (omega arith), at 1 (omega arith), at 2 (omega arith), at 3 (omega arith))
