-- What a WRITE leaves of the locks and of the capability page: no bit clears, a blocked bit doesn't change, and a locked page stays locked.
-- Assumes nothing.
use mathlib.Core.Path.{◌≡◌, refl, sym}
use mathlib.Core.Logic.{◌≢◌}
use mathlib.Core.List.{List}
use mathlib.Core.Bool.{Bool, true, cond}
use Prim.Native.Nat.{ℕ, zero, suc, ◌/◌, ◌≤◌, ◌<◌}
use native.Mathlib.Omega.{arith}
use lib.Bits.{bit_or}
use lib.Dec.{eqb}
use lib.ListN.{length, get_or}
use borrow.Author.Tests.{eqb-true, eqb-false}
use Rattle.basics.specs.Bytes.{low_first}
use Rattle.basics.proofs.Bytes.{low_first_bytes}
use Rattle.basics.proofs.Choice.{by}
use Rattle.locks.specs.Bits.{bit_at, Gains}
use Rattle.locks.specs.Locks.{lock_page, lock_bits, static_block, static_gain, dynamic_block, dynamic_gain, block_gain}
use Rattle.locks.proofs.Bits.{gains_self, gains_trans, or_gains}
use Rattle.locks.proofs.Gains.{static_keeps, static_blocked, dynamic_keeps, dynamic_blocked, dynamic_undefined, block_keeps, block_undefined}
use Rattle.locks.proofs.Lock as lock
use Rattle.image.specs.Layout.{Fits, byte, page_at, bytes_of, store}
use Rattle.image.specs.Write.{statics, dynamics, blocks, locked_by, locked, statics_written, capability_written, dynamics_written, written_in, written, write, NoneCleared}
use Rattle.image.specs.declared.layout.Four.{Four}
use Rattle.image.proofs.Laws.{in_statics, in_capability, in_dynamics}
use Rattle.image.proofs.Stored.{length_store, fits_store, byte_same, byte_other}

-- a number that goes by whether p is q, from the two cases
module _ (p q x a b : ℕ) where
  pub by_page : (p ≡ q → x ≡ a) → (p ≢ q → x ≡ b) → x ≡ cond (eqb p q) a b
  by_page f g = by (λ (y : ℕ). x ≡ y) (eqb p q) (λ e. f (eqb-true p q e)) (λ e. g (eqb-false p q e))

either_way : (P : ℕ → Type 0) (t : Bool) {a b : ℕ} → P a → P b → P (cond t a b)
either_way P t x y = by P t (λ _. x) (λ _. y)

-- byte by byte, page 3 gains
or_each : (img : List ℕ) (p : ℕ) (d : Four) (k : ℕ) → k < 4 → get_or (bytes_of (capability_written (page_at img p) d)) k 0 ≡ bit_or (byte img p k) (get_or (bytes_of d) k 0)
unfolding capability_written page_at bytes_of
or_each img p d zero l = refl
or_each img p d (suc zero) l = refl
or_each img p d (suc (suc zero)) l = refl
or_each img p d (suc (suc (suc zero))) l = refl
or_each img p d (suc (suc (suc (suc k)))) l = absurd (omega arith)

module _ (n : ℕ) (img : List ℕ) (fit : Fits n img) (p : ℕ) (within : p ≤ n) (d : Four) where
  pub fits_write : Fits n (write n img p d)
  unfolding write
  fits_write = fits_store n img p (written n p (page_at img p) d) fit

  pub length_write : length (write n img p d) ≡ length img
  unfolding write
  length_write = length_store img p (written n p (page_at img p) d)

  -- every byte of another page is kept
  pub write_other : (q k : ℕ) → k < 4 → q ≢ p → byte (write n img p d) q k ≡ byte img q k
  unfolding write
  write_other q k h ne = byte_other img p q k (written n p (page_at img p) d) h ne

  -- byte k of the page
  write_here : (q k : ℕ) → k < 4 → p ≡ q → byte (write n img p d) q k ≡ get_or (bytes_of (written n q (page_at img q) d)) k 0
  unfolding write
  write_here q k h e =
      let room = fit.whole in
      rw (← e) (byte_same img p k (written n p (page_at img p) d) h (omega arith))

  -- ---- what the page holds, where it is one that gains

  small : 5 < n
  small = let least = fit.least in omega arith

  static_page : written n 2 (page_at img 2) d ≡ statics_written (page_at img 2) d
  unfolding written written_in
  static_page = let s = small in rw (← in_statics n 2 (omega arith) refl)

  capability_page : written n 3 (page_at img 3) d ≡ capability_written (page_at img 3) d
  unfolding written written_in
  capability_page = let s = small in rw (← in_capability n 3 (omega arith) refl)

  dynamic_page : written n (lock_page n) (page_at img (lock_page n)) d ≡ dynamics_written n (page_at img (lock_page n)) d
  unfolding written written_in
  dynamic_page = let least = fit.least in rw (← in_dynamics n (lock_page n) 5 (omega arith) (omega arith) (omega arith) refl)

  -- ---- the locks after a WRITE

  pub statics_after : statics (write n img p d) ≡ cond (eqb p 2) (static_gain (statics img) (low_first d.b2 d.b3)) (statics img)
  unfolding statics statics_written page_at bytes_of
  statics_after =
      by_page p 2 (low_first (byte (write n img p d) 2 2) (byte (write n img p d) 2 3)) _ _
      (λ e. rw (write_here 2 2 (omega arith) e, write_here 2 3 (omega arith) e, static_page) (low_first_bytes _))
      (λ ne. rw (write_other 2 2 (omega arith) (λ e. ne (sym e)), write_other 2 3 (omega arith) (λ e. ne (sym e))))

  pub dynamics_after : dynamics n (write n img p d) ≡ cond (eqb p (lock_page n)) (dynamic_gain n (blocks n img) (dynamics n img) (low_first d.b0 d.b1)) (dynamics n img)
  unfolding dynamics blocks dynamics_written page_at bytes_of
  dynamics_after =
      by_page p (lock_page n) (low_first (byte (write n img p d) (lock_page n) 0) (byte (write n img p d) (lock_page n) 1)) _ _
      (λ e. rw (write_here (lock_page n) 0 (omega arith) e, write_here (lock_page n) 1 (omega arith) e, dynamic_page) (low_first_bytes _))
      (λ ne. rw (write_other (lock_page n) 0 (omega arith) (λ e. ne (sym e)), write_other (lock_page n) 1 (omega arith) (λ e. ne (sym e))))

  pub blocks_after : blocks n (write n img p d) ≡ cond (eqb p (lock_page n)) (block_gain n (blocks n img) d.b2) (blocks n img)
  unfolding blocks dynamics_written page_at bytes_of
  blocks_after =
      by_page p (lock_page n) (byte (write n img p d) (lock_page n) 2) _ _
      (λ e. rw (write_here (lock_page n) 2 (omega arith) e, dynamic_page))
      (λ ne. write_other (lock_page n) 2 (omega arith) (λ e. ne (sym e)))

  pub capability_after : (k : ℕ) → k < 4 → byte (write n img p d) 3 k ≡ cond (eqb p 3) (bit_or (byte img 3 k) (get_or (bytes_of d) k 0)) (byte img 3 k)
  capability_after k l =
      by_page p 3 (byte (write n img p d) 3 k) _ _
      (λ e. rw (write_here 3 k l e, capability_page) (or_each img 3 d k l))
      (λ ne. write_other 3 k l (λ e. ne (sym e)))

  -- ---- no bit clears, and a blocked bit doesn't change

  pub write_keeps : NoneCleared n img (write n img p d)
  write_keeps = record {
    statics = rw statics_after (either_way (Gains 16 (statics img)) (eqb p 2) (static_keeps (statics img) (low_first d.b2 d.b3)) (gains_self 16 (statics img)));
    capability = λ k l. rw (capability_after k l) (either_way (Gains 8 (byte img 3 k)) (eqb p 3) (or_gains 8 (byte img 3 k) (get_or (bytes_of d) k 0)) (gains_self 8 (byte img 3 k)));
    dynamics = rw dynamics_after (either_way (Gains 16 (dynamics n img)) (eqb p (lock_page n)) (dynamic_keeps n (blocks n img) (dynamics n img) (low_first d.b0 d.b1)) (gains_self 16 (dynamics n img)));
    blocks = rw blocks_after (either_way (Gains 8 (blocks n img)) (eqb p (lock_page n)) (block_keeps n (blocks n img) d.b2) (gains_self 8 (blocks n img)));
  }

  pub write_blocked_static : (q : ℕ) → 3 ≤ q → q < 16 → bit_at (statics img) (static_block q) ≡ 1 → bit_at (statics (write n img p d)) q ≡ bit_at (statics img) q
  write_blocked_static q h l b =
      rw statics_after (either_way (λ x. bit_at x q ≡ bit_at (statics img) q) (eqb p 2) (static_blocked (statics img) (low_first d.b2 d.b3) q h l b) refl)

  pub write_blocked_dynamic : (i : ℕ) → i < 16 → bit_at (blocks n img) (dynamic_block i) ≡ 1 → bit_at (dynamics n (write n img p d)) i ≡ bit_at (dynamics n img) i
  write_blocked_dynamic i l b =
      rw dynamics_after (either_way (λ x. bit_at x i ≡ bit_at (dynamics n img) i) (eqb p (lock_page n)) (dynamic_blocked n (blocks n img) (dynamics n img) (low_first d.b0 d.b1) i l b) refl)

  -- nor does an undefined bit of the lock page
  pub write_undefined_lock : (i : ℕ) → i < 16 → lock_bits n ≤ i → bit_at (dynamics n (write n img p d)) i ≡ bit_at (dynamics n img) i
  write_undefined_lock i l u =
      rw dynamics_after (either_way (λ x. bit_at x i ≡ bit_at (dynamics n img) i) (eqb p (lock_page n)) (dynamic_undefined n (blocks n img) (dynamics n img) (low_first d.b0 d.b1) i l u) refl)

  pub write_undefined_block : (k : ℕ) → k < 8 → lock_bits n / 2 ≤ k → bit_at (blocks n (write n img p d)) k ≡ bit_at (blocks n img) k
  write_undefined_block k l u =
      rw blocks_after (either_way (λ x. bit_at x k ≡ bit_at (blocks n img) k) (eqb p (lock_page n)) (block_undefined n (blocks n img) d.b2 k l u) refl)

-- a store at a page that is none of theirs leaves the locks and the capability page
pub store_keeps : (n : ℕ) (img : List ℕ) (p : ℕ) (v : Four) → p ≢ 2 → p ≢ 3 → p ≢ lock_page n → NoneCleared n img (store img p v)
unfolding statics dynamics blocks
store_keeps n img p v a b c = record {
  statics = rw (other 2 2 (omega arith) (λ e. a (sym e)), other 2 3 (omega arith) (λ e. a (sym e))) (gains_self 16 _);
  capability = λ k l. rw (other 3 k l (λ e. b (sym e))) (gains_self 8 _);
  dynamics = rw (other (lock_page n) 0 (omega arith) (λ e. c (sym e)), other (lock_page n) 1 (omega arith) (λ e. c (sym e))) (gains_self 16 _);
  blocks = rw (other (lock_page n) 2 (omega arith) (λ e. c (sym e))) (gains_self 8 _);
}
  where
    other : (q k : ℕ) → k < 4 → q ≢ p → byte (store img p v) q k ≡ byte img q k
    other q k l ne = byte_other img p q k v l ne

-- ---- no bit has cleared, from image to image

pub none_cleared_self : (n : ℕ) (img : List ℕ) → NoneCleared n img img
none_cleared_self n img = record { statics = gains_self 16 _; capability = λ k l. gains_self 8 _; dynamics = gains_self 16 _; blocks = gains_self 8 _ }

pub none_cleared_trans : (n : ℕ) (a b c : List ℕ) → NoneCleared n a b → NoneCleared n b c → NoneCleared n a c
none_cleared_trans n a b c p q = record {
  statics = gains_trans 16 _ _ _ p.statics q.statics;
  capability = λ k l. gains_trans 8 _ _ _ (p.capability k l) (q.capability k l);
  dynamics = gains_trans 16 _ _ _ p.dynamics q.dynamics;
  blocks = gains_trans 8 _ _ _ p.blocks q.blocks;
}

-- a locked page stays locked while no lock bit clears
pub stays_locked : (n : ℕ) (img after : List ℕ) (p : ℕ) → Fits n img → NoneCleared n img after → locked n img p ≡ true → locked n after p ≡ true
unfolding locked_by
stays_locked n img after p fit kept =
    lock.stays_locked n p (statics img) (dynamics n img) (statics after) (dynamics n after) fit.size kept.statics kept.dynamics
