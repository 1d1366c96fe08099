-- Data bytes gathered one after the other stand at the places from the first one on, rolled within the page, the latest at each place.
-- Assumes nothing.
use Rattle.std.proofs.Common.{◌≡◌, ℕ, zero, suc, ◌+◌, ◌%◌, ◌<◌, ◌≤◌, min, ltb, ◌≢◌, List, [], ◌∷◌, length, get_or, refl, ap, ◌∙◌, arith, length-set, get_or-set_other, get_or-set_same, ltb-false, ltb-true}
use Rattle.basics.proofs.Choice.{by}
use Rattle.two_wire.specs.Record.{one_more, gathers}
use Rattle.two_wire.specs.Run.{gathers_all}
use Rattle.two_wire.specs.declared.record.BusRecord.{BusRecord}

pub counter_gathered : (bs : List ℕ) (r : BusRecord) → (gathers_all r bs).counter ≡ r.counter
unfolding gathers_all gathers
counter_gathered [] r = refl
counter_gathered (b ∷ bs) r = counter_gathered bs (gathers r b)

pub phase_gathered : (bs : List ℕ) (r : BusRecord) → (gathers_all r bs).phase ≡ r.phase
unfolding gathers_all gathers
phase_gathered [] r = refl
phase_gathered (b ∷ bs) r = phase_gathered bs (gathers r b)

-- ---- the count

-- h is the count that is held after m data bytes: it tells how many places are gathered, and which is next
pub record Counts (m h : ℕ) : Type 0 where
  pub places : min h 64 ≡ min m 64
  pub next : h % 64 ≡ m % 64

-- the next place is one further on
more_place : (h : ℕ) → one_more h % 64 ≡ (h + 1) % 64
unfolding one_more
more_place h = by (λ (x : ℕ). x % 64 ≡ (h + 1) % 64) (ltb h 64) (λ _. refl) (λ _. omega arith)

counts_more : (m h : ℕ) → Counts m h → Counts (suc m) (one_more h)
unfolding one_more
counts_more m h c =
    by (Counts (suc m)) (ltb h 64)
    (λ e. let l = ltb-true h 64 e in record { places = omega arith; next = omega arith })
    (λ e. let l = ltb-false h 64 e in record { places = omega arith; next = omega arith })

pub counts_gathered : (bs : List ℕ) (r : BusRecord) (m : ℕ) → Counts m r.held → Counts (m + length bs) (gathers_all r bs).held
unfolding gathers_all gathers
counts_gathered [] r m c = let e : m + 0 ≡ m = omega arith in rw e c
counts_gathered (b ∷ bs) r m c =
    let e : m + suc (length bs) ≡ suc m + length bs = omega arith in
    rw e (counts_gathered bs (gathers r b) (suc m) (counts_more m r.held c))

-- ---- the places

-- the place of the byte after i more
further : (a h i : ℕ) → (a + one_more h + i) % 64 ≡ (a + h + suc i) % 64
further a h i = let more = more_place h in omega arith

-- a place that none of them goes to
untouched : (bs : List ℕ) (r : BusRecord) (q : ℕ) → ((i : ℕ) → i < length bs → q ≢ (r.counter + r.held + i) % 64)
    → get_or (gathers_all r bs).bytes q 0 ≡ get_or r.bytes q 0
unfolding gathers_all gathers
untouched [] r q h = refl
untouched (b ∷ bs) r q h =
    untouched bs (gathers r b) q (λ i l e. h (suc i) (omega arith) (e ∙ further r.counter r.held i))
    ∙ get_or-set_other r.bytes ((r.counter + r.held) % 64) q b 0 (λ e. h 0 (omega arith) (e ∙ ap (λ (x : ℕ). x % 64) (omega arith)))

-- "latest for each place": byte i stands at its place if no more than 63 come after it
pub touched : (bs : List ℕ) (r : BusRecord) (i : ℕ) → length r.bytes ≡ 64 → i < length bs → length bs ≤ i + 64
    → get_or (gathers_all r bs).bytes ((r.counter + r.held + i) % 64) 0 ≡ get_or bs i 0
unfolding gathers_all gathers
touched [] r i w l k = absurd (omega arith)
touched (b ∷ bs) r zero w l k =
    let e : (r.counter + r.held + 0) % 64 ≡ (r.counter + r.held) % 64 = ap (λ (x : ℕ). x % 64) (omega arith) in
    rw e
    (untouched bs (gathers r b) ((r.counter + r.held) % 64) (λ i h q. let s = further r.counter r.held i in omega arith)
    ∙ get_or-set_same r.bytes ((r.counter + r.held) % 64) b 0 (omega arith))
touched (b ∷ bs) r (suc i) w l k =
    rw (← further r.counter r.held i)
    (touched bs (gathers r b) i (length-set r.bytes ((r.counter + r.held) % 64) b ∙ w) (omega arith) (omega arith))
