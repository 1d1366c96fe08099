-- Answers laid over a buffer, and what the answers without an image show. Assumes nothing.
use mathlib.Core.Path.{◌≡◌, refl, ap, ◌∙◌}
use mathlib.Core.List.{List, [], ◌∷◌, ◌++◌}
use Prim.Native.Nat.{ℕ, zero, suc, ◌+◌, ◌/◌, ◌%◌, ◌^◌, ◌≤◌, ◌<◌}
use native.Mathlib.Nat.{not-suc-le-zero, le_of_suc-le-suc, pow-suc, div-div-eq-div-mul, mod-eq_of_lt}
use native.Mathlib.Numerals.{add-one}
use native.Mathlib.Omega.{arith}
use lib.ListN.{length, take, drop, set, length-append}
use lib.Seq.{sets, sets-eq, take_at, drop-drop, drop-append-add, length-take-le}
use Rattle.image.proofs.Stored.{length_store}
use Rattle.crc_a.specs.CrcA.{crc_a, sent, with_crc}
use Rattle.tag.specs.State.{moved, back_to_wait}
use Rattle.tag.specs.Outcome.{build, byte_of, low_bytes, Reply, plain, silence, nibble, bytes, bits_of, answer_of, over, Effect, keep, put, apply, does, Did, lost, nak_after, nak, says, Says}
use Rattle.tag.specs.declared.state.State.{State}
use Rattle.tag.specs.declared.state.Tag.{Tag}
use Rattle.tag.specs.declared.outcome.Step.{Step}

-- ---- laid over

pub take_over : (a b : List ℕ) (n : ℕ) → length a ≡ n → take n (over a b) ≡ a
unfolding over
take_over a b n e = take_at a (drop (length a) b) n e

-- a longer answer that goes over a shorter one
pub over_over : (a b c : List ℕ) → over (a ++ c) (over a b) ≡ over (a ++ c) b
unfolding over
over_over a b c =
    ap (λ (t : List ℕ). (a ++ c) ++ t) (
    rw (length-append a c) (drop-append-add a (drop (length a) b) (length c) ∙ drop-drop (length c) (length a) b)
    )

-- ---- a list that is built into the front of a buffer

pub length_build : (f : ℕ → ℕ) (k : ℕ) → length (build f k) ≡ k
length_build f zero = refl
length_build f (suc k) = ap suc (length_build (λ i. f (suc i)) k)

-- k of them laid over d
abbrev pub laid : (ℕ → ℕ) → ℕ → List ℕ → List ℕ
laid f k d = build f k ++ drop k d

pub laid_suc : (f : ℕ → ℕ) (k : ℕ) (d : List ℕ) → k < length d → set (laid f k d) k (f k) ≡ laid f (suc k) d
laid_suc f k [] l = absurd (not-suc-le-zero l)
laid_suc f zero (x ∷ d) l = refl
laid_suc f (suc k) (x ∷ d) l = ap (λ (t : List ℕ). f zero ∷ t) (laid_suc (λ i. f (suc i)) k d (le_of_suc-le-suc l))

pub laid_end : (f : ℕ → ℕ) (i k : ℕ) (answer d : List ℕ) → i ≤ k → k ≤ i → answer ≡ laid f i d → answer ≡ over (build f k) d
unfolding over
laid_end f i k answer d l m e = let q : i ≡ k = omega arith in rw (length_build f k) (e ∙ ap (λ (j : ℕ). laid f j d) q)

-- a number's bytes, one by one
pub byte_turn : (v rest i count : ℕ) (answer d : List ℕ) → i < count → (count ≤ 8) × (count ≤ length d) → rest ≡ v / 256 ^ i → answer ≡ laid (byte_of v) i d
    → set answer i (rest % 256) ≡ laid (byte_of v) (i + 1) d
unfolding byte_of
byte_turn v rest i count answer d l m e f = rw (f, e, add-one) (laid_suc (byte_of v) i d (omega arith))

pub byte_next : (v rest i : ℕ) → rest ≡ v / 256 ^ i → rest / 256 ≡ v / 256 ^ (i + 1)
byte_next v rest i e = rw (e, add-one, pow-suc) (div-div-eq-div-mul v (256 ^ i) 256)

-- ---- effects

pub length_apply : (img : List ℕ) (e : Effect) → length (apply img e) ≡ length img
unfolding apply
length_apply img keep = refl
length_apply img (put p v) = length_store img p v

-- ---- silence and nibbles

-- no answer, for every image and buffer
abbrev pub Silent : Tag → Step → Type 0
Silent t r = (img before : List ℕ) → Did (does silence keep t) r img img before before

-- a NAK, for every image
abbrev pub Naks : Tag → ℕ → Step → List ℕ → List ℕ → Type 0
Naks t v r before after = (img : List ℕ) → Did (nak t v) r img img before after

pub lost_done : (t t' : Tag) (s : State) (r : Step) → s ≡ back_to_wait t.state → t' ≡ moved t s → Silent t' r → (img before : List ℕ) → Did (lost t) r img img before before
unfolding lost
lost_done t t' s r e f h img before = rw (← e, ← f) (h img before)

-- a NAK after an effect on the image
pub nak_after_lem : (e : Effect) (t : Tag) (v : ℕ) (r : Step) (img image' before after : List ℕ) → Naks t v r before after → image' ≡ apply img e
    → Did (nak_after e t v) r img image' before after
unfolding nak_after
nak_after_lem e t v r img image' before after h i = let d = h img in record { image = i; bits = d.bits; tag = d.tag; answer = d.answer }

-- ---- bits of a number

pub plain_done : (t : Tag) (k v : ℕ) (before after : List ℕ) → (k ≤ 40) × (v < 2 ^ k) × (5 ≤ length before) → after ≡ over (low_bytes ((k + 7) / 8) v) before
    → (img : List ℕ) → Did (does (plain k v) keep t) (record { bits = k; tag = t }) img img before after
unfolding apply bits_of answer_of
plain_done t k v before after l e img = record { image = refl; bits = refl; tag = refl; answer = rw (mod-eq_of_lt l.1) e }

-- ---- bytes, with their CRC_A behind them

pub length_with_crc : (bs : List ℕ) → length (with_crc bs) ≡ length bs + 2
unfolding with_crc sent
length_with_crc bs = length-append bs _

-- an answer takes as many bytes as its bits, rounded up
pub answer_bytes : (o : Reply) → length (answer_of o) ≡ (bits_of o + 7) / 8
unfolding bits_of answer_of low_bytes
answer_bytes silence = refl
answer_bytes (nibble v) = refl
answer_bytes (bytes bs) = omega (arith, length_with_crc bs)
answer_bytes (plain k v) = length_build _ _

-- the CRC_A was stored behind the first n bytes
pub crc_behind : (buffer after : List ℕ) (n : ℕ) → (n + 2 ≤ length buffer) × (n ≤ 1022) → after ≡ sets buffer n (sent (crc_a (take n buffer)))
    → after ≡ over (with_crc (take n buffer)) buffer
unfolding with_crc sent over
crc_behind buffer after n l e =
    let c = crc_a (take n buffer) in
    let whole : length (take n buffer ++ (c % 256 ∷ c / 256 ∷ [])) ≡ n + 2 =
    length-append (take n buffer) (c % 256 ∷ c / 256 ∷ []) ∙ ap (λ (k : ℕ). k + 2) (length-take-le n buffer (omega arith)) in
    rw whole (e ∙ sets-eq (c % 256 ∷ c / 256 ∷ []) buffer n l.0)

-- data: bytes were laid over the buffer, their CRC_A was stored behind them, and the image is what the effect makes of it
pub said : (bs : List ℕ) (e : Effect) (t : Tag) (r : Step) (n : ℕ) (img image' before mid after : List ℕ) → length bs ≡ n → mid ≡ over bs before
    → Says n t r mid after → image' ≡ apply img e → Did (says bs e t) r img image' before after
unfolding says bits_of answer_of with_crc
said bs e t r n img image' before mid after l em s ei = record {
  image = ei;
  bits = s.bits ∙ rw l;
  tag = s.tag;
  answer = s.answer ∙ rw (em, take_over bs before n l) (over_over bs before (sent (crc_a bs)));
}
