-- What each way through the frame call shows. Assumes nothing.
use Rattle.std.proofs.Common.{◌≡◌, refl, ap, List, Bool, true, false, ℕ, ◌+◌, ◌/◌, ◌^◌, ◌≤◌, length, drop, Option, Some, None, Ok, Err, arith}
use Rattle.std.specs.Option.{ok_or}
use native.Mathlib.Nat.{div-lt_iff_lt-mul}
use lib.Dec.{eqb, leb, ltb}
use lib.ListN.{length-append}
use lib.Pow.{pow_pos}
use borrow.Author.Tests.{ltb-true, ltb-false, eqb-true, ne_eqb, eq-eqb}
use Rattle.basics.proofs.Choice.{and_left, and_right}
use Rattle.image.specs.Layout.{size_of}
use Rattle.tag.specs.declared.outcome.Step.{Step}
use Rattle.tag.specs.declared.record.TagRecord.{TagRecord}
use Rattle.tag.specs.Outcome.{bits_of, answer_of, over, apply, Did, answer_room}
use Rattle.tag.specs.Record.{tag_of, record_of}
use Rattle.tag.proofs.Laws.{answer_bytes}
use Rattle.radio.specs.declared.call.Refusal.{Refusal}
use Rattle.radio.specs.declared.call.Refusal.TheVariants.{ImageLength, AnswerRoom, NoFrame}
use Rattle.radio.specs.Heard.{heard}
use Rattle.radio.specs.Call.{padded, is_frame, refusal, taken, called_at, called, Met}
use Rattle.radio.specs.Told.{told}

-- ---- whether it is a frame

-- no bit from k on is set
pub shifted_out : (x k : ℕ) → eqb (x / 2 ^ k) 0 ≡ ltb x (2 ^ k)
shifted_out x k = pick (ltb x (2 ^ k)) refl
  where
    pick : (t : Bool) → ltb x (2 ^ k) ≡ t → eqb (x / 2 ^ k) 0 ≡ t
    pick true e = let l = (div-lt_iff_lt-mul {k = 2 ^ k} {x = x} {y = 1} (pow_pos k)).1 (let m = ltb-true x (2 ^ k) e in omega arith) in eq-eqb (x / 2 ^ k) 0 (omega arith)
    pick false e = ne_eqb (x / 2 ^ k) 0 (λ z. let m = ltb-false x (2 ^ k) e in let l = (div-lt_iff_lt-mul {k = 2 ^ k} {x = x} {y = 1} (pow_pos k)).0 (omega arith) in omega arith)

-- the byte count of a frame is the bits rounded up
pub frame_whole : (f : List ℕ) (bits : ℕ) → is_frame f bits ≡ true → length f ≡ (bits + 7) / 8
unfolding is_frame
frame_whole f bits h =
    let rest = and_right (leb bits 512) _ (and_right (leb 1 bits) _ h) in
    eqb-true (length f) ((bits + 7) / 8) (and_left (eqb (length f) ((bits + 7) / 8)) (padded f bits) rest)

-- ---- what comes out

-- a refusal, for every image and buffer
pub refused : (k : ℕ) (rec : TagRecord) (img before : List ℕ) → Met (refusal k rec) (record { refused = k; bits = 0; left = rec }) img img before before
unfolding refusal bits_of answer_of over apply
refused k rec img before = record { refused = refl; bits = refl; left = refl; image = refl; answer = refl; fits = omega arith }

-- an answer fits the buffer, whose length stays
answer_fits : (a before after : List ℕ) → after ≡ over a before → length after ≡ length before → length a ≤ length before
unfolding over
answer_fits a before after e l = omega (arith, ap length e, length-append a (drop (length a) before))

module _ (img : List ℕ) (rec : TagRecord) (f : List ℕ) (bits : ℕ) (parity : Bool) (before : List ℕ) where
  pub sizeless : size_of (length img) ≡ None → Met (called img (length before) rec f bits parity) (told (Err ImageLength) rec) img img before before
  unfolding called called_at
  sizeless e = rw e (refused 1 rec img before)

  module _ (n : ℕ) (sized : size_of (length img) ≡ Some n) where
    pub narrow : leb answer_room (length before) ≡ false → Met (called img (length before) rec f bits parity) (told (Err AnswerRoom) rec) img img before before
    unfolding called called_at
    narrow e = rw (sized, e) (refused 2 rec img before)

    module _ (room : leb answer_room (length before) ≡ true) where
      pub frameless : is_frame f bits ≡ false → Met (called img (length before) rec f bits parity) (told (Err NoFrame) rec) img img before before
      unfolding called called_at
      frameless e = rw (sized, room, e) (refused 3 rec img before)

      pub done : (step : Step) (image' after : List ℕ) → is_frame f bits ≡ true → Did (heard n img (tag_of rec) f bits parity) step img image' before after
          → length after ≡ length before → Met (called img (length before) rec f bits parity) (told (Ok step) rec) img image' before after
      unfolding called called_at taken
      done step image' after e d k =
          let o = (heard n img (tag_of rec) f bits parity).reply in
          rw (sized, room, e)
          (record {
            refused = refl;
            bits = d.bits;
            left = ap record_of d.tag;
            image = d.image;
            answer = d.answer;
            fits = rw d.bits (omega (arith, answer_bytes o, answer_fits (answer_of o) before after d.answer k));
          })

-- ---- a question that a `?` asks

pub missing : {T : Type 0} (o : Option T) (e x : Refusal) → ok_or o e ≡ Err x → (o ≡ None) × (x ≡ e)
missing None e x h = (refl, cc)
missing (Some y) e x h = absurd cc

pub there : {T : Type 0} (o : Option T) (e : Refusal) (x : T) → ok_or o e ≡ Ok x → o ≡ Some x
there None e x h = absurd cc
there (Some y) e x h = cc
