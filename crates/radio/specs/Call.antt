-- The frame call: its refusals, and what comes out of it. Assumes nothing.
use Rattle.std.specs.Prelude.{◌≡◌, List, Bool, cond, ◌&&◌, ◌||◌, ℕ, ◌+◌, ◌*◌, ◌/◌, ◌%◌, ◌^◌, ◌≤◌, eqb, leb, ltb, length, Option, Some, None}
use Rattle.image.specs.Layout.{size_of}
use Rattle.tag.specs.Outcome.{arg, Reply, silence, bits_of, answer_of, over, Effect, keep, apply, Does, answer_room}
use Rattle.tag.specs.Record.{tag_of, record_of}
use Rattle.tag.specs.declared.record.TagRecord.{TagRecord}
use Rattle.radio.specs.Heard.{heard}
use Rattle.radio.specs.declared.call.Answer.{Answer}

-- "or a set bit above the last": the bits of the last byte above the count are zeros
unfoldable pub padded : List ℕ → ℕ → Bool
padded f bits = eqb (bits % 8) 0 || ltb (arg f (bits / 8)) (2 ^ (bits % 8))

-- "bit count 0 or over 512, byte count not the bits rounded up, or a set bit above the last"
unfoldable pub is_frame : List ℕ → ℕ → Bool
is_frame f bits = leb 1 bits && (leb bits 512 && (eqb (length f) ((bits + 7) / 8) && padded f bits))

-- what comes out of the call: the number of its refusal or 0, a reply, an effect on the image, and the record to keep
pub record Called : Type 0 where
  pub refused : ℕ
  pub reply : Reply
  pub effect : Effect
  pub left : TagRecord

-- "A refused call returns its number, no answer, the records it was given, and every buffer untouched."
unfoldable pub refusal : ℕ → TagRecord → Called
refusal k r = record { refused = k; reply = silence; effect = keep; left = r }

unfoldable pub taken : Does → Called
taken d = record { refused = 0; reply = d.reply; effect = d.effect; left = record_of d.tag }

-- "2: answer buffer under 1,024 bytes"; "3: .."
unfoldable pub called_at : Option ℕ → List ℕ → ℕ → TagRecord → List ℕ → ℕ → Bool → Called
called_at None img room r f bits parity = refusal 1 r
called_at (Some n) img room r f bits parity =
    cond (leb answer_room room) (cond (is_frame f bits) (taken (heard n img (tag_of r) f bits parity)) (refusal 3 r)) (refusal 2 r)

-- "1: image length isn't 184, 544 or 928"; "Tested in this order."
unfoldable pub called : List ℕ → ℕ → TagRecord → List ℕ → ℕ → Bool → Called
called img room r f bits parity = called_at (size_of (length img)) img room r f bits parity

-- The call did this: img is the image before it and image' after it, before and after are the answer buffer's bytes; and the answer's
-- bits fit the buffer.
pub record Met (o : Called) (r : Answer) (img image' before after : List ℕ) : Type 0 where
  pub refused : r.refused ≡ o.refused
  pub bits : r.bits ≡ bits_of o.reply
  pub left : r.left ≡ o.left
  pub image : image' ≡ apply img o.effect
  pub answer : after ≡ over (answer_of o.reply) before
  pub fits : r.bits ≤ 8 * length before

-- "Show that two outcomes allowed for one input are equal"
abbrev pub OneOutcome : Type 0
OneOutcome = (o : Called) (r r' : Answer) (img image image' before after after' : List ℕ) → Met o r img image before after → Met o r' img image' before after'
    → (r ≡ r') × (image ≡ image') × (after ≡ after')
