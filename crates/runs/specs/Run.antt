-- Runs of frames and field losses, with no bus event in them. Assumes nothing.
use Rattle.std.specs.Prelude.{◌≡◌, List, [], ◌∷◌, Bool, ℕ}
use Rattle.tag.specs.State.{field_off}
use Rattle.tag.specs.Outcome.{apply}
use Rattle.tag.specs.declared.record.TagRecord.{TagRecord}
use Rattle.tag.specs.Record.{record_of, field_loss}
use Rattle.radio.specs.Call.{Called, called}

-- a frame as the board hands it over, and the length of the answer buffer that it was lent
pub record Frame : Type 0 where
  pub bytes : List ℕ
  pub bits : ℕ
  pub parity : Bool
  pub room : ℕ

pub data Input : Type 0 where
  sent : Frame → Input
  lost : Input

-- ---- tags

-- a tag: what comes out of each call on an image and a record
abbrev pub Call : Type 0
Call = List ℕ → TagRecord → Frame → Called

-- our tag: the definition that the frame call's contract cites
unfoldable pub ours : Call
ours img r f = called img f.room r f.bytes f.bits f.parity

-- a tag that meets demand 2: "Every answer, page and counter is what document 01 says"
abbrev pub Meets2 : Call → Type 0
Meets2 call = (img : List ℕ) (r : TagRecord) (f : Frame) → call img r f ≡ ours img r f

-- ---- runs

-- what is kept from one input to the next
pub record Kept : Type 0 where
  pub image : List ℕ
  pub rec : TagRecord

-- "Start with the field off, any image"
unfoldable pub from_off : List ℕ → Kept
from_off img = record { image = img; rec = record_of field_off }

-- "refused ones too, each on the image and tag record that the one before left"
unfoldable pub next : Call → Kept → Input → Kept
next call k (sent f) = let o = call k.image k.rec f in record { image = apply k.image o.effect; rec = o.left }
next call k lost = record { image = k.image; rec = field_loss k.rec }

unfoldable pub at_end : Call → Kept → List Input → Kept
at_end call k [] = k
at_end call k (i ∷ is) = at_end call (next call k i) is

unfoldable pub image_after : Call → List ℕ → List Input → List ℕ
image_after call img run = (at_end call (from_off img) run).image
