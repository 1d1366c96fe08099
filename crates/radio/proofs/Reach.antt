-- Three frames reach ACTIVE. Assumes nothing.
use mathlib.Core.Path.{◌≡◌, refl, ap, ◌∙◌}
use mathlib.Core.List.{List, [], ◌∷◌}
use mathlib.Core.Bool.{Bool, true, false}
use Prim.Native.Nat.{ℕ, ◌≤◌}
use lib.ListN.{length}
use borrow.Author.Tests.{le-leb, eq-eqb}
use Rattle.std.specs.Prelude.{Some}
use Rattle.crc_a.specs.CrcA.{sent as bytes_sent, with_crc}
use Rattle.crc_a.proofs.Laws.{with_crc_right}
use Rattle.image.specs.Layout.{size_of}
use Rattle.image.specs.Uid.{uid, cascade_tag, bcc0, bcc1}
use Rattle.tag.specs.declared.state.Wait.TheVariants.{ToIdle}
use Rattle.tag.specs.declared.state.State.TheVariants.{Ready1, Ready2, Active}
use Rattle.tag.specs.declared.state.Tag.{Tag}
use Rattle.tag.specs.State.{field_off, moved, selected}
use Rattle.tag.specs.Outcome.{plain, keep, does, says, answer_room}
use Rattle.selection.specs.Selection.{is_reqa, is_wupa, wakes, in_idle, forty, own1, own2, sent, select, in_ready, in_ready1, in_ready2}
use Rattle.tag.specs.Record.{record_of, field_loss}
use Rattle.radio.specs.Heard.{is_read_zero, hearing, heard}
use Rattle.radio.specs.Call.{Called, padded, is_frame, taken, called_at, called}
use Rattle.radio.specs.Reach.{wupa, select1, select2, first, second, third, Reaches}
use Rattle.tag.specs.declared.record.TagRecord.{TagRecord}
use Rattle.tag.proofs.Recorded.{read_again}

-- a right SELECT frame, at either level
module _ (code a b c d e : ℕ) where
  five : List ℕ
  five = with_crc (code ∷ 0x70 ∷ a ∷ b ∷ c ∷ d ∷ e ∷ [])

  select_framed : is_frame five 72 ≡ true
  unfolding five is_frame padded with_crc bytes_sent
  select_framed = refl

  select_heard : (t : Tag) (sak : ℕ) → in_ready t five 72 true code (forty a b c d e) sak ≡ says (sak ∷ []) keep (moved t (selected t.state))
  unfolding five in_ready select sent with_crc
  select_heard t sak =
      rw (eq-eqb code code refl, eq-eqb (forty a b c d e) (forty a b c d e) refl, with_crc_right (code ∷ 0x70 ∷ a ∷ b ∷ c ∷ d ∷ e ∷ []))

ready1 : Tag
ready1 = record { state = Ready1 ToIdle; answered = false }

ready2 : Tag
ready2 = record { state = Ready2 ToIdle; answered = false }

active : Tag
active = record { state = Active ToIdle false; answered = false }

module _ (n room : ℕ) (img : List ℕ) (r : TagRecord) (size : size_of (length img) ≡ Some n) (enough : answer_room ≤ room) where
  -- a call that isn't refused, on a record that was written
  heard_call : (t : Tag) (f : List ℕ) (bits : ℕ) (parity : Bool) → is_frame f bits ≡ true → called img room (record_of t) f bits parity ≡ taken (heard n img t f bits parity)
  unfolding called called_at
  heard_call t f bits parity e = rw (size, le-leb answer_room room enough, e, read_again t)

  woken_up : first img room r ≡ taken (does (plain 16 0x0044) keep ready1)
  unfolding first field_loss field_off wupa heard hearing is_read_zero in_idle is_reqa is_wupa wakes moved is_frame padded ready1
  woken_up = heard_call field_off wupa 7 true refl

  selected_once : second img room r ≡ taken (says (0x04 ∷ []) keep ready2)
  unfolding second taken ready1 ready2 select1 five heard hearing is_read_zero in_ready1 own1 moved
  selected_once =
      ap (λ (c : Called). called img room c.left (select1 img) 72 true) woken_up
      ∙ heard_call ready1 (select1 img) 72 true (select_framed 0x93 cascade_tag (uid img 0) (uid img 1) (uid img 2) (bcc0 img))
      ∙ ap taken (select_heard 0x93 cascade_tag (uid img 0) (uid img 1) (uid img 2) (bcc0 img) ready1 0x04)

  selected_twice : third img room r ≡ taken (says (0x00 ∷ []) keep active)
  unfolding third taken ready2 active select2 five heard hearing is_read_zero in_ready2 own2 moved says
  selected_twice =
      ap (λ (c : Called). called img room c.left (select2 img) 72 true) selected_once
      ∙ heard_call ready2 (select2 img) 72 true (select_framed 0x95 (uid img 3) (uid img 4) (uid img 5) (uid img 6) (bcc1 img))
      ∙ ap taken (select_heard 0x95 (uid img 3) (uid img 4) (uid img 5) (uid img 6) (bcc1 img) ready2 0x00)

  pub reaches : Reaches img room r
  unfolding taken active says
  reaches = record {
    first_keeps = ap (λ (c : Called). c.effect) woken_up;
    second_keeps = ap (λ (c : Called). c.effect) selected_once;
    third_keeps = ap (λ (c : Called). c.effect) selected_twice;
    active = ap (λ (c : Called). c.left) selected_twice;
  }
