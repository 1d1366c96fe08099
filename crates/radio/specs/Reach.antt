-- "After a field loss, WUPA and the two right SELECT frames reach ACTIVE in three frames, from any image." Assumes nothing.
use Rattle.std.specs.Prelude.{◌≡◌, List, [], ◌∷◌, true, false, ℕ}
use Rattle.crc_a.specs.CrcA.{with_crc}
use Rattle.image.specs.Uid.{uid, cascade_tag, bcc0, bcc1}
use Rattle.tag.specs.declared.state.Wait.TheVariants.{ToIdle}
use Rattle.tag.specs.declared.state.State.TheVariants.{Active}
use Rattle.tag.specs.Outcome.{keep}
use Rattle.tag.specs.Record.{record_of, field_loss}
use Rattle.radio.specs.Call.{Called, called}
use Rattle.tag.specs.declared.record.TagRecord.{TagRecord}

unfoldable pub wupa : List ℕ
wupa = 0x52 ∷ []

unfoldable pub select1 : List ℕ → List ℕ
select1 img = with_crc (0x93 ∷ 0x70 ∷ cascade_tag ∷ uid img 0 ∷ uid img 1 ∷ uid img 2 ∷ bcc0 img ∷ [])

unfoldable pub select2 : List ℕ → List ℕ
select2 img = with_crc (0x95 ∷ 0x70 ∷ uid img 3 ∷ uid img 4 ∷ uid img 5 ∷ uid img 6 ∷ bcc1 img ∷ [])

unfoldable pub first : List ℕ → ℕ → TagRecord → Called
first img room r = called img room (field_loss r) wupa 7 true

unfoldable pub second : List ℕ → ℕ → TagRecord → Called
second img room r = called img room (first img room r).left (select1 img) 72 true

unfoldable pub third : List ℕ → ℕ → TagRecord → Called
third img room r = called img room (second img room r).left (select2 img) 72 true

-- none of the three changes the image, so each is called on the same one
pub record Reaches (img : List ℕ) (room : ℕ) (r : TagRecord) : Type 0 where
  pub first_keeps : (first img room r).effect ≡ keep
  pub second_keeps : (second img room r).effect ≡ keep
  pub third_keeps : (third img room r).effect ≡ keep
  pub active : (third img room r).left ≡ record_of (record { state = Active ToIdle false; answered = false })
