-- The tag record, which the board keeps between two calls: four numbers, and what they mean. Assumes nothing.
use Rattle.std.specs.Prelude.{Bool, cond, ◌&&◌, ℕ, eqb, ltb}
use Rattle.tag.specs.declared.state.Wait.{Wait}
use Rattle.tag.specs.declared.state.Wait.TheVariants.{ToIdle, ToHalt}
use Rattle.tag.specs.declared.state.State.{State}
use Rattle.tag.specs.declared.state.State.TheVariants.{Idle, Halt, Ready1, Ready2, Active}
use Rattle.tag.specs.declared.state.Tag.{Tag}
use Rattle.tag.specs.State.{field_off, field_lost}
use Rattle.tag.specs.declared.record.TagRecord.{TagRecord}

-- ---- from numbers to their meaning

unfoldable pub wait_of : ℕ → Wait
wait_of k = cond (eqb k 0) ToIdle ToHalt

-- 0 IDLE, 1 HALT, 2 READY1, 3 READY2, 4 ACTIVE
unfoldable pub state_of : ℕ → Wait → Bool → State
state_of k w a = cond (eqb k 0) Idle (cond (eqb k 1) Halt (cond (eqb k 2) (Ready1 w) (cond (eqb k 3) (Ready2 w) (Active w a))))

-- the states are 0 to 4, the wait states 0 and 1, and the two flags 0 and 1; a number that a state has no use for is passed over
unfoldable pub meant : TagRecord → Bool
meant r = ltb r.state 5 && (ltb r.wait 2 && (ltb r.authenticated 2 && ltb r.answered 2))

-- "a tag record with no meaning here counts as after field loss"
unfoldable pub tag_of : TagRecord → Tag
tag_of r =
    cond (meant r)
    (record { state = state_of r.state (wait_of r.wait) (eqb r.authenticated 1); answered = eqb r.answered 1 })
    field_off

-- ---- and back

unfoldable pub flag_of : Bool → ℕ
flag_of b = cond b 1 0

abbrev pub wait_number : Wait → ℕ
wait_number ToIdle = 0
wait_number ToHalt = 1

abbrev pub record_in : State → ℕ → TagRecord
record_in Idle a = record { state = 0; wait = 0; authenticated = 0; answered = a }
record_in Halt a = record { state = 1; wait = 0; authenticated = 0; answered = a }
record_in (Ready1 w) a = record { state = 2; wait = wait_number w; authenticated = 0; answered = a }
record_in (Ready2 w) a = record { state = 3; wait = wait_number w; authenticated = 0; answered = a }
record_in (Active w g) a = record { state = 4; wait = wait_number w; authenticated = flag_of g; answered = a }

unfoldable pub record_of : Tag → TagRecord
record_of t = record_in t.state (flag_of t.answered)

-- "Field loss gives IDLE, not authenticated, no read answered in this field; \"field off\" is that record."
unfoldable pub field_loss : TagRecord → TagRecord
field_loss r = record_of (field_lost (tag_of r))
