-- The radio state of a tag, after document 01's "Radio states": "IDLE, HALT, READY1, READY2, ACTIVE." Assumes nothing.
use Rattle.std.specs.Prelude.{Bool, true, false}
use Rattle.tag.specs.declared.state.Wait.{Wait}
use Rattle.tag.specs.declared.state.Wait.TheVariants.{ToIdle, ToHalt}
use Rattle.tag.specs.declared.state.State.{State}
use Rattle.tag.specs.declared.state.State.TheVariants.{Idle, Halt, Ready1, Ready2, Active}
use Rattle.tag.specs.declared.state.Tag.{Tag}

-- "Field loss gives IDLE, not authenticated, no read answered in this field; \"field off\" is that record."
unfoldable pub field_off : Tag
field_off = record { state = Idle; answered = false }

abbrev pub field_lost : Tag → Tag
field_lost t = field_off

-- the same tag in another state
unfoldable pub moved : Tag → State → Tag
moved t s = record { state = s; answered = t.answered }

-- "The wait state is HALT if the tag was woken from HALT, else IDLE."
abbrev pub woken : State → State
woken Idle = Ready1 ToIdle
woken Halt = Ready1 ToHalt
woken (Ready1 w) = Ready1 w
woken (Ready2 w) = Ready2 w
woken (Active w a) = Active w a

abbrev pub wait_state : Wait → State
wait_state ToIdle = Idle
wait_state ToHalt = Halt

abbrev pub back_to_wait : State → State
back_to_wait Idle = Idle
back_to_wait Halt = Halt
back_to_wait (Ready1 w) = wait_state w
back_to_wait (Ready2 w) = wait_state w
back_to_wait (Active w a) = wait_state w

-- "04h (to READY2) or 00h (to ACTIVE)"; "ACTIVE is entered unauthenticated."
abbrev pub selected : State → State
selected Idle = Idle
selected Halt = Halt
selected (Ready1 w) = Ready2 w
selected (Ready2 w) = Active w false
selected (Active w a) = Active w a

-- document 02, Q-2, of a reader that sends READ with address 0 "while the tag is still in READY1 or READY2": "Source document 002 allows this and
-- takes the tag to ACTIVE"; and document 01: "ACTIVE is entered unauthenticated."
abbrev pub activated : State → State
activated Idle = Idle
activated Halt = Halt
activated (Ready1 w) = Active w false
activated (Ready2 w) = Active w false
activated (Active w a) = Active w a

-- "HLTA is 50h 00h: silence, HALT"
unfoldable pub halted : State → State
halted s = Halt

-- a right password: "authenticated"
abbrev pub granted : State → State
granted Idle = Idle
granted Halt = Halt
granted (Ready1 w) = Ready1 w
granted (Ready2 w) = Ready2 w
granted (Active w a) = Active w true

-- "Leaving ACTIVE ends authentication": no other state has one
abbrev pub authenticated_in : State → Bool
authenticated_in Idle = false
authenticated_in Halt = false
authenticated_in (Ready1 w) = false
authenticated_in (Ready2 w) = false
authenticated_in (Active w a) = a

abbrev pub authenticated : Tag → Bool
authenticated t = authenticated_in t.state

-- a READ or FAST_READ was answered with data
unfoldable pub answering : Tag → Tag
answering t = record { state = t.state; answered = true }
