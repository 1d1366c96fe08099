-- What each way through the record shows, and that a record that was written is read again. Assumes nothing.
use mathlib.Core.Path.{◌≡◌, refl}
use mathlib.Core.Bool.{Bool, true, false}
use Rattle.tag.specs.declared.state.Wait.TheVariants.{ToIdle, ToHalt}
use Rattle.tag.specs.declared.state.State.{State}
use Rattle.tag.specs.declared.state.State.TheVariants.{Idle, Halt, Ready1, Ready2, Active}
use Rattle.tag.specs.declared.state.Tag.{Tag}
use Rattle.tag.specs.Record.{wait_of, state_of, meant, tag_of, flag_of, record_of}

-- reading what was written gives it again
pub read_again : (t : Tag) → tag_of (record_of t) ≡ t
unfolding tag_of record_of flag_of wait_of state_of meant
read_again t = again t.state t.answered
  where
    again : (s : State) (a : Bool) → tag_of (record_of (record { state = s; answered = a })) ≡ record { state = s; answered = a }
    again Idle true = refl
    again Idle false = refl
    again Halt true = refl
    again Halt false = refl
    again (Ready1 ToIdle) true = refl
    again (Ready1 ToIdle) false = refl
    again (Ready1 ToHalt) true = refl
    again (Ready1 ToHalt) false = refl
    again (Ready2 ToIdle) true = refl
    again (Ready2 ToIdle) false = refl
    again (Ready2 ToHalt) true = refl
    again (Ready2 ToHalt) false = refl
    again (Active ToIdle true) true = refl
    again (Active ToIdle true) false = refl
    again (Active ToIdle false) true = refl
    again (Active ToIdle false) false = refl
    again (Active ToHalt true) true = refl
    again (Active ToHalt true) false = refl
    again (Active ToHalt false) true = refl
    again (Active ToHalt false) false = refl
