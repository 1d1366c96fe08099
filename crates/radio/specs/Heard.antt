-- What a frame does, by the tag's state: f is its bytes, bits its bit count. Assumes nothing.
use Rattle.std.specs.Prelude.{List, Bool, cond, ◌&&◌, ℕ, eqb}
use Rattle.crc_a.specs.CrcA.{crc_right}
use Rattle.tag.specs.declared.state.State.{State}
use Rattle.tag.specs.declared.state.State.TheVariants.{Idle, Halt, Ready1, Ready2, Active}
use Rattle.tag.specs.declared.state.Tag.{Tag}
use Rattle.tag.specs.State.{moved, activated}
use Rattle.tag.specs.Outcome.{arg, Does}
use Rattle.selection.specs.Selection.{in_idle, in_halt, in_ready1, in_ready2}
use Rattle.active.specs.Frame.{in_active}

-- by document 01 alone
abbrev pub heard_in : State → ℕ → List ℕ → Tag → List ℕ → ℕ → Bool → Does
heard_in Idle n img t f bits parity = in_idle t f bits
heard_in Halt n img t f bits parity = in_halt t f bits
heard_in (Ready1 w) n img t f bits parity = in_ready1 img t f bits parity
heard_in (Ready2 w) n img t f bits parity = in_ready2 img t f bits parity
heard_in (Active w a) n img t f bits parity = in_active n img t f bits parity

-- Document 01, of READY1 and READY2: "Anything else, bad parity and a non-match among them: silence, wait state." Document 02, Q-2, amends it:
-- "Some readers send READ with address 0 while the tag is still in READY1 or READY2. [..] document 01 sends it to the wait state, which is wrong."

-- Q-2: "A whole READ frame for address 00h with good parity and CRC"
unfoldable pub is_read_zero : List ℕ → ℕ → Bool → Bool
is_read_zero f bits parity = eqb bits 32 && (eqb (arg f 0) 0x30 && (eqb (arg f 1) 0x00 && (parity && crc_right f)))

-- "takes the tag to ACTIVE": the state in which a frame is heard
unfoldable pub hearing : State → List ℕ → ℕ → Bool → State
hearing s f bits parity = cond (is_read_zero f bits parity) (activated s) s

-- "is to be answered as ACTIVE would answer it, NAK and all. Any other READ there stays an error."
unfoldable pub heard : ℕ → List ℕ → Tag → List ℕ → ℕ → Bool → Does
heard n img t f bits parity = let s = hearing t.state f bits parity in heard_in s n img (moved t s) f bits parity
