-- Events one after the other. Assumes nothing.
use Rattle.std.specs.Prelude.{ℕ, zero, suc, List, [], ◌∷◌}
use Rattle.two_wire.specs.Region.{Lent}
use Rattle.two_wire.specs.Record.{gathers}
use Rattle.two_wire.specs.Answer.{returned}
use Rattle.two_wire.specs.Event.{start, stop, byte_sent, byte_read_ack, write_code, read_code, after, does}
use Rattle.two_wire.specs.declared.answer.BusAnswer.{BusAnswer}
use Rattle.two_wire.specs.declared.record.BusRecord.{BusRecord}

-- data bytes gathered one after the other
unfoldable pub gathers_all : BusRecord → List ℕ → BusRecord
gathers_all r [] = r
gathers_all r (b ∷ bs) = gathers_all (gathers r b) bs

-- what there is between two events
pub record Wires : Type 0 where
  pub lent : Lent
  pub bus : BusRecord

unfoldable pub answer_to : Wires → ℕ → ℕ → BusAnswer
answer_to w event b = returned (does w.lent w.bus event b).reply

unfoldable pub after_event : Wires → ℕ → ℕ → Wires
after_event w event b =
    let o = does w.lent w.bus event b in
    record { lent = after w.lent o.effect; bus = o.bus }

abbrev pub after_start : Wires → Wires
after_start w = after_event w start 0

abbrev pub after_stop : Wires → Wires
after_stop w = after_event w stop 0

unfoldable pub after_bytes : Wires → List ℕ → Wires
after_bytes w [] = w
after_bytes w (b ∷ bs) = after_bytes (after_event w byte_sent b) bs

-- start, A0h, the address and data bytes
abbrev pub after_write : Wires → ℕ → ℕ → List ℕ → Wires
after_write w h l bs = after_bytes (after_start w) (write_code ∷ h ∷ l ∷ bs)

-- start, A1h
abbrev pub after_read_code : Wires → Wires
after_read_code w = after_bytes (after_start w) (read_code ∷ [])

-- k reads with ACK, and their answers
unfoldable pub after_reads : Wires → ℕ → Wires
after_reads w zero = w
after_reads w (suc k) = after_event (after_reads w k) byte_read_ack 0

unfoldable pub answers_to : Wires → ℕ → List BusAnswer
answers_to w zero = []
answers_to w (suc k) = answer_to w byte_read_ack 0 ∷ answers_to (after_event w byte_read_ack 0) k
