-- The bus record: its phase, and the records that the events leave. Assumes nothing.
use Rattle.std.specs.Prelude.{ℕ, ◌+◌, Bool, cond, List, replicate, ◌==◌, nat_lt, slice_set}
use Rattle.two_wire.specs.Window.{first, places, place_of, place_after}
use Rattle.two_wire.specs.declared.record.BusRecord.{BusRecord}
use Rattle.two_wire.specs.declared.record.Phase.{Phase}
use Rattle.two_wire.specs.declared.record.Phase.TheVariants.{Rest, Device, High, Low, Writing, Reading, Deaf}

-- the number that stands for a phase in a record
abbrev pub number_of : Phase → ℕ
number_of Rest = 0
number_of Device = 1
number_of High = 2
number_of Low = 3
number_of Writing = 4
number_of Reading = 5
number_of Deaf = 6

-- The phase that a number stands for. "No record is refused: .. such a bus record [counts] as stopped with nothing gathered, counter kept":
-- a record has no meaning when its number is none of the seven. At rest nothing is gathered, whatever else the record has.
unfoldable pub phase_of : ℕ → Phase
phase_of k =
    cond (k == 1) Device
    (cond (k == 2) High
    (cond (k == 3) Low
    (cond (k == 4) Writing
    (cond (k == 5) Reading
    (cond (k == 6) Deaf
    Rest)))))

abbrev pub is_in : Phase → BusRecord → Bool
is_in p r = r.phase == number_of p

abbrev pub none : List ℕ
none = replicate places 0

-- the record at rest that a driver begins with
abbrev pub at_rest : BusRecord
at_rest = record { phase = number_of Rest; held = 0; counter = first; bytes = none }

-- Every other record is made from the one that came in: with these four, and all else that it has stays.
abbrev pub renewed : BusRecord → ℕ → ℕ → ℕ → List ℕ → BusRecord
renewed r phase held counter bytes = record { phase = phase; held = held; counter = counter; bytes = bytes }

-- in a phase, with what the phase holds, at a counter, and with no bytes
unfoldable pub holding : BusRecord → Phase → ℕ → ℕ → BusRecord
holding r p held counter = renewed r (number_of p) held counter none

-- in a phase, with nothing gathered
abbrev pub entered : BusRecord → Phase → ℕ → BusRecord
entered r p counter = holding r p 0 counter

-- While data bytes come their count is held. From 64 on every place is gathered, and only the next place still goes by it, so that 127 is
-- followed by 64.
unfoldable pub one_more : ℕ → ℕ
one_more k = cond (nat_lt k places) (k + 1) (places + place_of (k + 1))

-- "Data bytes are acknowledged and gathered", "latest for each place"
unfoldable pub gathers : BusRecord → ℕ → BusRecord
gathers r b = renewed r r.phase (one_more r.held) r.counter (slice_set r.bytes (place_after r.counter r.held) b)
