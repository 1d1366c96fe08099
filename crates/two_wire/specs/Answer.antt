-- What a bus event answers, and its numbers. Assumes nothing.
use Rattle.std.specs.Prelude.{ℕ, Result, Ok, Err}
use Rattle.two_wire.specs.declared.answer.BusAnswer.{BusAnswer}
use Rattle.two_wire.specs.declared.answer.Reply.{Reply}
use Rattle.two_wire.specs.declared.answer.Reply.TheVariants.{Nothing, Acknowledged, Declined, Byte}
use Rattle.two_wire.specs.declared.answer.Refusal.{Refusal}
use Rattle.two_wire.specs.declared.answer.Refusal.TheVariants.{WrongImage, WrongEvent, WrongMemory}

-- "Start and stop answer nothing; the others answer an acknowledge bit or a byte."
-- The kind of an answer is 0 for none, 1 for an acknowledge bit, 2 for a byte; refused is 0 where the call isn't.
abbrev pub answer_of : Reply → BusAnswer
answer_of Nothing = record { refused = 0; kind = 0; value = 0 }
answer_of Acknowledged = record { refused = 0; kind = 1; value = 1 }
answer_of Declined = record { refused = 0; kind = 1; value = 0 }
answer_of (Byte b) = record { refused = 0; kind = 2; value = b }

-- "1: image length isn't 184, 544 or 928"; "4: bus call: event isn't one of the five"; 02: "5, bus call with a data memory that isn't 16,384 bytes"
abbrev pub refusal_number : Refusal → ℕ
refusal_number WrongImage = 1
refusal_number WrongEvent = 4
refusal_number WrongMemory = 5

-- "A refused call returns its number, no answer"
abbrev pub refused_as : Refusal → BusAnswer
refused_as k = record { refused = refusal_number k; kind = 0; value = 0 }

-- what the call returns
abbrev pub returned : Result Reply Refusal → BusAnswer
returned (Ok reply) = answer_of reply
returned (Err k) = refused_as k
