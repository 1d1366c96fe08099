-- The numbers that the frame call answers, for what is left of a frame and for each refusal. Assumes nothing.
use Rattle.std.specs.Prelude.{ℕ, Result, Ok, Err}
use Rattle.tag.specs.declared.outcome.Step.{Step}
use Rattle.tag.specs.declared.record.TagRecord.{TagRecord}
use Rattle.tag.specs.Record.{record_of}
use Rattle.radio.specs.declared.call.Answer.{Answer}
use Rattle.radio.specs.declared.call.Refusal.{Refusal}
use Rattle.radio.specs.declared.call.Refusal.TheVariants.{ImageLength, AnswerRoom, NoFrame}

-- "1: image length isn't 184, 544 or 928"; "2: answer buffer under 1,024 bytes"; "3: .."
abbrev pub number_of : Refusal → ℕ
number_of ImageLength = 1
number_of AnswerRoom = 2
number_of NoFrame = 3

-- "A refused call returns its number, no answer, the records it was given"
abbrev pub told : Result Step Refusal → TagRecord → Answer
told (Ok step) r = record { refused = 0; bits = step.bits; left = record_of step.tag }
told (Err e) r = record { refused = number_of e; bits = 0; left = r }
