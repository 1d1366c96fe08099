-- What the runner of programs asks of a program: that lines that are too long for a command are alike to it. Assumes nothing.
use Prim.Native.Nat.{ℕ, ◌<◌}
use mathlib.Core.Path.{◌≡◌, refl, sym, ap, ◌∙◌}
use mathlib.Core.List.{List}
use lib.ListN.{length}
use Rattle.input.specs.Running.{LongAlike}
use Rattle.words.specs.Args.{Said}
use Rattle.laying.specs.Parts.{line_text}
use Rattle.jobs.specs.Said.{verb_of, said_of}
use Rattle.jobs.specs.Told.{too_long, parts_of}
use Rattle.jobs.proofs.Saying.{said_long}
use Rattle.workshop.specs.Worked.{answered, program}

answer_long : (l : List ℕ) → 18597 < length l → line_text (parts_of (answered (verb_of l) (said_of l))) ≡ line_text (parts_of too_long)
answer_long l h = ap (λ (s : Said). line_text (parts_of (answered (verb_of l) s))) (said_long l h)

pub long_alike : LongAlike program
unfolding program
long_alike = record { answer = (λ k l l' h h'. answer_long l h ∙ sym (answer_long l' h')); next = (λ k l l' h h'. refl) }
