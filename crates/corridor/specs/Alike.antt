-- What the runner of programs asks of a program: that lines that are too long for a command are alike to it. Assumes nothing.
use Prim.Native.Nat.{ℕ, ◌<◌}
use mathlib.Core.Path.{◌≡◌, sym, ap, ◌∙◌}
use mathlib.Core.List.{List}
use native.Mathlib.Omega.{arith}
use lib.ListN.{length}
use Rattle.input.specs.Running.{LongAlike}
use Rattle.words.specs.Args.{long}
use Rattle.laying.specs.Parts.{line_text}
use Rattle.lines.specs.declared.read.Verb.TheVariants as verb
use Rattle.lines.specs.Said.{verb_of, said_of}
use Rattle.lines.specs.Told.{parts_of}
use Rattle.lines.proofs.Saying.{said_long}
use Rattle.corridor.specs.Played.{Board, Played, played, program}

-- whatever the first word of a line that is too long is
played_long : (b : Board) (w : List ℕ) → 16397 < length w → played b (verb_of w) (said_of w) ≡ played b verb.Help long
played_long b w h = ap (played b (verb_of w)) (said_long w h)

pub long_alike : LongAlike program
long_alike = record {
  answer = (λ b l l' h h'. ap (λ (x : Played). line_text (parts_of x.told)) (played_long b l (omega arith) ∙ sym (played_long b l' (omega arith))));
  next = (λ b l l' h h'. ap (λ (x : Played). x.board) (played_long b l (omega arith) ∙ sym (played_long b l' (omega arith))));
}
