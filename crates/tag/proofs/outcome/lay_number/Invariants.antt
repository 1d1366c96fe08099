-- `tag::outcome::lay_number` meets its contract. The invariant: the first i bytes are laid over the answer, and the rest is left. Assumes nothing.
use mathlib.Core.Path.{◌≡◌}
use Prim.Native.Nat.{◌/◌, ◌^◌}
use Rattle.tag.specs.Outcome.{byte_of}
use Rattle.tag.proofs.Laws.{laid}
use Rattle.tag.proofs.outcome.lay_number.Given as goal

abbrev pub invariant-loop-i : goal.invariant-loop-i
invariant-loop-i l = record { left : l.rest ≡ l.v / 256 ^ l.i; laid_so_far : l.answer ≡ laid (byte_of l.v) l.i l.initial.answer }
