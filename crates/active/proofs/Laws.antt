-- Which command a frame in ACTIVE is, where its length is that of its code. Assumes nothing.
use mathlib.Core.Path.{◌≡◌, sym, ◌∙◌}
use mathlib.Core.List.{List}
use Prim.Native.Nat.{ℕ}
use lib.ListN.{length, get_or}
use borrow.Author.Tests.{eq-eqb}
use Rattle.std.specs.Prelude.{Option}
use Rattle.active.specs.Frame.{length_of, named, command_of}
use Rattle.active.specs.declared.Command.{Command}

-- the one that its code names, or none where it names none
pub known : (f : List ℕ) (code n : ℕ) → code ≡ get_or f 0 0 → n ≡ length_of code → (k : Option Command) → n ≡ length f → k ≡ named f code → k ≡ command_of f
unfolding command_of
known f code n e l k h q = rw (← e, eq-eqb (length f) (length_of code) (sym h ∙ l)) q
