-- `input::append` meets its contract. Assumes nothing.
use native.Mathlib.Omega.{arith}
use Rattle.input.proofs.Cut.{append_kept}
use Rattle.input.proofs.append.Goals as goal

pub returns : goal.returns
returns c =
    record {
      bound = omega (arith, c.requires, c.min-count.ensures);
      line = append_kept _ _ _ _ c.told-line c.requires c.min-count.ensures _ _ _ c.copy.ensures;
    }
