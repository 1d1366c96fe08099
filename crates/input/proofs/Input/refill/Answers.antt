-- `input::Input::refill` meets its contract. Assumes nothing.
use mathlib.Core.Path.{ap, refl}
use native.Mathlib.Omega.{arith}
use Rattle.input.specs.Reading.{Held}
use Rattle.input.proofs.Cut.{line_few, read_end, read_some, read_takes}
use Rattle.input.proofs.Input.refill.Goals as goal

pub returns-then-self : goal.returns-then-self
returns-then-self g c =
    record {
      step = read_end _ _ _ _ _ (line_few _ _ c.self.invariant.2) (ap (λ (v : Held). v.line) c.self.view_is) c.requires c.if-self.true;
      takes = read_takes _ _ _ _ _ _ _ c.requires c.unwrap_or-count.ensures c.read.ensures.bytes refl;
    }

pub returns : goal.returns
returns g c =
    record {
      step =
          read_some _ _ _ _ _ (line_few _ _ c.self.invariant.2) (ap (λ (v : Held). v.line) c.self.view_is) c.requires _ c.read.ensures.bound c.unwrap_or-count.ensures
          c.if-self.false;
      takes = read_takes _ _ _ _ _ _ _ c.requires c.unwrap_or-count.ensures c.read.ensures.bytes refl;
    }
