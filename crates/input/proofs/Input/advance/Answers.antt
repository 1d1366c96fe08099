-- `input::Input::advance` meets its contract. Assumes nothing.
use native.Mathlib.Omega.{arith}
use mathlib.Core.Path.{sym, ap, ◌∙◌}
use Rattle.input.specs.Reading.{Held}
use Rattle.input.proofs.Cut.{none_ahead, none_there, some_ahead, none_taken}
use Rattle.input.proofs.Input.advance.Goals as goal

pub gather-requires : goal.gather-requires
gather-requires g c = λ e. some_ahead _ _ _ (omega (arith, c.self.invariant, c.self.told)) c.if-self.true (ap (λ (v : Held). v.ahead) c.self.view_is ∙ e)

pub returns-then-self : goal.returns-then-self
returns-then-self g c =
    record {
      step = c.gather.ensures;
      takes =
          none_taken _ _ _
          (λ e. some_ahead _ _ _ (omega (arith, c.self.invariant, c.self.told)) c.if-self.true (ap (λ (v : Held). v.ahead) c.self.view_is ∙ none_there _ e));
    }

pub refill-requires : goal.refill-requires
refill-requires g c = sym (ap (λ (v : Held). v.ahead) c.self.view_is) ∙ none_ahead _ _ _ c.if-self.false
