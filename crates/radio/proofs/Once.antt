-- Two outcomes of one frame call are equal. Assumes nothing.
use mathlib.Core.Path.{◌≡◌, sym, ◌∙◌}
use Rattle.radio.specs.Call.{OneOutcome}

-- two outcomes that the contract allows for one input are equal
pub one_outcome : OneOutcome
one_outcome o r r' img image image' before after after' m m' = (
  same (m.refused ∙ sym m'.refused) (m.bits ∙ sym m'.bits) (m.left ∙ sym m'.left),
  m.image ∙ sym m'.image,
  m.answer ∙ sym m'.answer,
)
  where
    same : r.refused ≡ r'.refused → r.bits ≡ r'.bits → r.left ≡ r'.left → r ≡ r'
    same a b c = λ i. record { refused = a i; bits = b i; left = c i }
