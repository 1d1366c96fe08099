-- The one induction over a run, and what holds of every tag that meets demand 2. Assumes nothing.
use mathlib.Core.Path.{◌≡◌, refl}
use mathlib.Core.List.{List, [], ◌∷◌, ◌++◌}
use Rattle.runs.specs.Run.{Input, Call, ours, Meets2, Kept, next, at_end}

-- two runs in step, over the same inputs: what holds at the start and is kept by every input holds at the end. What holds may speak of the
-- inputs to come.
pub in_step : (call : Call) (P : Kept → Kept → List Input → Type 0)
    → ((k k' : Kept) (i : Input) (is : List Input) → P k k' (i ∷ is) → P (next call k i) (next call k' i) is)
    → (run : List Input) (k k' : Kept) → P k k' run → P (at_end call k run) (at_end call k' run) []
unfolding at_end
in_step call P keeps [] k k' h = h
in_step call P keeps (i ∷ is) k k' h = in_step call P keeps is (next call k i) (next call k' i) (keeps k k' i is h)

-- one run
pub along : (call : Call) (P : Kept → List Input → Type 0) → ((k : Kept) (i : Input) (is : List Input) → P k (i ∷ is) → P (next call k i) is)
    → (run : List Input) (k : Kept) → P k run → P (at_end call k run) []
along call P keeps run k h = in_step call (λ k _ is. P k is) (λ k _. keeps k) run k k h

-- from each moment on: a run is what comes before it, and then what comes later
pub parts : (call : Call) (before later : List Input) (k : Kept) → at_end call k (before ++ later) ≡ at_end call (at_end call k before) later
unfolding at_end
parts call before later k = along call (λ k' is. at_end call k (before ++ later) ≡ at_end call k' (is ++ later)) (λ k' i is h. h) before k refl

-- what holds of our tag holds of every tag that meets demand 2
pub of_any : (P : Call → Type 0) → P ours → (call : Call) → Meets2 call → P call
of_any P h call meets = let e : call ≡ ours = λ i img r f. meets img r f i in rw e h
