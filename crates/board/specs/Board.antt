-- What a firmware asks beside the calls. Assumes nothing.
use Rattle.std.specs.Prelude.{ℕ, Option, Some, None}

-- "The length tells the size"; 0 where it tells none
abbrev pub pages_of : Option ℕ → ℕ
pages_of (Some n) = n
pages_of None = 0
