-- Runs of bytes: a part of a list, and where a byte first stands in one. Assumes nothing.
use Rattle.std.specs.Prelude.{ℕ, suc, Bool, true, false, List, [], ◌∷◌, eqb, take, drop}

-- the bytes from the one place up to the other
unfoldable pub slice : ℕ → ℕ → List ℕ → List ℕ
slice from to bytes = drop from (take to bytes)

-- the first place at which a byte stands; the length, where it stands nowhere
unfoldable pub index_after : Bool → ℕ → ℕ
index_after true n = 0
index_after false n = suc n

unfoldable pub index_of : ℕ → List ℕ → ℕ
index_of byte [] = 0
index_of byte (b ∷ bytes) = index_after (eqb b byte) (index_of byte bytes)
