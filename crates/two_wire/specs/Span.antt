-- Addresses that follow one another, and the bytes of a lent buffer behind them. Assumes nothing.
use Rattle.std.specs.Prelude.{ℕ, ◌+◌, ◌-◌, Bool, cond, ◌&&◌, ◌==◌, nat_le, nat_lt}
use Rattle.two_wire.specs.declared.span.Span.{Span}

-- the byte behind an address
abbrev pub offset : Span → ℕ → ℕ
offset s a = a - s.first

unfoldable pub within : Span → ℕ → Bool
within s a = nat_le s.first a && nat_lt (offset s a) s.length

-- this side stores the byte behind an address, unless it is one of those that are kept
unfoldable pub stores : Span → ℕ → Bool
stores s a = within s a && nat_le s.kept (offset s a)

-- "advances, last to first"
unfoldable pub following : Span → ℕ → ℕ
following s a = cond (offset s a + 1 == s.length) s.first (a + 1)

-- the address that a counter counts as: the first one, where it is outside
unfoldable pub counted : Span → ℕ → ℕ
counted s counter = cond (within s counter) counter s.first
