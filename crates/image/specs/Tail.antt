-- The tail: "counter (3 bytes, low first) and failed-password count". Assumes nothing.
use Rattle.std.specs.Prelude.{List, cond, ℕ, ◌+◌, ◌*◌, ◌/◌, ◌%◌, ltb}
use Rattle.image.specs.Layout.{byte, page_at, tail_page}
use Rattle.image.specs.declared.layout.Four.{Four}

unfoldable pub counter_in : Four → ℕ
counter_in tail = tail.b0 + 256 * tail.b1 + 65536 * tail.b2

unfoldable pub counter : ℕ → List ℕ → ℕ
counter n img = counter_in (page_at img (tail_page n))

abbrev pub failed : ℕ → List ℕ → ℕ
failed n img = byte img (tail_page n) 3

-- "adds 1 to the counter ..; at FFFFFFh it stays"
unfoldable pub next_count : ℕ → ℕ
next_count c = cond (ltb c 0xFFFFFF) (c + 1) c

unfoldable pub counted : Four → Four
counted tail =
    let c = next_count (counter_in tail) in
    record { b0 = c % 256; b1 = c / 256 % 256; b2 = c / 65536; b3 = tail.b3 }

-- the tail with another failed-password count
unfoldable pub with_failed : ℕ → Four → Four
with_failed k tail = record { b0 = tail.b0; b1 = tail.b1; b2 = tail.b2; b3 = k }
