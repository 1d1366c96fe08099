-- Two tags of which demand 3 does not hold, and the run that shows it. Assumes nothing.
use Rattle.std.specs.Prelude.{List, [], ◌∷◌, true, cond, ℕ, ◌*◌, length}
use Rattle.crc_a.specs.CrcA.{with_crc}
use Rattle.image.specs.Layout.{page_at}
use Rattle.tag.specs.Outcome.{Effect, keep, put}
use Rattle.commands.specs.Commands.{same}
use Rattle.radio.specs.Reach.{wupa, select1, select2}
use Rattle.runs.specs.Run.{Input, sent, Call, ours}
use Rattle.runs.specs.Seen.{acks}
use Rattle.demands.specs.Table.{plain, write_four}

-- it acknowledges a WRITE, and stores nothing
unfoldable pub lazy : Call
lazy img r f =
    let o = ours img r f in
    record { refused = o.refused; reply = o.reply; effect = cond (acks o.reply) keep o.effect; left = o.left }

-- it stores the first WRITE only: a page that holds what it was delivered with
unfoldable pub unless : List ℕ → Effect → Effect
unless img keep = keep
unless img (put p v) = cond (same (page_at img p) (page_at (plain 45) p)) (put p v) keep

unfoldable pub once : Call
once img r f =
    let o = ours img r f in
    record { refused = o.refused; reply = o.reply; effect = cond (acks o.reply) (unless img o.effect) o.effect; left = o.left }

-- woken, selected twice, and two WRITEs to page 4
abbrev pub whole : List ℕ → Input
whole bs = sent (record { bytes = bs; bits = 8 * length bs; parity = true; room = 1024 })

abbrev pub two_writes : List Input
two_writes =
    sent (record { bytes = wupa; bits = 7; parity = true; room = 1024 })
    ∷ whole (select1 (plain 45))
    ∷ whole (select2 (plain 45))
    ∷ whole (with_crc write_four)
    ∷ whole (with_crc (0xA2 ∷ 0x04 ∷ 0x05 ∷ 0x06 ∷ 0x07 ∷ 0x08 ∷ []))
    ∷ []
