use Rattle.std.proofs.Common.{rules, ◌∙◌, refl}
use Rattle.crc_a.specs.CrcA.{bytes_in}
use Rattle.crc_a.proofs.Laws.{two_more}
use Rattle.crc_a.proofs.take_rest.Goals as goal
use Rattle.crc_a.proofs.take_rest.Goals.{in_default, in-len2-up}

pub returns : goal.returns
returns c = c.take_last.ensures ∙ elim c.if-rest-lt2.branch [
  | in_default w ↦ rw (w.register-is, w.last-is) refl
  | in-len2-up w ↦ rw (w.register-is, w.last-is) (two_more _ _ _ w.in-len2-up.len_at_least w.take_two-register.ensures)
]
