use Rattle.std.proofs.Common.{◌∙◌, arith}
use Rattle.locks.proofs.Lock.{past_rows, not_in_row, in_row, rows_count, looked_up}
use Rattle.locks.proofs.dynamic_lock.Goals as goal
use Rattle.locks.proofs.dynamic_lock.Goals.{else-from-page-via-then-from-page+else-page-from, else-from-page-via-else-from-page}

pub returns-in_err-row : goal.returns-in_err-row
returns-in_err-row c =
    c.from_residual.ensures ∙ past_rows _ _ _ c.requires.0 c.requires.1 c.candidate-i.ensures (rw (c.rows_of.ensures, rows_count c.args.n) at c.in_err-row.ensures.lookup.3)

pub returns-then-page-from : goal.returns-then-page-from
returns-then-page-from c =
    let found = c.in_ok-row.ensures.lookup in
    let row = looked_up _ _ _ _ _ c.rows_of.ensures found.3.0 found.1 in
    in_row _ _ _ c.requires.0 c.requires.1 c.candidate-i.ensures _ row (omega (arith, c.from-then-from-page.ensures, c.if-page-from.true))

pub returns-else-from-page : goal.returns-else-from-page
returns-else-from-page c =
    let found = c.in_ok-row.ensures.lookup in
    let row = looked_up _ _ _ _ _ c.rows_of.ensures found.3.0 found.1 in
    not_in_row _ _ _ c.requires.0 c.requires.1 c.candidate-i.ensures _ row
    (λ first last. elim c.else-from-page.branch [
      | else-from-page-via-then-from-page+else-page-from w ↦ omega (arith, w.from-then-from-page.ensures, w.if-page-from.false, last)
      | else-from-page-via-else-from-page w ↦ omega (arith, c.from.ensures, w.if-from-page.false, first)
    ])
