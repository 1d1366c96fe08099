-- `radio::call::left` meets its contract. Assumes nothing.
use Rattle.std.proofs.Common.{sym, ◌∙◌}
use Rattle.std.proofs.lemmas.Result.{err_from_is_err_and}
use borrow.Author.Tests.{leb-true}
use Rattle.image.proofs.Laws.{fits}
use Rattle.radio.proofs.Laws.{missing, there, sizeless, narrow, frameless, done}
use Rattle.radio.proofs.call.left.Goals as goal

pub returns-in_err-n : goal.returns-in_err-n
returns-in_err-n c =
    let p = err_from_is_err_and c.from_residual.result c.from_residual.ensures.1 in
    let q = missing _ _ _ (sym c.ok_or.ensures.value ∙ c.in_err-n.was) in
    rw (p.1, p.2, q.1) (sizeless _ _ _ _ _ _ (sym c.size_of.ensures ∙ q.0))

pub returns-then-not-has_room : goal.returns-then-not-has_room
returns-then-not-has_room c =
    let n = there _ _ _ (sym c.ok_or.ensures.value ∙ c.in_ok-n.was) in
    narrow _ _ _ _ _ _ _ (sym c.size_of.ensures ∙ n) (sym c.has_room.ensures ∙ c.if-not-has_room.true)

pub returns-in_err-frame : goal.returns-in_err-frame
returns-in_err-frame c =
    let n = there _ _ _ (sym c.ok_or.ensures.value ∙ c.in_ok-n.was) in
    let p = err_from_is_err_and c.from_residual-in_err-frame.result c.from_residual-in_err-frame.ensures.1 in
    let q = missing _ _ _ (sym c.ok_or-2.ensures.value ∙ c.in_err-frame.was) in
    rw (p.1, p.2, q.1) (frameless _ _ _ _ _ _ _ (sym c.size_of.ensures ∙ n) (sym c.has_room.ensures ∙ c.if-not-has_room.false) (rw q.0 at c.framed.ensures))

pub hear-requires : goal.hear-requires
hear-requires c =
    let n = there _ _ _ (sym c.ok_or.ensures.value ∙ c.in_ok-n.was) in
    record { fit = fits _ _ (sym c.size_of.ensures ∙ n); room = leb-true _ _ (sym c.has_room.ensures ∙ c.if-not-has_room.false) }

pub returns : goal.returns
returns c =
    let n = there _ _ _ (sym c.ok_or.ensures.value ∙ c.in_ok-n.was) in
    let q = there _ _ _ (sym c.ok_or-2.ensures.value ∙ c.in_ok-frame.was) in
    let f = rw q at c.framed.ensures in
    done _ _ _ _ _ _ _ (sym c.size_of.ensures ∙ n) (sym c.has_room.ensures ∙ c.if-not-has_room.false) c.hear.result _ _ f.0 (rw (← c.from.ensures, ← f.1, ← f.2, ← f.3) c.hear.ensures) c.hear.auto.answer
