-- `reads::give` meets its contract: the mirror that is seen goes over the pages, or there is none. Assumes nothing.
use Rattle.image.specs.Mirror.{mirror_for}
use Rattle.tag.specs.State.{authenticated}
use Rattle.reads.specs.Read.{Covers}
use Rattle.reads.proofs.Laws.{given, unchosen}
use Rattle.reads.proofs.give.Goals as goal
use Rattle.reads.proofs.give.Goals.{then-is_chosen, else-is_chosen}

pub returns : goal.returns
returns g c =
    let image = c.lay_counted-left.new.image in
    let covers : Covers c.args.n image (mirror_for c.args.n image (authenticated c.args.tag)) c.args.first c.args.end c.pages-count.result c.lay_counted-left.new.answer c.if-is_chosen.answer
    = elim c.if-is_chosen.branch [
      | then-is_chosen w ↦ rw w.answer-is w.lay_mirror.ensures
      | else-is_chosen w ↦ rw w.answer-is (unchosen _ _ _ _ _ _ _ _ c.is_chosen.ensures w.if-is_chosen.false)
    ] in
    rw (← c.pages-count.ensures) (given _ _ _ _ _ _ _ _ _ _ _ _ _ c.lay_counted-left.ensures.counts covers c.says.ensures)
