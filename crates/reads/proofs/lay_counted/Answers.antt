-- `reads::lay_counted` meets its contract: each page is laid as it is stored. Assumes nothing.
use Rattle.std.proofs.Common.{rules}
use Rattle.image.specs.Shown.{shown, shown_page}
use Rattle.reads.proofs.lay_counted.Goals as goal

pub returns-clause-counts : goal.returns-clause-counts
unfolding shown_page
returns-clause-counts c =
    let counted = c.count-left.ensures.value in
    record { tag = counted.0; image = counted.1; pages = c.lay_pages.ensures (shown c.args.n c.count-left.new.image) (λ page v l p. search rules) }
