use Rattle.std.proofs.Common.{rules}
use native.Mathlib.Omega.{arith}
use Rattle.reads.proofs.Laws.{page_next, turn, pages_length, pages_end}
use Rattle.reads.proofs.lay_pages.Goals as goal

pub loop-i-preserved : goal.loop-i-preserved
loop-i-preserved g c = record {
  page = search page_next;
  below = search rules;
  laid = λ show h.
      let few = c.args.span.within in
      turn show _ _ _ _ _ _ _ _ c.loop-i-test.true (omega arith) c.requires.room c.loop-i.invariant.page (c.loop-i.invariant.laid show h)
      (rw (h _ _ c.loop-i.invariant.below c.page_of.ensures) at c.put_at.ensures);
  whole = search (rules, pages_length);
}

pub returns : goal.returns
returns g c = λ show h. pages_end show _ _ _ _ _ _ (c.loop-i.auto.i-end) c.loop-i-test.false (c.loop-i.invariant.laid show h)
