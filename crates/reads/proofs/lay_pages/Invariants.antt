-- `reads::lay_pages` meets its contract. The invariant: after i turns the first i pages are laid over the answer. Assumes nothing.
use Rattle.std.proofs.Common.{◌≡◌, ℕ, ◌+◌, ◌*◌, ◌%◌, ◌<◌, length}
use Rattle.image.specs.declared.layout.Four.{Four}
use Rattle.reads.specs.Read.{page_byte, page_by}
use Rattle.tag.proofs.Laws.{laid}
use Rattle.reads.proofs.lay_pages.Given as goal

abbrev pub invariant-loop-i : goal.invariant-loop-i
invariant-loop-i g l = record {
  page : l.page ≡ (l.span.first + l.i) % l.span.end;
  below : l.page < l.span.end;
  laid : (show : ℕ → ℕ → ℕ) → ((page : ℕ) (v : Four) → page < l.span.end → goal.F-post g l.page_of page v → v ≡ page_by show page)
      → l.answer ≡ laid (page_byte show l.span.first l.span.end) (4 * l.i) l.initial.answer;
  whole : length l.answer ≡ length l.initial.answer;
}
