-- READ and FAST_READ, after document 01's "Commands in ACTIVE": n is the number of pages, img the image, t the tag. Assumes nothing.
use Rattle.std.specs.Prelude.{◌≡◌, List, cond, not, ◌&&◌, ℕ, ◌+◌, ◌-◌, ◌*◌, ◌/◌, ◌%◌, leb, ltb, Option, is_none}
use Rattle.image.specs.Layout.{page_at, tail_page}
use Rattle.image.specs.Settings.{auth0, prot, counter_on}
use Rattle.image.specs.declared.layout.Four.{Four}
use Rattle.image.specs.declared.mirror.Mirror.{Mirror}
use Rattle.image.specs.Mirror.{through, mirrored}
use Rattle.image.specs.Shown.{shown}
use Rattle.image.specs.Tail.{counted}
use Rattle.tag.specs.declared.state.Tag.{Tag}
use Rattle.tag.specs.State.{authenticated, answering}
use Rattle.tag.specs.Outcome.{build, over, Effect, keep, put, apply, Does, nak, says}

-- "Let B be AUTH0 if PROT is set, the tag isn't authenticated and AUTH0 < N; else N."
unfoldable pub bound : ℕ → List ℕ → Tag → ℕ
bound n img t = cond (prot n img && (not (authenticated t) && ltb (auth0 n img) n)) (auth0 n img) n

-- ---- READ and FAST_READ

-- "READ shows stored bytes"; "PWD and PACK pages always read as zeros.", and document 02's Q-3: "READ and FAST_READ show the characters": what
-- they show of byte k of page p, on a tag in this state. "memory and bus reads don't change": the two wires don't go through here.
unfoldable pub seen : ℕ → List ℕ → Tag → ℕ → ℕ → ℕ
seen n img t p k = mirrored n img (authenticated t) p k

-- byte j of the pages a, a+1, .., which go round at b, where byte k of page p is `show p k`
unfoldable pub page_byte : (ℕ → ℕ → ℕ) → ℕ → ℕ → ℕ → ℕ
page_byte show a b j = show ((a + j / 4) % b) (j % 4)

-- the four bytes of a page
abbrev pub page_by : (ℕ → ℕ → ℕ) → ℕ → Four
page_by show p = record { b0 = show p 0; b1 = show p 1; b2 = show p 2; b3 = show p 3 }

unfoldable pub pages_by : (ℕ → ℕ → ℕ) → ℕ → ℕ → ℕ → List ℕ
pages_by show a b count = build (page_byte show a b) (4 * count)

abbrev pub pages_from : ℕ → List ℕ → Tag → ℕ → ℕ → ℕ → List ℕ
pages_from n img t a b count = pages_by (seen n img t) a b count

-- "The first READ or FAST_READ answered with data since field loss adds 1 to the counter if it is on"; "Later ones don't count, even if
-- the first found it off."
unfoldable pub counting : ℕ → List ℕ → Tag → Effect
counting n img t = cond (not t.answered && counter_on n img) (put (tail_page n) (counted (page_at img (tail_page n)))) keep

-- so many pages from a on, as they are once this read has counted
unfoldable pub read_answered : ℕ → List ℕ → Tag → ℕ → ℕ → ℕ → Does
read_answered n img t a b count = let e = counting n img t in says (pages_from n (apply img e) t a b count) e (answering t)

-- "READ 30h a: NAK 0h unless a < B. Four pages (a+i) mod B, i from 0 to 3."
unfoldable pub read : ℕ → List ℕ → Tag → ℕ → Does
read n img t a = let b = bound n img t in cond (ltb a b) (read_answered n img t a b 4) (nak t 0)

-- "FAST_READ 3Ah s e: NAK 0h unless s ≤ e < B. Pages s to e.": below B none goes round
unfoldable pub fast_read : ℕ → List ℕ → Tag → ℕ → ℕ → Does
fast_read n img t s e = let b = bound n img t in cond (leb s e && ltb e b) (read_answered n img t s b (e + 1 - s)) (nak t 0)

-- ---- what is promised of an answer's bytes, before and after

-- pages were laid over its start, each byte k of a page p being `show p k`, and the rest stayed
pub record Lays (show : ℕ → ℕ → ℕ) (a b count : ℕ) (before after : List ℕ) : Type 0 where
  pub whole : after ≡ over (pages_by show a b count) before

-- a read was counted, and pages were laid as they are stored then; t' is the tag that is left
pub record Counts (n : ℕ) (img : List ℕ) (t : Tag) (a b count : ℕ) (t' : Tag) (image' before after : List ℕ) : Type 0 where
  pub tag : t' ≡ answering t
  pub image : image' ≡ apply img (counting n img t)
  pub pages : Lays (shown n image') a b count before after

-- these pages were laid through the mirror m, or there is none and all stayed
pub record Covers (n : ℕ) (img : List ℕ) (m : Option Mirror) (a b count : ℕ) (before after : List ℕ) : Type 0 where
  pub whole : after ≡ cond (is_none m) before (over (pages_by (through n img m) a b count) before)
