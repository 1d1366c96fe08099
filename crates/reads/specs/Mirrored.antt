-- What the mirror means for a reader, after document 02's Q-3: "The board's name in the page." Assumes nothing.
use Rattle.std.specs.Prelude.{◌≡◌, ◌≢◌, List, ℕ, ◌+◌, ◌*◌, ◌/◌, ◌%◌, ◌<◌, get_or, Option, None, IfSome}
use Rattle.image.specs.declared.layout.Four.{Four}
use Rattle.image.specs.declared.layout.Region.TheVariants.{User}
use Rattle.image.specs.declared.mirror.Mirror.{Mirror}
use Rattle.image.specs.Layout.{page_at, store, first_settings, region_of}
use Rattle.image.specs.Shown.{shown}
use Rattle.image.specs.Mirror.{text, mirror_for}
use Rattle.tag.specs.declared.state.Tag.{Tag}
use Rattle.tag.specs.State.{authenticated}
use Rattle.tag.specs.Outcome.{bits_of, Does}
use Rattle.reads.specs.Read.{pages_by, pages_from, read, fast_read}

-- the same board where bits 7-6 of byte 0 of the first settings page choose none
unfoldable pub none : Four → Four
none settings = record { b0 = settings.b0 % 64; b1 = settings.b1; b2 = settings.b2; b3 = settings.b3 }

unfoldable pub without : ℕ → List ℕ → List ℕ
without n img = store img (first_settings n) (none (page_at img (first_settings n)))

-- two frames leave the same of an image and of a tag, and their answers are of one length
pub record Alike (o o' : Does) : Type 0 where
  pub effect : o.effect ≡ o'.effect
  pub tag : o.tag ≡ o'.tag
  pub bits : bits_of o.reply ≡ bits_of o'.reply

-- of a board as it is once this read has counted, and a tag
module _ (n : ℕ) (img : List ℕ) (t : Tag) where
  abbrev m : Option Mirror
  m = mirror_for n img (authenticated t)

  -- the place in the image of byte j of an answer, whose pages are a, a+1, .. and go round at b
  abbrev place : ℕ → ℕ → ℕ → ℕ
  place a b j = 4 * ((a + j / 4) % b) + j % 4

  pub record Mirrored : Type 0 where
    -- "A page below 04h, or any character past the user pages, means no mirror at all.": each character stands on a user page
    pub in_user_pages : IfSome m (λ w. (i : ℕ) → i < w.length → region_of n ((w.start + i) / 4) ≡ User)
    -- "READ and FAST_READ show the characters": each at its place, whatever page the answer begins with and wherever it goes round
    pub character : IfSome m (λ w. (a b count i j : ℕ) → j < 4 * count → i < w.length → place a b j ≡ w.start + i
        → get_or (pages_from n img t a b count) j 0 ≡ get_or (text n img) (w.from + i) 0)
    -- and all other bytes as they were shown before
    pub other : (a b count j : ℕ) → j < 4 * count → IfSome m (λ w. (i : ℕ) → i < w.length → place a b j ≢ w.start + i)
        → get_or (pages_from n img t a b count) j 0 ≡ shown n img ((a + j / 4) % b) (j % 4)
    -- "no mirror at all": every byte is shown as before
    pub as_before : m ≡ None → (a b count : ℕ) → pages_from n img t a b count ≡ pages_by (shown n img) a b count

  -- "memory .. don't change": a READ and a FAST_READ do all the rest as on the board without a mirror
  pub record Untouched : Type 0 where
    pub read : (a : ℕ) → Alike (read n img t a) (read n (without n img) t a)
    pub fast_read : (s e : ℕ) → Alike (fast_read n img t s e) (fast_read n (without n img) t s e)
