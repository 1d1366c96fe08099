-- Demand 3, sentence by sentence: "Start with the field off, any image, and any run of frames and field losses, refused ones too, each on the
-- image and tag record that the one before left, with no bus event in it." Assumes nothing.
use Rattle.std.specs.Prelude.{◌≡◌, List, ◌++◌, true, ℕ, ◌≤◌, ◌<◌, length, Option, Some, None}
use Rattle.image.specs.declared.layout.Region.TheVariants.{User}
use Rattle.image.specs.Layout.{size_of, page_at, first_settings, pwd_page, region_of}
use Rattle.image.specs.Settings.{auth0, settings_locked}
use Rattle.image.specs.Write.{locked, NoneCleared}
use Rattle.image.specs.Tail.{counter}
use Rattle.runs.specs.Run.{Input, Call, from_off, image_after}
use Rattle.runs.specs.Seen.{last_written, none_offers}

-- of an image of n pages
pub record Demand3 (call : Call) (n : ℕ) (img : List ℕ) (run : List Input) : Type 0 where
  -- "At the end each user page holds the four bytes of the last WRITE to it that was acknowledged, else its first bytes."
  pub user_pages : (p : ℕ) → region_of n p ≡ User → page_at (image_after call img run) p ≡ last_written call p (from_off img) run (page_at img p)
  -- "No lock, block-lock, .. or capability bit has cleared"
  pub none_cleared : NoneCleared n img (image_after call img run)
  -- "No .. settings-lock .. bit has cleared"
  pub settings_lock : settings_locked n img ≡ true → settings_locked n (image_after call img run) ≡ true
  -- "and the counter has not fallen"
  pub counter_kept : counter n img ≤ counter n (image_after call img run)
  -- "A user page once locked does not change again.": from each moment of the run on
  pub locked_stays : (before later : List Input) → before ++ later ≡ run → (p : ℕ) → region_of n p ≡ User → locked n (image_after call img before) p ≡ true
      → page_at (image_after call img run) p ≡ page_at (image_after call img before) p
  -- "If, at the start, password protection began at or before the first settings page, and no frame offered the password, no page from its
  -- first page on has changed."
  pub protected_stays : auth0 n img ≤ first_settings n → none_offers (page_at img (pwd_page n)) run ≡ true → (p : ℕ) → auth0 n img ≤ p → p < n
      → page_at (image_after call img run) p ≡ page_at img p

-- of any image: one whose length has no size is refused at every call, and stays
unfoldable pub Holds : Option ℕ → Call → List ℕ → List Input → Type 0
Holds (Some n) call img run = Demand3 call n img run
Holds None call img run = image_after call img run ≡ img

-- demand 3 of a tag, for any image and any run
abbrev pub Keeps3 : Call → Type 0
Keeps3 call = (img : List ℕ) (run : List Input) → Holds (size_of (length img)) call img run
