-- The screen call, after request Q-6: its refusals, and what it says of an image at a present second. Assumes nothing.
use Rattle.std.specs.Prelude.{◌≡◌, List, cond, Option, Some, None, Result, Ok, Err, ℕ, ◌*◌, ◌-◌, length, take, drop}
use Rattle.locks.specs.Locks.{lock_page}
use Rattle.image.specs.Layout.{size_of}
use Rattle.screen.specs.Blocks.{Found, walk}
use Rattle.screen.specs.Reading.{is_reading, second_in, watts_in, verdict_at, verdict_number}
use Rattle.screen.specs.declared.reading.Verdict.{Verdict}
use Rattle.screen.specs.declared.refusals.Refusal.{Refusal}
use Rattle.screen.specs.declared.refusals.Refusal.TheVariants.{WrongImage, NoMessage, Passes, NoReading}
use Rattle.screen.specs.declared.call.Shown.{Shown}
use Rattle.screen.specs.declared.call.ScreenAnswer.{ScreenAnswer}

-- "Refusals: 20 no such block, 21 a length, or the bytes it counts, passes the user pages, 22 not a reading"; "a wrong image is 1"
abbrev pub refusal_number : Refusal → ℕ
refusal_number WrongImage = 1
refusal_number NoMessage = 20
refusal_number Passes = 21
refusal_number NoReading = 22

-- a refusal; or what the reading is, its watts and its second
abbrev pub Seen : Type 0
Seen = Result Shown Refusal

abbrev pub reads : Verdict → ℕ → ℕ → Seen
reads verdict watts second = Ok (record { verdict = verdict; watts = watts; second = second })

-- "The watts come back with each of the three."; "22 not a reading"
unfoldable pub reading_seen : List ℕ → ℕ → Seen
reading_seen m present = cond (is_reading m) (reads (verdict_at present (second_in m)) (watts_in m) (second_in m)) (Err NoReading)

-- "20 no such block, 21 a length, or the bytes it counts, passes the user pages"
abbrev pub found_seen : Found → ℕ → Seen
found_seen (Ok m) present = reading_seen m present
found_seen (Err refusal) present = Err refusal

-- "from page 04h through the user pages", which end before the lock page
unfoldable pub user_bytes : ℕ → List ℕ → List ℕ
user_bytes n img = take (4 * lock_page n - 4 * 0x04) (drop (4 * 0x04) img)

-- "a wrong image is 1, tested first"
abbrev pub seen_in : Option ℕ → List ℕ → ℕ → Seen
seen_in None img present = Err WrongImage
seen_in (Some n) img present = found_seen (walk (user_bytes n img)) present

unfoldable pub seen : List ℕ → ℕ → Seen
seen img present = seen_in (size_of (length img)) img present

-- the answer that a board gets: a refusal has nothing else in it
abbrev pub answer_of : Seen → ScreenAnswer
answer_of (Err refusal) = record { refused = refusal_number refusal; verdict = 0; watts = 0; second = 0 }
answer_of (Ok shown) = record { refused = 0; verdict = verdict_number shown.verdict; watts = shown.watts; second = shown.second }

-- an answer s that is a refusal, with the number that a board gets of it
pub record Refused (refusal : Refusal) (number : ℕ) (s : Seen) : Type 0 where
  pub outcome : s ≡ Err refusal
  pub answer : answer_of s ≡ record { refused = number; verdict = 0; watts = 0; second = 0 }
