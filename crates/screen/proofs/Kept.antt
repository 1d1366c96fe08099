-- The promises are kept. Assumes nothing.
use mathlib.Core.Path.{◌≡◌, refl, sym, ap, ◌∙◌}
use mathlib.Core.List.{List}
use Prim.Native.Nat.{ℕ, ◌+◌, ◌*◌, ◌-◌, ◌<◌}
use native.Mathlib.Omega.{arith}
use lib.ListN.{length, drop, get_or, length-take, length-drop}
use lib.Seq.{ext_get_or, get_or-take, get_or-drop}
use Rattle.locks.specs.Locks.{lock_page}
use Rattle.locks.proofs.Lock.{by_size_lem}
use Rattle.std.specs.Prelude.{cond, eqb, Some, Ok, Err}
use Rattle.image.specs.Layout.{size_of, four_at, low_first_four, Fits}
use Rattle.screen.specs.Blocks.{counted, block, blocks, walk, BlockByBlock}
use Rattle.screen.specs.Reading.{is_reading, verdict_at}
use Rattle.screen.specs.Screen.{Seen, reads, reading_seen, found_seen, user_bytes, seen, answer_of}
use Rattle.screen.specs.declared.refusals.Refusal.{Refusal}
use Rattle.screen.specs.declared.refusals.Refusal.TheVariants.{WrongImage, NoMessage, Passes, NoReading}
use Rattle.screen.specs.declared.reading.Verdict.{Verdict}
use Rattle.screen.specs.declared.reading.Verdict.TheVariants.{Live, Old, Ahead}
use Rattle.screen.specs.declared.call.ScreenAnswer.{ScreenAnswer}
use Rattle.screen.specs.Promises.{Ages, SameUserPages, Alike, Promises}
use Rattle.screen.specs.Examples.{Examples}
use Rattle.std.proofs.lemmas.Grind.{common_steps}
use Rattle.screen.proofs.Walking.{goes, only, stops}

ages : Ages
unfolding verdict_at
ages = record {
  live = λ second age h. grind (arith, common_steps);
  old = λ second age h. grind (arith, common_steps);
  ahead = λ present second h. grind (arith, common_steps);
}

-- ---- the user pages

module _ (n : ℕ) (img : List ℕ) (f : Fits n img) where
  pub sized : size_of (length img) ≡ Some n
  unfolding size_of
  sized = ap size_of f.whole ∙ by_size_lem (λ (k : ℕ). size_of (4 * k + 4) ≡ Some k) refl refl refl f.size

  pub seen_there : (present : ℕ) → seen img present ≡ found_seen (walk (user_bytes n img)) present
  unfolding seen
  seen_there present = rw sized

  many : length (user_bytes n img) ≡ 4 * lock_page n - 4 * 0x04
  unfolding user_bytes
  many = simp (length-take, length-drop) (omega (arith, f.whole, f.least))

  byte_there : (i : ℕ) → i < length (user_bytes n img) → get_or (user_bytes n img) i 0 ≡ get_or img (4 * 0x04 + i) 0
  unfolding user_bytes
  byte_there i h = get_or-take (4 * lock_page n - 4 * 0x04) (drop (4 * 0x04) img) i 0 (omega (arith, many)) ∙ get_or-drop (4 * 0x04) img i 0

module _ (n : ℕ) (img img' : List ℕ) (s : SameUserPages n img img') where
  same_many : length (user_bytes n img) ≡ length (user_bytes n img')
  same_many = many n img s.one ∙ sym (many n img' s.other)

  same_bytes : user_bytes n img ≡ user_bytes n img'
  same_bytes = ext_get_or 0 (user_bytes n img) (user_bytes n img') same_many each
    where
      each : (i : ℕ) → i < length (user_bytes n img) → get_or (user_bytes n img) i 0 ≡ get_or (user_bytes n img') i 0
      each i h =
          byte_there n img s.one i h
          ∙ s.bytes (4 * 0x04 + i) (omega arith) (omega (arith, many n img s.one))
          ∙ sym (byte_there n img' s.other i (omega (arith, same_many)))

  same_seen : (present : ℕ) → seen img present ≡ seen img' present
  same_seen present =
      seen_there n img s.one present
      ∙ ap (λ (xs : List ℕ). found_seen (walk xs) present) same_bytes
      ∙ sym (seen_there n img' s.other present)

-- ---- the numbers of an answer

-- what the call answered, back from the numbers that a board gets of it
abbrev refusal_by : ℕ → Refusal
refusal_by k = cond (eqb k 1) WrongImage (cond (eqb k 20) NoMessage (cond (eqb k 21) Passes NoReading))

abbrev verdict_by : ℕ → Verdict
verdict_by k = cond (eqb k 1) Live (cond (eqb k 2) Old Ahead)

abbrev seen_by : ScreenAnswer → Seen
seen_by a = cond (eqb a.refused 0) (reads (verdict_by a.verdict) a.watts a.second) (Err (refusal_by a.refused))

shown_again : (verdict : Verdict) (watts second : ℕ) → seen_by (answer_of (reads verdict watts second)) ≡ reads verdict watts second
shown_again Live watts second = refl
shown_again Old watts second = refl
shown_again Ahead watts second = refl

seen_again : (s : Seen) → seen_by (answer_of s) ≡ s
seen_again (Ok shown) = shown_again shown.verdict shown.watts shown.second
seen_again (Err WrongImage) = refl
seen_again (Err NoMessage) = refl
seen_again (Err Passes) = refl
seen_again (Err NoReading) = refl

alike : Alike
alike = record {
  results = λ r r' img present e f. e ∙ sym f;
  numbers = λ r r' img present e f. e ∙ sym f;
  told_apart = λ s s' e. sym (seen_again s) ∙ ap seen_by e ∙ seen_again s';
}

-- ---- the theorems

pub block_by_block : BlockByBlock
block_by_block = record { goes = goes; only = only }

pub promises : Promises
promises = record {
  ages = ages;
  alike = alike;
  stops = stops;
  elsewhere = λ n img img' present s. same_seen n img img' s present;
}

-- each by computing both sides
pub examples : Examples
unfolding size_of walk blocks block counted is_reading low_first_four four_at verdict_at reading_seen seen
examples = record {
  alone = refl;
  behind_lock_control = refl;
  behind_nulls = refl;
  long_length = refl;
  low_byte_first = refl;
  first_of_two = refl;
  behind_the_end = refl;
  no_length = refl;
  one_byte_short = refl;
  to_the_end = refl;
  same_second = refl;
  last_live = refl;
  first_old = refl;
  latest = refl;
  one_ahead = refl;
  empty = record { outcome = refl; answer = refl };
  twelve_bytes = record { outcome = refl; answer = refl };
  none_said = record { outcome = refl; answer = refl };
  cut_said = record { outcome = refl; answer = refl };
  no_image = record { outcome = refl; answer = refl };
}
