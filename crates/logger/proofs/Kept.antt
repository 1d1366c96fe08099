-- The promises are kept. Assumes nothing.
use mathlib.Core.Path.{◌≡◌, refl, sym, ap, ◌∙◌}
use mathlib.Core.List.{List, [], ◌∷◌, ◌++◌, append_assoc, append-nil}
use Prim.Native.Nat.{ℕ, ◌+◌, ◌-◌, ◌*◌, ◌≤◌, ◌<◌}
use native.Mathlib.Omega.{arith}
use lib.Dec.{ltb}
use lib.ListN.{length, take, drop, get_or, length-drop, length-append, take-append-drop, drop_of_length-le}
use lib.Seq.{length-take-le, take_at, drop_at, take-append-add, get_or-append-add, get_or-drop}
use borrow.Author.Tests.{le-leb, lt-ltb, le-ltb, ltb-false}
use Rattle.basics.proofs.Choice.{by}
use Rattle.locks.specs.Locks.{lock_page}
use Rattle.std.specs.Prelude.{Result, Ok, Err}
use Rattle.image.specs.Layout.{four_of, low_first_four, four_at, bytes_of, Fits}
use Rattle.screen.specs.Blocks.{Found, counted, block, walk}
use Rattle.screen.specs.Reading.{is_reading, second_in, watts_in, verdict_at}
use Rattle.screen.specs.Screen.{reads, reading_seen, found_seen, user_bytes, seen}
use Rattle.screen.specs.declared.reading.Verdict.{Verdict}
use Rattle.screen.proofs.Kept as screen
use Rattle.logger.specs.Writer.{reading_of, block_of, Written, written, answer_number}
use Rattle.logger.specs.declared.ShortArea.{ShortArea}
use Rattle.logger.specs.Promises.{written_at04, ReadBack, Alike, Promises}
use Rattle.logger.specs.Examples.{Examples}
use Rattle.logger.proofs.Writing.{block_length}

-- ---- a reading's bytes, and what the screen makes of them

four_back : (n : ℕ) → low_first_four (four_of n) ≡ n
unfolding low_first_four four_of
four_back n = omega arith

-- the numbers stand behind 03h 0Bh, whatever comes behind the block
module _ (second watts : ℕ) (more : List ℕ) where
  second_back : second_in (drop 2 (block_of second watts ++ more)) ≡ second
  unfolding block_of reading_of bytes_of four_at
  second_back = four_back second

  watts_back : watts_in (drop 2 (block_of second watts ++ more)) ≡ watts
  unfolding block_of reading_of bytes_of four_at
  watts_back = four_back watts

  walked : walk (block_of second watts ++ more) ≡ Ok (reading_of second watts)
  unfolding block counted block_of reading_of bytes_of
  walked = (screen.block_by_block).goes (block_of second watts ++ more) ∙ rw (le-leb 11 (length ((reading_of second watts ++ (0xFE ∷ [])) ++ more)) (omega arith))

reading_seen_lem : (second watts present : ℕ) → reading_seen (reading_of second watts) present ≡ reads (verdict_at present second) watts second
unfolding reading_seen is_reading reading_of bytes_of four_at
reading_seen_lem second watts present = rw (four_back second, four_back watts)

-- an image that has a reading's fourteen bytes at page 04h
module _ (n second watts : ℕ) (img : List ℕ) (f : Fits n img) (e : take 14 (drop (4 * 0x04) img) ≡ block_of second watts) where
  abbrev room : ℕ
  room = 4 * lock_page n - 4 * 0x04

  abbrev behind : List ℕ
  behind = drop 14 (drop (4 * 0x04) img)

  user_bytes_lem : user_bytes n img ≡ block_of second watts ++ take (room - 14) behind
  unfolding user_bytes
  user_bytes_lem =
      let whole : drop (4 * 0x04) img ≡ block_of second watts ++ behind = sym (take-append-drop 14 (drop (4 * 0x04) img)) ∙ ap (λ (l : List ℕ). l ++ behind) e in
      let many : room ≡ length (block_of second watts) + (room - 14) = omega (arith, f.least, block_length second watts) in
      ap (take room) whole ∙ ap (λ (k : ℕ). take k (block_of second watts ++ behind)) many ∙ take-append-add (block_of second watts) behind (room - 14)

  any_second : (present : ℕ) → seen img present ≡ reads (verdict_at present second) watts second
  any_second present =
      screen.seen_there n img f present
      ∙ ap (λ (l : List ℕ). found_seen (walk l) present) user_bytes_lem
      ∙ ap (λ (w : Found). found_seen w present) (walked second watts (take (room - 14) behind))
      ∙ reading_seen_lem second watts present

  pub read_back : ReadBack img second watts
  read_back = record {
    any = any_second;
    live = λ age h. any_second (second + age) ∙ said ((screen.promises).ages.live second age h);
    old = λ age h. any_second (second + age) ∙ said ((screen.promises).ages.old second age h);
    ahead = λ present h. any_second present ∙ said ((screen.promises).ages.ahead present second h);
  }
    where
      said : {v v' : Verdict} → v ≡ v' → reads v watts second ≡ reads v' watts second
      said h = ap (λ (v : Verdict). reads v watts second) h

-- ---- the area that is left

module _ (second watts : ℕ) (area : List ℕ) where
  taken : 14 ≤ length area → (written second watts area).area ≡ block_of second watts ++ drop 14 area
  unfolding written
  taken h = rw (le-ltb (length area) 14 h)

  all_written : length area ≡ 14 → written second watts area ≡ record { refused = 0; area = block_of second watts }
  unfolding written
  all_written h =
      rw (le-ltb (length area) 14 (omega arith), drop_of_length-le area {i = 14} (omega arith), append-nil (block_of second watts))

  none_written : length area < 14 → written second watts area ≡ record { refused = 23; area = area }
  unfolding written
  none_written h = rw (lt-ltb (length area) 14 h)

  same_length : length (written second watts area).area ≡ length area
  unfolding written
  same_length =
      by (λ (w : Written). length w.area ≡ length area) (ltb (length area) 14) (λ _. refl)
      (λ h. length-append (block_of second watts) (drop 14 area) ∙ rw (block_length second watts, length-drop) (omega (arith, ltb-false (length area) 14 h)))

  same_rest : (i : ℕ) → 14 ≤ i → get_or (written second watts area).area i 0 ≡ get_or area i 0
  unfolding written
  same_rest i h =
      by (λ (w : Written). get_or w.area i 0 ≡ get_or area i 0) (ltb (length area) 14) (λ _. refl) (λ _.
      let p : i ≡ length (block_of second watts) + (i - 14) = omega (arith, block_length second watts) in
      let q : 14 + (i - 14) ≡ i = omega arith in
      ap (λ (j : ℕ). get_or (block_of second watts ++ drop 14 area) j 0) p
      ∙ get_or-append-add (block_of second watts) (drop 14 area) (i - 14) 0
      ∙ get_or-drop 14 area (i - 14) 0
      ∙ ap (λ (j : ℕ). get_or area j 0) q)

-- ---- written at page 04h

module _ (n k second watts : ℕ) (img : List ℕ) (f : Fits n img) (some : 14 ≤ k) (within : 4 * 0x04 + k ≤ length img) where
  abbrev lent : List ℕ
  lent = take k (drop (4 * 0x04) img)

  abbrev left : List ℕ
  left = (written second watts lent).area

  abbrev after : List ℕ
  after = drop k (drop (4 * 0x04) img)

  front_length : length (take (4 * 0x04) img) ≡ 4 * 0x04
  front_length = length-take-le (4 * 0x04) img (omega arith)

  lent_length : length lent ≡ k
  lent_length = length-take-le k (drop (4 * 0x04) img) (rw (length-drop (4 * 0x04) img) (omega arith))

  still_fits : Fits n (written_at04 k second watts img)
  still_fits = record { size = f.size; least = f.least; most = f.most; whole = many ∙ f.whole }
    where
      many : length (written_at04 k second watts img) ≡ length img
      many =
          length-append (take (4 * 0x04) img) (left ++ after)
          ∙ rw (length-append left after, front_length, same_length second watts lent, lent_length, length-drop k (drop (4 * 0x04) img), length-drop (4 * 0x04) img) (omega arith)

  there : take 14 (drop (4 * 0x04) (written_at04 k second watts img)) ≡ block_of second watts
  there =
      ap (take 14) (drop_at (take (4 * 0x04) img) (left ++ after) (4 * 0x04) front_length)
      ∙ ap (λ (l : List ℕ). take 14 (l ++ after)) (taken second watts lent (omega (arith, lent_length)))
      ∙ ap (take 14) (append_assoc (block_of second watts) (drop 14 lent) after)
      ∙ take_at (block_of second watts) (drop 14 lent ++ after) 14 (block_length second watts)

-- ---- the number of a result

told_apart : (r r' : Result Unit ShortArea) → answer_number r ≡ answer_number r' → r ≡ r'
told_apart (Ok done) (Ok done') e = refl
told_apart (Ok done) (Err refusal) e = absurd (omega (arith, e))
told_apart (Err refusal) (Ok done) e = absurd (omega (arith, e))
told_apart (Err refusal) (Err refusal') e = refl

alike : Alike
alike = record {
  results = λ due r r' after after' w w'. (told_apart r r' (w.refused ∙ sym w'.refused), w.area ∙ sym w'.area);
  numbers = λ due r r' after after' w w'. (w.refused ∙ sym w'.refused, w.area ∙ sym w'.area);
  done = refl;
  refused = λ refusal. refl;
}

-- ---- the theorems

pub promises : Promises
promises = record {
  read_back = λ n k second watts img f some within. read_back n second watts (written_at04 k second watts img) (still_fits n k second watts img f some within) (there n k second watts img f some within);
  standing = read_back;
  unequal = λ second watts second' watts' area area' h h' e.
      let same = sym (taken second watts area h) ∙ e ∙ taken second' watts' area' h' in (
        sym (second_back second watts (drop 14 area)) ∙ ap (λ (l : List ℕ). second_in (drop 2 l)) same ∙ second_back second' watts' (drop 14 area'),
        sym (watts_back second watts (drop 14 area)) ∙ ap (λ (l : List ℕ). watts_in (drop 2 l)) same ∙ watts_back second' watts' (drop 14 area'),
      );
  exact = all_written;
  short = none_written;
  rest = λ second watts i area. same_rest second watts area i;
  long = same_length;
  alike = alike;
}

-- each by computing both sides
pub examples : Examples
unfolding block_of reading_of bytes_of four_of written
examples = record { same = refl; each_byte = refl; largest = refl; exact_room = refl; two_more = refl; one_short = refl; none = refl }
