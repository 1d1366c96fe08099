-- What the mirror means for a reader. Assumes nothing.
use mathlib.Core.Path.{◌≡◌, refl, sym, ap, ◌∙◌}
use mathlib.Core.Logic.{◌≢◌}
use mathlib.Core.List.{List}
use mathlib.Core.Bool.{Bool, true, false, cond, ◌&&◌, ◌||◌}
use Prim.Native.Nat.{ℕ, zero, suc, ◌+◌, ◌-◌, ◌*◌, ◌/◌, ◌%◌, ◌≤◌, ◌<◌}
use native.Mathlib.Nat.{le_of_suc-le-suc, not-suc-le-zero}
use native.Mathlib.Omega.{arith}
use Rattle.std.specs.Prelude.{Option, Some, None, IfSome, option_and_then}
use lib.Dec.{leb, ltb}
use lib.ListN.{get_or}
use borrow.Author.Tests.{lt-ltb, le-leb, leb-true, ltb-true}
use Rattle.basics.proofs.Choice.{by, and_left, and_right}
use Rattle.locks.specs.Locks.{lock_page}
use Rattle.image.specs.declared.layout.Four.{Four}
use Rattle.image.specs.declared.layout.Region.TheVariants.{User}
use Rattle.image.specs.declared.mirror.Mirror.{Mirror}
use Rattle.image.specs.Layout.{Fits, page_at, first_settings, second_settings, region_of}
use Rattle.image.specs.Settings.{auth0, access, count_readable}
use Rattle.image.specs.Shown.{shown}
use Rattle.image.specs.Mirror.{wanted, text, allowed, mirror_for, replaced, through}
use Rattle.image.proofs.Laws.{in_user}
use Rattle.image.proofs.Stored.{page_same, page_other}
use Rattle.tag.specs.declared.state.Tag.{Tag}
use Rattle.tag.specs.State.{authenticated}
use Rattle.tag.specs.Outcome.{build, bits_of, Does, nak, says}
use Rattle.reads.specs.Read.{bound, seen, page_byte, pages_by, pages_from, counting, read_answered, read, fast_read}
use Rattle.reads.specs.Mirrored.{none, without, Alike, Mirrored, Untouched}
use Rattle.reads.proofs.Laws.{length_pages, unmirrored_pages}

get_build : (f : ℕ → ℕ) (k j : ℕ) → j < k → get_or (build f k) j 0 ≡ f j
get_build f zero j l = absurd (not-suc-le-zero l)
get_build f (suc k) zero l = refl
get_build f (suc k) (suc j) l = get_build (λ i. f (suc i)) k j (le_of_suc-le-suc l)

-- ---- where a mirror lies

module _ (n : ℕ) (img : List ℕ) (a : Bool) where
  wanted_lies : (w : Mirror) → (i : ℕ) → i < w.length → allowed n img a w ≡ true → region_of n ((w.start + i) / 4) ≡ User
  unfolding allowed
  wanted_lies w i l h =
      let above = leb 16 w.start in
      let below = leb (w.start + w.length) (4 * lock_page n) in
      let may = leb (w.from + w.length) 15 || count_readable n img a in
      let first : 16 ≤ w.start = leb-true _ _ (and_left above (below && may) h) in
      let last : w.start + w.length ≤ 4 * lock_page n = leb-true _ _ (and_left below may (and_right above (below && may) h)) in
      let p = (w.start + i) / 4 in
      sym (in_user n p (n - p) (omega arith) (omega arith) (omega arith) (omega arith) (omega arith) (λ e. omega arith))

  lies : (o : Option Mirror) → IfSome (option_and_then (λ m. cond (allowed n img a m) (Some m) None) o) (λ w. (i : ℕ) → i < w.length → region_of n ((w.start + i) / 4) ≡ User)
  lies None = tt
  lies (Some w) =
      by (λ (o : Option Mirror). IfSome o (λ w. (i : ℕ) → i < w.length → region_of n ((w.start + i) / 4) ≡ User)) (allowed n img a w)
      (λ h i l. wanted_lies w i l h) (λ _. tt)

  in_user_pages_lem : IfSome (mirror_for n img a) (λ w. (i : ℕ) → i < w.length → region_of n ((w.start + i) / 4) ≡ User)
  unfolding mirror_for
  in_user_pages_lem = lies (wanted (page_at img (first_settings n)))

-- ---- through it

module _ (n : ℕ) (img : List ℕ) (p k : ℕ) where
  inside : (m : Mirror) (i : ℕ) → i < m.length → 4 * p + k ≡ m.start + i → through n img (Some m) p k ≡ get_or (text n img) (m.from + i) 0
  unfolding through replaced
  inside m i l e =
      let d : m.start + i - m.start ≡ i = omega arith in
      rw (e, le-leb m.start (m.start + i) (omega arith), lt-ltb (m.start + i) (m.start + m.length) (omega arith), d)

  outside : (o : Option Mirror) → IfSome o (λ m. (i : ℕ) → i < m.length → 4 * p + k ≢ m.start + i) → through n img o p k ≡ shown n img p k
  unfolding through replaced
  outside None h = refl
  outside (Some m) h =
      let j = 4 * p + k in
      let from_start = leb m.start j in
      let before_end = ltb j (m.start + m.length) in
      by (λ (x : ℕ). x ≡ shown n img p k) (from_start && before_end)
      (λ both.
      let l : m.start ≤ j = leb-true _ _ (and_left from_start before_end both) in
      let r : j < m.start + m.length = ltb-true _ _ (and_right from_start before_end both) in
      absurd (h (j - m.start) (omega arith) (omega arith)))
      (λ _. refl)

module _ (n : ℕ) (img : List ℕ) (t : Tag) where
  at : (a b count j : ℕ) → j < 4 * count → get_or (pages_from n img t a b count) j 0 ≡ through n img (mirror_for n img (authenticated t)) ((a + j / 4) % b) (j % 4)
  unfolding pages_by page_byte seen
  at a b count j l = get_build _ (4 * count) j l

  character_lem : (o : Option Mirror) → o ≡ mirror_for n img (authenticated t)
      → IfSome o (λ w. (a b count i j : ℕ) → j < 4 * count → i < w.length → 4 * ((a + j / 4) % b) + j % 4 ≡ w.start + i
      → get_or (pages_from n img t a b count) j 0 ≡ get_or (text n img) (w.from + i) 0)
  character_lem None e = tt
  character_lem (Some w) e = λ a b count i j l h p. at a b count j l ∙ ap (λ (o : Option Mirror). through n img o ((a + j / 4) % b) (j % 4)) (sym e) ∙ inside n img ((a + j / 4) % b) (j % 4) w i h p

  pub mirrored : Mirrored n img t
  unfolding seen
  mirrored = record {
    in_user_pages = in_user_pages_lem n img (authenticated t);
    character = character_lem _ refl;
    other = λ a b count j l h. at a b count j l ∙ outside n img ((a + j / 4) % b) (j % 4) _ h;
    as_before = λ e a b count. sym (unmirrored_pages n a b count img t (rw e tt));
  }

-- ---- the rest of a READ

module _ (n : ℕ) (img : List ℕ) (t : Tag) (fit : Fits n img) where
  first_settings_lem : page_at (without n img) (first_settings n) ≡ none (page_at img (first_settings n))
  unfolding without
  first_settings_lem = page_same img (first_settings n) _ (rw fit.whole (omega (arith, fit.least)))

  others : (p : ℕ) → p ≢ first_settings n → page_at (without n img) p ≡ page_at img p
  unfolding without
  others p d = page_other img (first_settings n) p _ d

  same_auth0 : auth0 n (without n img) ≡ auth0 n img
  unfolding none page_at
  same_auth0 = ap (λ (v : Four). v.b3) first_settings_lem

  same_access : access n (without n img) ≡ access n img
  unfolding page_at
  same_access = ap (λ (v : Four). v.b0) (others (second_settings n) (λ e. omega (arith, fit.least)))

  same_bound : bound n img t ≡ bound n (without n img) t
  unfolding bound
  same_bound = rw (same_auth0, same_access)

  same_counting : counting n img t ≡ counting n (without n img) t
  unfolding counting
  same_counting = rw (same_access, others n (λ e. omega (arith, fit.least)))

  answered_alike : (a b count : ℕ) → Alike (read_answered n img t a b count) (read_answered n (without n img) t a b count)
  unfolding read_answered says bits_of
  answered_alike a b count = record {
    effect = same_counting;
    tag = refl;
    bits = ap (λ (k : ℕ). 8 * (k + 2)) (length_pages _ a b count ∙ sym (length_pages _ a b count));
  }

  either : (test : Bool) (o o' naks : Does) → Alike o o' → Alike (cond test o naks) (cond test o' naks)
  either true o o' naks h = h
  either false o o' naks h = record { effect = refl; tag = refl; bits = refl }

  pub untouched : Untouched n img t
  unfolding read fast_read
  untouched = record {
    read = λ a. rw (← same_bound) (either (ltb a (bound n img t)) _ _ (nak t 0) (answered_alike a (bound n img t) 4));
    fast_read = λ s e. rw (← same_bound) (either (leb s e && ltb e (bound n img t)) _ _ (nak t 0) (answered_alike s (bound n img t) (e + 1 - s)));
  }
