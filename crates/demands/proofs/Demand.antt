-- Demand 3, by the one induction over a run from what one input keeps. Assumes nothing.
use mathlib.Core.Path.{◌≡◌, refl, ap, ◌∙◌}
use mathlib.Core.List.{List, [], ◌∷◌}
use mathlib.Core.Bool.{true, false, not}
use Prim.Native.Nat.{ℕ, ◌≤◌, ◌<◌}
use native.Mathlib.Nat.{le_refl, le_trans}
use native.Mathlib.Omega.{arith}
use lib.ListN.{length}
use Rattle.basics.proofs.Choice.{and_left, and_right, not_true}
use Rattle.image.specs.declared.layout.Four.{Four}
use Rattle.image.specs.declared.layout.Region.TheVariants.{User}
use Rattle.std.specs.Prelude.{Option, Some, None}
use Rattle.image.specs.Layout.{size_of, page_at, first_settings, pwd_page, region_of}
use Rattle.image.specs.Settings.{auth0, settings_locked}
use Rattle.image.specs.Write.{locked, NoneCleared}
use Rattle.image.specs.Tail.{counter}
use Rattle.image.proofs.Laws.{fits}
use Rattle.image.proofs.Kept.{none_cleared_self, none_cleared_trans, stays_locked}
use Rattle.tag.specs.State.{field_off, authenticated}
use Rattle.tag.specs.Record.{tag_of}
use Rattle.tag.proofs.Recorded.{read_again}
use Rattle.runs.specs.Run.{Input, Call, ours, Meets2, Kept, from_off, next, at_end, image_after}
use Rattle.runs.specs.Seen.{last_written, offers, none_offers}
use Rattle.runs.proofs.Induction.{along, parts, of_any}
use Rattle.runs.proofs.Keeps.{input_keeps, unsized_keeps}
use Rattle.demands.specs.Demand.{Demand3, Holds, Keeps3}

-- ---- at k, after some inputs of a run that began at start, with the inputs is to come

-- no password was offered, and the pages from AUTH0 on are as they were
record Guarded (n : ℕ) (img : List ℕ) (k : Kept) (is : List Input) : Type 0 where
  out : authenticated (tag_of k.rec) ≡ false
  none : none_offers (page_at img (pwd_page n)) is ≡ true
  same : (p : ℕ) → auth0 n img ≤ p → p < n → page_at k.image p ≡ page_at img p

-- demand 3 so far
record SoFar (n : ℕ) (start : Kept) (run : List Input) (k : Kept) (is : List Input) : Type 0 where
  size : size_of (length k.image) ≡ Some n
  user : (p : ℕ) → region_of n p ≡ User → last_written ours p k is (page_at k.image p) ≡ last_written ours p start run (page_at start.image p)
  cleared : NoneCleared n start.image k.image
  settings : settings_locked n start.image ≡ true → settings_locked n k.image ≡ true
  counted : counter n start.image ≤ counter n k.image
  shut : (p : ℕ) → region_of n p ≡ User → locked n start.image p ≡ true → page_at k.image p ≡ page_at start.image p
  guarded : auth0 n start.image ≤ first_settings n → Guarded n start.image start run → Guarded n start.image k is

guarded_next : (n : ℕ) (img : List ℕ) (k : Kept) (i : Input) (is : List Input) → size_of (length k.image) ≡ Some n → auth0 n img ≤ first_settings n
    → Guarded n img k (i ∷ is) → Guarded n img (next ours k i) is
unfolding none_offers
guarded_next n img k i is size early g =
    let s = input_keeps n k i size in
    let least = (fits n k.image size).least in
    let pwd = page_at img (pwd_page n) in
    let same_auth0 : auth0 n k.image ≡ auth0 n img = unfold page_at in ap (λ (v : Four). v.b3) (g.same (first_settings n) early (omega arith)) in
    let same_pwd : page_at k.image (pwd_page n) ≡ pwd = g.same (pwd_page n) (omega arith) (omega arith) in
    record {
      out = s.out g.out (rw same_pwd (not_true (offers pwd i) (and_left (not (offers pwd i)) _ g.none)));
      none = and_right (not (offers pwd i)) _ g.none;
      same = λ p h l. s.guarded g.out p (rw same_auth0 h) l ∙ g.same p h l;
    }

module _ (n : ℕ) (start : Kept) (size : size_of (length start.image) ≡ Some n) (run : List Input) where
  so_far_next : (k : Kept) (i : Input) (is : List Input) → SoFar n start run k (i ∷ is) → SoFar n start run (next ours k i) is
  unfolding last_written
  so_far_next k i is h =
      let s = input_keeps n k i h.size in
      record {
        size = s.size;
        user = λ p u. rw (s.user p u) (h.user p u);
        cleared = none_cleared_trans n _ _ _ h.cleared s.cleared;
        settings = λ e. s.settings (h.settings e);
        counted = le_trans h.counted s.counted;
        shut = λ p u l. s.shut p u (stays_locked n start.image k.image p (fits n start.image size) h.cleared l) ∙ h.shut p u l;
        guarded = λ early g. guarded_next n start.image k i is h.size early (h.guarded early g);
      }

  so_far : SoFar n start run (at_end ours start run) []
  so_far = along ours (SoFar n start run) so_far_next run start (record {
    size = size;
    user = λ p u. refl;
    cleared = none_cleared_self n start.image;
    settings = λ h. h;
    counted = le_refl _;
    shut = λ p u l. refl;
    guarded = λ early g. g;
  })

-- ---- DEMAND 3

sized : (n : ℕ) (img : List ℕ) (run : List Input) → size_of (length img) ≡ Some n → Demand3 ours n img run
unfolding image_after from_off last_written field_off
sized n img run size =
    let start = from_off img in
    let h = so_far n start size run in
    record {
      user_pages = h.user;
      none_cleared = h.cleared;
      settings_lock = h.settings;
      counter_kept = h.counted;
      locked_stays = λ before later e p u l.
          rw (← e) (ap (λ (k : Kept). page_at k.image p) (parts ours before later start)
          ∙ (so_far n (at_end ours start before) (so_far n start size before).size later).shut p u l);
      protected_stays = λ early none. (h.guarded early (record { out = ap authenticated (read_again field_off); none = none; same = λ p h l. refl })).same;
    }

unsized : (img : List ℕ) (run : List Input) → size_of (length img) ≡ None → image_after ours img run ≡ img
unfolding image_after from_off
unsized img run size = along ours (λ k _. k.image ≡ img) (λ k i is h. unsized_keeps k i (rw h size) ∙ h) run (from_off img) refl

pub ours_keeps : Keeps3 ours
ours_keeps img run = all (size_of (length img)) refl
  where
    all : (s : Option ℕ) → size_of (length img) ≡ s → Holds s ours img run
    all (Some n) e = unfold Holds in sized n img run e
    all None e = unfold Holds in unsized img run e

pub demand3 : (call : Call) → Meets2 call → Keeps3 call
demand3 = of_any Keeps3 ours_keeps
