-- What one change of the image keeps, and what one input keeps, of our tag. Assumes nothing.
use mathlib.Core.Path.{◌≡◌, refl, sym, ap, ◌∙◌}
use mathlib.Core.List.{List}
use mathlib.Core.Bool.{true, false, cond, or-true}
use Prim.Native.Nat.{ℕ, ◌≤◌, ◌<◌}
use native.Mathlib.Nat.{le_refl}
use native.Mathlib.Omega.{arith}
use lib.Dec.{eqb, leb}
use lib.ListN.{length}
use borrow.Author.Tests.{eqb-true, eqb-false, leb-true, leb-false, le-leb}
use Rattle.basics.proofs.Choice.{never, split}
use Rattle.image.specs.declared.layout.Four.{Four}
use Rattle.image.specs.declared.layout.Region.{Region}
use Rattle.image.specs.declared.layout.Region.TheVariants.{User, Settings}
use Rattle.std.specs.Prelude.{Option, Some, None}
use Rattle.image.specs.Layout.{Fits, size_of, page_at, second_settings, pwd_page, region_of}
use Rattle.image.specs.Settings.{auth0, settings_locked}
use Rattle.image.specs.Write.{locked, written, write, NoneCleared}
use Rattle.image.specs.Tail.{counter}
use Rattle.image.proofs.Laws.{outside, in_settings, replaced, fits}
use Rattle.image.proofs.Stored.{page_same, page_other}
use Rattle.image.proofs.Kept.{write_keeps, store_keeps, none_cleared_self}
use Rattle.tag.specs.declared.state.Tag.{Tag}
use Rattle.tag.specs.State.{field_off, authenticated}
use Rattle.tag.specs.Outcome.{Reply, Effect, apply}
use Rattle.commands.specs.Commands.{under_password, refuses_in, refuses}
use Rattle.commands.proofs.Laws.{not_refused}
use Rattle.active.specs.declared.Command.{Command}
use Rattle.tag.specs.Record.{tag_of, field_loss}
use Rattle.radio.specs.Call.{refusal, called_at, called}
use Rattle.tag.proofs.Laws.{length_apply}
use Rattle.tag.proofs.Recorded.{read_again}
use Rattle.runs.specs.Run.{Input, sent, lost, ours, Kept, next}
use Rattle.runs.specs.Seen.{acks, data_for, new_for, offers}
use Rattle.runs.proofs.Change.{Change, kept, stored, tailed, call_step}

-- ---- which pages a WRITE is refused

refused_in : (n : ℕ) (img : List ℕ) (t : Tag) (p : ℕ) (r : Region) → region_of n p ≡ r → refuses_in r n img p ≡ true → refuses n img t p ≡ true
unfolding refuses
refused_in n img t p r e h = rw (e, h) (or-true (under_password n img t p))

refuses_settings : (n : ℕ) (img : List ℕ) (t : Tag) → Fits n img → settings_locked n img ≡ true → refuses n img t (second_settings n) ≡ true
refuses_settings n img t fit l =
    let least = fit.least in
    refused_in n img t (second_settings n) Settings (sym (in_settings n (second_settings n) 3 (omega arith) (omega arith) (omega arith) (omega arith) (omega arith))) l

refuses_protected : (n : ℕ) (img : List ℕ) (t : Tag) (p : ℕ) → authenticated t ≡ false → auth0 n img ≤ p → refuses n img t p ≡ true
unfolding refuses under_password
refuses_protected n img t p a l = rw (le-leb (auth0 n img) p l, a)

user_within : (n p : ℕ) → region_of n p ≡ User → p < n
user_within n p u = split (leb n p) (λ e. let o = outside n p (leb-true n p e) in let z : ◌≡◌ {A = ℕ} 0 1 = cc in absurd (omega arith)) (λ e. leb-false n p e)

-- ---- one change

module _ {n : ℕ} {img : List ℕ} {t : Tag} {c : Option Command} {o : Reply} {e : Effect} (fit : Fits n img) where
  -- a page to which a WRITE is refused stays
  page_kept : Change n img t c o e → (p : ℕ) → p < n → refuses n img t p ≡ true → page_at (apply img e) p ≡ page_at img p
  unfolding apply
  page_kept (kept q y) p l h = rw q
  page_kept (stored a d w r y q) p l h = rw q (page_other img a p _ (λ z. never (sym h ∙ rw z r)))
  page_kept (tailed v m y q) p l h = rw q (page_other img n p v (λ z. omega arith))

  clears_none : Change n img t c o e → NoneCleared n img (apply img e)
  unfolding apply write
  clears_none (kept q y) = rw q (none_cleared_self n img)
  clears_none (stored a d w r y q) = let l = not_refused n img t a _ refl r in rw q (write_keeps n img fit a (omega arith) d)
  clears_none (tailed v m y q) = let least = fit.least in rw q (store_keeps n img n v (λ z. omega arith) (λ z. omega arith) (λ z. omega arith))

  counter_after : Change n img t c o e → counter n img ≤ counter n (apply img e)
  unfolding apply counter
  counter_after (kept q y) = rw q (le_refl _)
  counter_after (stored a d w r y q) = let l = not_refused n img t a _ refl r in rw (q, page_other img a n (written n a (page_at img a) d) (λ z. omega arith)) (le_refl _)
  counter_after (tailed v m y q) = let whole = fit.whole in rw (q, page_same img n v (omega arith)) m

  -- a user page holds what was acknowledged, else what it held
  user_after : Change n img t c o e → (p : ℕ) → region_of n p ≡ User → page_at (apply img e) p ≡ cond (acks o) (data_for p (page_at img p) c) (page_at img p)
  unfolding apply data_for
  user_after (kept q y) p u = rw q (split (acks o) (λ h. rw h (sym (y h p (page_at img p)))) (λ h. rw h))
  user_after (stored a d w r y q) p u =
      rw (q, y, w) (split (eqb a p)
      (λ h. let s = eqb-true a p h in let l = not_refused n img t a _ refl r in let whole = fit.whole in
      rw (h, s) (page_same img p (written n p (page_at img p) d) (omega arith) ∙ replaced n p (page_at img p) d u))
      (λ h. rw h (page_other img a p (written n a (page_at img a) d) (λ z. eqb-false a p h (sym z)))))
  user_after (tailed v m y q) p u = let l = user_within n p u in rw (q, y) (page_other img n p v (λ z. omega arith))

-- ---- one input

-- from k to k' by the input i, on an image of n pages
pub record InputKeeps (n : ℕ) (k : Kept) (i : Input) (k' : Kept) : Type 0 where
  pub size : size_of (length k'.image) ≡ Some n
  pub user : (p : ℕ) → region_of n p ≡ User → page_at k'.image p ≡ new_for ours p k i (page_at k.image p)
  pub cleared : NoneCleared n k.image k'.image
  pub settings : settings_locked n k.image ≡ true → settings_locked n k'.image ≡ true
  pub counted : counter n k.image ≤ counter n k'.image
  pub shut : (p : ℕ) → region_of n p ≡ User → locked n k.image p ≡ true → page_at k'.image p ≡ page_at k.image p
  pub guarded : authenticated (tag_of k.rec) ≡ false → (p : ℕ) → auth0 n k.image ≤ p → p < n → page_at k'.image p ≡ page_at k.image p
  pub out : authenticated (tag_of k.rec) ≡ false → offers (page_at k.image (pwd_page n)) i ≡ false → authenticated (tag_of k'.rec) ≡ false

pub input_keeps : (n : ℕ) (k : Kept) (i : Input) → size_of (length k.image) ≡ Some n → InputKeeps n k i (next ours k i)
unfolding next new_for page_at field_loss field_off
input_keeps n k (sent f) size =
    let img = k.image in
    let t = tag_of k.rec in
    let s = call_step n img k.rec f size in
    let c = s.change in
    let fit = fits n img size in
    let least = fit.least in
    record {
      size = rw (length_apply img _) size;
      user = user_after fit c;
      cleared = clears_none fit c;
      settings = λ h. rw (ap (λ (v : Four). v.b0) (page_kept fit c (second_settings n) (omega arith) (refuses_settings n img t fit h))) h;
      counted = counter_after fit c;
      shut = λ p u h. page_kept fit c p (user_within n p u) (refused_in n img t p User u h);
      guarded = λ a p h l. page_kept fit c p l (refuses_protected n img t p a h);
      out = s.auth;
    }
input_keeps n k lost size = record {
  size = size;
  user = λ p u. refl;
  cleared = none_cleared_self n k.image;
  settings = λ h. h;
  counted = le_refl _;
  shut = λ p u h. refl;
  guarded = λ a p h l. refl;
  out = λ a q. ap authenticated (read_again field_off);
}

-- an image whose length has no size is refused at every call, and stays
pub unsized_keeps : (k : Kept) (i : Input) → size_of (length k.image) ≡ None → (next ours k i).image ≡ k.image
unfolding next ours called called_at refusal apply
unsized_keeps k (sent f) size = rw size
unsized_keeps k lost size = refl
