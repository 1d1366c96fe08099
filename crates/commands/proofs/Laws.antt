-- What the proofs of WRITE and GET_VERSION stand on, and what the definitions of WRITE and PWD_AUTH come to in one case. Assumes nothing.
use mathlib.Core.Path.{◌≡◌, refl, sym, ap, ◌∙◌}
use mathlib.Core.List.{List, [], ◌∷◌}
use mathlib.Core.Bool.{Bool, true, false, ◌||◌, or-true}
use Prim.Native.Nat.{ℕ, ◌+◌, ◌<◌}
use lib.Dec.{leb}
use lib.ListN.{set}
use borrow.Author.Tests.{leb-false, leb-true, ne_eqb}
use Rattle.basics.proofs.Choice.{never, split}
use Rattle.image.specs.declared.layout.Region.{Region}
use Rattle.image.specs.Layout.{page_at, store}
use Rattle.image.specs.Settings.{authlim}
use Rattle.image.specs.Tail.{failed, with_failed}
use Rattle.image.proofs.Laws.{outside}
use Rattle.tag.specs.declared.state.Tag.{Tag}
use Rattle.tag.specs.declared.outcome.Step.{Step}
use Rattle.tag.specs.Outcome.{over, keep, apply, Did, Says}
use Rattle.tag.proofs.Laws.{said}
use Rattle.commands.specs.Commands.{under_password, refuses_in, refuses, size_code, version, failing, wrong_counted}

-- a page under password is refused
pub refuses_guarded : (n : ℕ) (img : List ℕ) (t : Tag) (p : ℕ) (b : Bool) → b ≡ under_password n img t p → b ≡ true → true ≡ refuses n img t p
unfolding refuses
refuses_guarded n img t p b e h = simp (← e, h)

-- a page that isn't refused is one of the n
pub not_refused : (n : ℕ) (img : List ℕ) (t : Tag) (p : ℕ) (b : Bool) → b ≡ refuses n img t p → b ≡ false → p < n
unfolding refuses
not_refused n img t p b e h =
    split (leb n p)
    (λ f. never (sym (or-true (under_password n img t p)) ∙ ap (λ (r : Region). under_password n img t p || refuses_in r n img p) (outside n p (leb-true n p f)) ∙ sym e ∙ h))
    (λ f. leb-false n p f)

-- the size byte is set after the fixed bytes were laid
pub version_done : (n : ℕ) (t : Tag) (r : Step) (before mid whole after : List ℕ)
    → mid ≡ over (0x00 ∷ 0x1D ∷ 0x04 ∷ 0x01 ∷ 0x01 ∷ 0x00 ∷ 0x00 ∷ 0x03 ∷ []) before → whole ≡ set mid 6 (size_code n) → Says 8 t r whole after
    → (img : List ℕ) → Did (version n t) r img img before after
unfolding version apply over
version_done n t r before mid whole after em es s img =
    let bs : List ℕ = 0x00 ∷ 0x1D ∷ 0x04 ∷ 0x01 ∷ 0x01 ∷ 0x00 ∷ size_code n ∷ 0x03 ∷ [] in
    said bs keep t r 8 img img before whole after refl (es ∙ ap (λ (l : List ℕ). set l 6 (size_code n)) em) s refl

-- where there is a limit a wrong password adds one to the failed count
pub wrong_counted_lem : (n : ℕ) (img : List ℕ) (limit : ℕ) → (limit ≡ authlim n img) × (limit < 8) → (k : ℕ) (image' : List ℕ) → (limit ≡ 0 → ⊥) → k ≡ failed n img
    → image' ≡ store img n (with_failed (k + 1) (page_at img n)) → image' ≡ apply img (wrong_counted n img)
unfolding wrong_counted failing apply
wrong_counted_lem n img limit e k image' ne f h = rw (← e.0, ne_eqb limit 0 ne, ← f) h
