-- Pages laid into the answer, and the mirror over them. Assumes nothing.
use mathlib.Core.Path.{◌≡◌, refl, sym, ap, ap₂, ◌∙◌}
use mathlib.Core.List.{List, [], ◌∷◌, ◌++◌}
use mathlib.Core.Bool.{Bool, false, ◌&&◌}
use Prim.Native.Nat.{ℕ, zero, suc, ◌+◌, ◌*◌, ◌/◌, ◌%◌, ◌≤◌, ◌<◌}
use native.Mathlib.Nat.{mod-add-mod}
use native.Mathlib.Omega.{arith}
use lib.Dec.{leb, ltb}
use lib.ListN.{length, set, drop}
use lib.Seq.{sets, length-sets, drop_at}
use borrow.Author.Tests.{le-ltb, lt-leb, leb-true, ltb-true}
use Rattle.std.specs.Prelude.{Option, Some, None, IfSome}
use Rattle.image.specs.Layout.{bytes_of}
use Rattle.image.specs.Mirror.{is_chosen, mirror_for, replaced, through}
use Rattle.image.specs.declared.mirror.Mirror.{Mirror}
use Rattle.image.specs.Shown.{shown}
use Rattle.basics.proofs.Choice.{by, and_left, and_right, flag}
use Rattle.image.proofs.Mirroring.{not_chosen}
use Rattle.tag.specs.declared.state.Tag.{Tag}
use Rattle.tag.specs.declared.outcome.Step.{Step}
use Rattle.tag.specs.State.{authenticated, answering}
use Rattle.tag.specs.Outcome.{build, over, apply, Did, Says, answer_room}
use Rattle.tag.proofs.Laws.{length_build, laid, laid_suc, Naks, said}
use Rattle.reads.specs.Read.{bound, seen, page_byte, page_by, pages_by, pages_from, counting, read_answered, read, fast_read, Lays, Counts, Covers}

-- ---- a list that is built into the front of a buffer

-- four more of them
laid_four : (f : ℕ → ℕ) (k v0 v1 v2 v3 : ℕ) (d : List ℕ) → k + 4 ≤ length d → v0 ≡ f k → v1 ≡ f (suc k) → v2 ≡ f (suc (suc k)) → v3 ≡ f (suc (suc (suc k)))
    → sets (laid f k d) k (v0 ∷ v1 ∷ v2 ∷ v3 ∷ []) ≡ laid f (suc (suc (suc (suc k)))) d
laid_four f k v0 v1 v2 v3 d l e0 e1 e2 e3 =
    rw (e0, e1, e2, e3)
    (ap (λ (t : List ℕ). set (set (set t (suc k) (f (suc k))) (suc (suc k)) (f (suc (suc k)))) (suc (suc (suc k))) (f (suc (suc (suc k))))) (laid_suc f k d (omega arith))
    ∙ ap (λ (t : List ℕ). set (set t (suc (suc k)) (f (suc (suc k)))) (suc (suc (suc k))) (f (suc (suc (suc k))))) (laid_suc f (suc k) d (omega arith))
    ∙ ap (λ (t : List ℕ). set t (suc (suc (suc k))) (f (suc (suc (suc k))))) (laid_suc f (suc (suc k)) d (omega arith))
    ∙ laid_suc f (suc (suc (suc k))) d (omega arith))

build_same : (f g : ℕ → ℕ) (k : ℕ) → ((j : ℕ) → f j ≡ g j) → build f k ≡ build g k
build_same f g zero e = refl
build_same f g (suc k) e = ap₂ (λ (x : ℕ) (xs : List ℕ). x ∷ xs) (e 0) (build_same (λ j. f (suc j)) (λ j. g (suc j)) k (λ j. e (suc j)))

-- ---- the loop over pages

pub page_next : (b page next first i : ℕ) → page ≡ (first + i) % b → next ≡ (page + 1) % b → next ≡ (first + (i + 1)) % b
page_next b page next first i e h =
    let q : first + (i + 1) ≡ first + i + 1 = omega arith in
    rw (h, e, q) (mod-add-mod (first + i) b 1)

pub pages_length : (answer after d vs : List ℕ) (at : ℕ) → length answer ≡ length d → after ≡ sets answer at vs → length after ≡ length d
pages_length answer after d vs at e h = rw h (length-sets answer at vs ∙ e)

module _ (show : ℕ → ℕ → ℕ) (first b : ℕ) where
  -- byte k of the i-th page
  page_byte_lem : (i j k page : ℕ) → j / 4 ≡ i → j % 4 ≡ k → page ≡ (first + i) % b → show page k ≡ page_byte show first b j
  unfolding page_byte
  page_byte_lem i j k page e f g = rw (e, f, g)

  -- a turn of the loop
  pub turn : (i page count : ℕ) (answer after d : List ℕ) → i < count → count ≤ 231 → answer_room ≤ length d → page ≡ (first + i) % b → answer ≡ laid (page_byte show first b) (4 * i) d
      → after ≡ sets answer (4 * i) (bytes_of (page_by show page)) → after ≡ laid (page_byte show first b) (4 * (i + 1)) d
  unfolding bytes_of
  turn i page count answer after d l m room e f g =
      let q : 4 * (i + 1) ≡ suc (suc (suc (suc (4 * i)))) = omega arith in
      rw (g, f, q)
      (laid_four (page_byte show first b) (4 * i) (show page 0) (show page 1) (show page 2) (show page 3) d (omega arith)
      (page_byte_lem i (4 * i) 0 page (omega arith) (omega arith) e)
      (page_byte_lem i (suc (4 * i)) 1 page (omega arith) (omega arith) e)
      (page_byte_lem i (suc (suc (4 * i))) 2 page (omega arith) (omega arith) e)
      (page_byte_lem i (suc (suc (suc (4 * i)))) 3 page (omega arith) (omega arith) e))

  pub pages_end : (i count : ℕ) (answer d : List ℕ) → i ≤ count → count ≤ i → answer ≡ laid (page_byte show first b) (4 * i) d → Lays show first b count d answer
  unfolding over pages_by
  pages_end i count answer d l m e =
      let q : i ≡ count = omega arith in
      record { whole = rw (length_build (page_byte show first b) (4 * count)) (e ∙ ap (λ (k : ℕ). laid (page_byte show first b) (4 * k) d) q) }

  pub length_pages : (count : ℕ) → length (pages_by show first b count) ≡ 4 * count
  unfolding pages_by
  length_pages count = length_build (page_byte show first b) (4 * count)

-- ---- the mirror

-- where there is none, or one of no character, a byte is shown as before
pub unmirrored : (n p k : ℕ) (img : List ℕ) (o : Option Mirror) → IfSome o (λ m. m.length ≡ 0) → through n img o p k ≡ shown n img p k
unfolding through replaced
unmirrored n p k img None e = refl
unmirrored n p k img (Some m) e =
    let j = 4 * p + k in
    let from_start = leb m.start j in
    let before_end = ltb j (m.start + m.length) in
    by (λ (x : ℕ). x ≡ shown n img p k) (from_start && before_end)
    (λ h.
    let l : m.start ≤ j = leb-true _ _ (and_left from_start before_end h) in
    let r : j < m.start + m.length = ltb-true _ _ (and_right from_start before_end h) in
    absurd (omega arith))
    (λ h. refl)

-- and so are pages
pub unmirrored_pages : (n first b count : ℕ) (img : List ℕ) (t : Tag) → IfSome (mirror_for n img (authenticated t)) (λ m. m.length ≡ 0)
    → pages_by (shown n img) first b count ≡ pages_from n img t first b count
unfolding pages_by page_byte seen
unmirrored_pages n first b count img t z = build_same _ _ (4 * count) (λ j. sym (unmirrored n ((first + j / 4) % b) (j % 4) img _ z))

pub unchosen : (n first b count : ℕ) (img answer : List ℕ) (a r : Bool) → r ≡ is_chosen n img → r ≡ false → Covers n img (mirror_for n img a) first b count answer answer
unchosen n first b count img answer a r e f = record { whole = rw (← not_chosen n img a (flag r _ _ e f)) refl }

-- what is laid over the front goes over what was laid there before
over_again : (xs ys d : List ℕ) → length xs ≡ length ys → over xs (over ys d) ≡ over xs d
unfolding over
over_again xs ys d e = ap (λ (t : List ℕ). xs ++ t) (drop_at ys (drop (length ys) d) (length xs) (sym e) ∙ ap (λ (k : ℕ). drop k d) (sym e))

-- pages as they are stored, and the mirror over them: pages through the mirror
covered : (n first b count : ℕ) (img before stored mid : List ℕ) (m : Option Mirror) → Lays (shown n img) first b count before stored
    → Covers n img m first b count stored mid → Lays (through n img m) first b count before mid
unfolding through
covered n first b count img before stored mid None p q = record { whole = q.whole ∙ p.whole }
covered n first b count img before stored mid (Some m) p q =
    let pages = pages_by (through n img (Some m)) first b count in
    let same_length = length_pages (through n img (Some m)) first b count ∙ sym (length_pages (shown n img) first b count) in
    record { whole = q.whole ∙ ap (λ (d : List ℕ). over pages d) p.whole ∙ over_again pages _ before same_length }

module _ (n : ℕ) (img : List ℕ) (t : Tag) where
  pub given : (first b count : ℕ) (t' : Tag) (r : Step) (image' before stored mid after : List ℕ) → Counts n img t first b count t' image' before stored
      → Covers n image' (mirror_for n image' (authenticated t)) first b count stored mid → Says (4 * count) t' r mid after → Did (read_answered n img t first b count) r img image' before after
  unfolding read_answered seen
  given first b count t' r image' before stored mid after c q s =
      said (pages_from n (apply img (counting n img t)) t first b count) (counting n img t) (answering t) r (4 * count) img image' before mid after
      (length_pages (seen n (apply img (counting n img t)) t) first b count) (rw c.image at (covered n first b count image' before stored mid _ c.pages q).whole)
      (rw c.tag at s) c.image

-- ---- where nothing is read

module _ (n : ℕ) (img : List ℕ) (t : Tag) (b : ℕ) (r : Step) (before after : List ℕ) (naks : Naks t 0 r before after) where
  -- a READ from B on is a NAK
  pub read_nak : (a x : ℕ) → (b ≡ bound n img t) × (b ≤ n) → (a ≡ x) × (a < 256) → b ≤ a → Did (read n img t x) r img img before after
  unfolding read
  read_nak a x eb w l = rw (← eb.0, ← w.0, le-ltb a b l) (naks img)

  -- and so is a FAST_READ whose last page stands before its first
  pub fast_back_lem : (s e x y : ℕ) → (s ≡ x) × (s < 256) → (e ≡ y) × (e < 256) → e < s → Did (fast_read n img t x y) r img img before after
  unfolding fast_read
  fast_back_lem s e x y w v l = rw (← w.0, ← v.0, lt-leb s e l) (naks img)
