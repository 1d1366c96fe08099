-- Laws of the arguments of a line. Assumes nothing.
use Prim.Native.Nat.{ℕ, ◌+◌, ◌-◌, ◌<◌, ◌≤◌}
use mathlib.Core.Path.{◌≡◌, refl, ap, ap₂, sym, subst⁻¹, ◌∙◌}
use mathlib.Core.Bool.{Bool, true, false, cond}
use mathlib.Core.List.{List, [], ◌∷◌, ◌++◌, append_assoc, append-nil}
use native.Mathlib.Numerals.{add-one}
use native.Mathlib.Omega.{arith}
use lib.Dec.{ltb, eqb}
use lib.ListN.{length, take, drop, set, get_or, length-take, length-drop, drop_of_length-le, get_or-eq_default}
use lib.Seq.{take-suc-set, drop-cons, drop-drop, get_or-set_same, get_or-set_other, get_or-take}
use borrow.Author.Tests.{lt-ltb, le-ltb, ltb-true, ltb-false, eqb-true, eqb-false}
use Rattle.std.specs.Prelude.{Option, Some, None, Result, Err}
use Rattle.std.proofs.lemmas.List.{length-map, get_or-map}
use Rattle.basics.proofs.Choice.{split}
use Rattle.words.specs.Word.{word_end, first_of, rest_of, goes_on, Value, none, value, behind, reads}
use Rattle.words.specs.Args.{Form, form_of, forms_of, value_of, Args, bad, good, join, args_of, given, wrong, enough, argued, said_by, most_of, room_of, room_for, most_at, Bounded}
use Rattle.words.specs.declared.word.Arg.{Arg}
use Rattle.words.specs.declared.args.Kind.{Kind}
use Rattle.words.specs.declared.args.Refusal.{Refusal}
use Rattle.words.specs.declared.args.Refusal.TheVariants as refusal
use Rattle.words.specs.declared.args.Given.{Given}

-- what an argument comes to, of a form that is known to be another
pub kind_told_lem : (f f' : Form) → f ≡ f' → (v : Value) (front w : List ℕ) → v ≡ behind front (value_of f' w) → v ≡ behind front (value_of f w)
kind_told_lem f f' e v front w h = h ∙ ap (λ (y : Form). behind front (value_of y w)) (sym e)

-- ---- the next word

module _ (w : List ℕ) (s stop : ℕ) (in_line : s ≤ length w) (e : stop ≡ s + word_end (drop s w)) where
  word_cut : take (stop - s) (drop s w) ≡ first_of (drop s w)
  word_cut = let p : stop - s ≡ word_end (drop s w) = omega arith in ap (λ (k : ℕ). take k (drop s w)) p

  rest_cut : rest_of (drop s w) ≡ drop (stop + 1) w
  rest_cut = let p : s + (word_end (drop s w) + 1) ≡ stop + 1 = omega arith in drop-drop (word_end (drop s w) + 1) s w ∙ ap (λ (k : ℕ). drop k w) p

  on_cut : goes_on (drop s w) ≡ ltb stop (length w)
  on_cut =
      split (ltb stop (length w))
      (λ t. let h : stop < length w = ltb-true stop (length w) t in lt-ltb (word_end (drop s w)) (length (drop s w)) (omega (arith, left)) ∙ sym t)
      (λ t. let h : length w ≤ stop = ltb-false stop (length w) t in le-ltb (word_end (drop s w)) (length (drop s w)) (omega (arith, left)) ∙ sym t)
    where
      left : length (drop s w) ≡ length w - s
      left = simp length-drop

-- ---- all arguments

-- those read so far before the others
abbrev before : List ℕ → List ℕ → Args → Args
before ns bs bad = bad
before ns bs (good ms cs) = good (ns ++ ms) (bs ++ cs)

abbrev whole : List Form → List ℕ → Args
whole fs text = args_of fs (goes_on text) (rest_of text)

-- the first i arguments are read, up to `at`: before what the rest of the line gives they are what the whole line gives
pub record Sofar (fs : List Form) (text : List ℕ) (at i : ℕ) (ns bs : List ℕ) : Type 0 where
  pub all : before ns bs (args_of (drop i fs) (ltb at (length text)) (drop (at + 1) text)) ≡ whole fs text

one_joined : (ns front ys : List ℕ) (n : ℕ) (v : Value) (a : Args) → value n ys ≡ behind front v → before ns front (join v a) ≡ before (ns ++ (n ∷ [])) ys a
one_joined ns front ys n none a e = absurd (let z : ◌≡◌ {A = ℕ} 0 1 = cc in omega arith)
one_joined ns front ys n (value m cs) bad e = refl
one_joined ns front ys n (value m cs) (good ms ds) e =
    let p : m ≡ n = cc in
    let q : front ++ cs ≡ ys = cc in
    ap₂ good (ap (λ (k : ℕ). ns ++ (k ∷ ms)) p ∙ sym (append_assoc ns (n ∷ []) ms)) (sym (append_assoc front cs ds) ∙ ap (λ (l : List ℕ). l ++ ds) q)

none_joined : (ns front : List ℕ) (v : Value) (a : Args) → none ≡ behind front v → before ns front (join v a) ≡ bad
none_joined ns front none a e = refl
none_joined ns front (value m cs) a e = absurd (let z : ◌≡◌ {A = ℕ} 0 1 = cc in omega arith)

module _ (fs : List Form) (text : List ℕ) (at i : ℕ) (ns bs : List ℕ) (inv : Sofar fs text at i ns bs) where
  -- no more than there are forms
  args_many : at < length text → length fs ≤ i → bad ≡ whole fs text
  unfolding args_of
  args_many h k =
      let d : drop i fs ≡ [] = drop_of_length-le fs k in
      sym (ap₂ (λ (gs : List Form) (o : Bool). before ns bs (args_of gs o (drop (at + 1) text))) d (lt-ltb at (length text) h)) ∙ inv.all

  args_over : length text ≤ at → good ns bs ≡ whole fs text
  unfolding args_of
  args_over h = ap₂ good (sym (append-nil ns)) (sym (append-nil bs)) ∙ sym (both (drop i fs)) ∙ inv.all
    where
      both : (gs : List Form) → before ns bs (args_of gs (ltb at (length text)) (drop (at + 1) text)) ≡ good (ns ++ []) (bs ++ [])
      both [] = ap (λ (o : Bool). before ns bs (args_of [] o (drop (at + 1) text))) (le-ltb at (length text) h)
      both (k ∷ gs) = ap (λ (o : Bool). before ns bs (args_of (k ∷ gs) o (drop (at + 1) text))) (le-ltb at (length text) h)

-- the argument of place i, which is of kind k
module _ (ks : List Kind) (i : ℕ) (k : Kind) (few : i < length ks) (here : k ≡ get_or ks i k) where
  abbrev forms : List Form
  forms = forms_of ks

  opened_forms : drop i forms ≡ form_of k ∷ drop (i + 1) forms
  opened_forms =
      let l : i < length forms = simp length-map few in
      let g : get_or forms i (form_of k) ≡ form_of k = get_or-map form_of ks i k (form_of k) few ∙ ap form_of (sym here) in
      drop-cons forms i (form_of k) l ∙ ap₂ (λ (f : Form) (j : ℕ). f ∷ drop j forms) g (sym (add-one i))

  room_left : room_for (drop i forms) ≡ room_of (form_of k) + room_for (drop (i + 1) forms)
  room_left = ap room_for opened_forms

  most_here : most_at forms i ≡ most_of (form_of k)
  most_here =
      let l : i < length forms = simp length-map few in
      get_or-map most_of forms i (form_of k) 0 l ∙ ap most_of (get_or-map form_of ks i k (form_of k) few ∙ ap form_of (sym here))

  pub room_next : (a : Arg) (end : ℕ) → a.end ≤ end + room_of (form_of k) → end + room_for (drop i forms) ≤ room_for forms → a.end + room_for (drop (i + 1) forms) ≤ room_for forms
  room_next a end fits h = omega (arith, room_left)

  pub bounded_next : (n : ℕ) (ns : List ℕ) → n ≤ most_of (form_of k) → i < length ns → Bounded forms i ns → Bounded forms (i + 1) (set ns i n)
  bounded_next n ns small room b = record { below = each; beyond = λ j h. get_or-set_other ns i j n 0 (λ q. omega arith) ∙ b.beyond j (omega arith) }
    where
      each : (j : ℕ) → get_or (set ns i n) j 0 ≤ most_at forms j
      each j =
          split (eqb j i)
          (λ q. subst⁻¹ (λ (m : ℕ). get_or (set ns i n) m 0 ≤ most_at forms m) (eqb-true j i q)
          (subst⁻¹ (λ (x : ℕ). x ≤ most_at forms i) (get_or-set_same ns i n 0 room) (subst⁻¹ (λ (x : ℕ). n ≤ x) most_here small)))
          (λ q. subst⁻¹ (λ (x : ℕ). x ≤ most_at forms j) (get_or-set_other ns i j n 0 (eqb-false j i q)) (b.below j))

  module _ (text ns front : List ℕ) (at stop : ℕ) (r : Option Arg) (xs : List ℕ) (test : at < length text)
      (at_stop : stop ≡ at + 1 + word_end (drop (at + 1) text)) (inv : Sofar forms text at i ns front)
      (e : reads r xs ≡ behind front (value_of (form_of k) (take (stop - (at + 1)) (drop (at + 1) text)))) where
    abbrev rest : Args
    rest = args_of (drop (i + 1) forms) (ltb stop (length text)) (drop (stop + 1) text)

    opened : before ns front (join (value_of (form_of k) (take (stop - (at + 1)) (drop (at + 1) text))) rest) ≡ whole forms text
    unfolding args_of
    opened =
        let l : at + 1 ≤ length text = omega arith in
        ap₂ (λ (x : List ℕ) (a : Args). before ns front (join (value_of (form_of k) x) a)) (word_cut text (at + 1) stop l at_stop)
        (ap₂ (λ (o : Bool) (x : List ℕ). args_of (drop (i + 1) forms) o x) (sym (on_cut text (at + 1) stop l at_stop)) (sym (rest_cut text (at + 1) stop l at_stop)))
        ∙ sym (ap₂ (λ (gs : List Form) (o : Bool). before ns front (args_of gs o (drop (at + 1) text))) opened_forms (lt-ltb at (length text) test))
        ∙ inv.all

    args_bad : r ≡ None → bad ≡ whole forms text
    args_bad t = sym (none_joined ns front (value_of (form_of k) (take (stop - (at + 1)) (drop (at + 1) text))) rest (ap (λ (o : Option Arg). reads o xs) (sym t) ∙ e)) ∙ opened

    args_turn : (a : Arg) → r ≡ Some a → before (ns ++ (a.number ∷ [])) (take a.end xs) rest ≡ whole forms text
    args_turn a t =
        sym (one_joined ns front (take a.end xs) a.number (value_of (form_of k) (take (stop - (at + 1)) (drop (at + 1) text))) rest (ap (λ (o : Option Arg). reads o xs) (sym t) ∙ e))
        ∙ opened

    pub args_next : (a : Arg) (numbers : List ℕ) → r ≡ Some a → ns ≡ take i numbers → i < length numbers
        → Sofar forms text stop (i + 1) (take (i + 1) (set numbers i a.number)) (take a.end xs)
    args_next a numbers t en h =
        let p : take (i + 1) (set numbers i a.number) ≡ ns ++ (a.number ∷ []) =
        ap (λ (j : ℕ). take j (set numbers i a.number)) (add-one i) ∙ take-suc-set numbers i a.number h ∙ ap (λ (l : List ℕ). l ++ (a.number ∷ [])) (sym en) in
        record { all = ap (λ (l : List ℕ). before l (take a.end xs) rest) p ∙ args_turn a t }

    pub bad_said : (needed : ℕ) (x : Result Given Refusal) (ys : List ℕ) → r ≡ None → x ≡ Err refusal.Wrong → said_by x ys ≡ argued needed forms text
    unfolding argued
    bad_said needed x ys t z = ap (λ (y : Result Given Refusal). said_by y ys) z ∙ ap (enough needed) (args_bad t)

-- ---- a whole line

module _ (ks : List Kind) (text : List ℕ) (at i needed : ℕ) (ns bs : List ℕ) (inv : Sofar (forms_of ks) text at i ns bs) where
  pub many_said : (x : Result Given Refusal) (ys : List ℕ) → at < length text → length ks ≤ i → x ≡ Err refusal.Wrong → said_by x ys ≡ argued needed (forms_of ks) text
  unfolding argued
  many_said x ys h k z =
      let l : length (forms_of ks) ≤ i = simp length-map k in
      ap (λ (y : Result Given Refusal). said_by y ys) z ∙ ap (enough needed) (args_many (forms_of ks) text at i ns bs inv h l)

module _ (ks : List Kind) (text : List ℕ) (at i needed : ℕ) (numbers bs : List ℕ) (over : length text ≤ at) (room : i ≤ length numbers)
    (inv : Sofar (forms_of ks) text at i (take i numbers) bs) where
  ended : (o : Bool) → ltb (length (take i numbers)) needed ≡ o → cond o wrong (given (take i numbers) bs) ≡ argued needed (forms_of ks) text
  unfolding argued
  ended o t = sym (ap (λ (x : Bool). cond x wrong (given (take i numbers) bs)) t) ∙ ap (enough needed) (args_over (forms_of ks) text at i (take i numbers) bs inv over)

  read : length (take i numbers) ≡ i
  read = simp length-take (omega arith)

  pub few_said : i < needed → wrong ≡ argued needed (forms_of ks) text
  few_said h = ended true (lt-ltb (length (take i numbers)) needed (omega (arith, read)))

  pub good_said : needed ≤ i → given (take i numbers) bs ≡ argued needed (forms_of ks) text
  good_said h = ended false (le-ltb (length (take i numbers)) needed (omega (arith, read)))

-- so a number may be looked up among all of them
pub looked_up : (fs : List Form) (c : ℕ) (ns : List ℕ) → Bounded fs c ns → (j : ℕ) → get_or (take c ns) j 0 ≡ get_or ns j 0
looked_up fs c ns b j = split (ltb j c) (λ e. get_or-take c ns j 0 (ltb-true j c e)) (λ e. let h : c ≤ j = ltb-false j c e in none_there h ∙ sym (b.beyond j h))
  where
    none_there : c ≤ j → get_or (take c ns) j 0 ≡ 0
    none_there h = get_or-eq_default (take c ns) 0 (let z : length (take c ns) ≤ j = simp length-take (omega arith) in z)
