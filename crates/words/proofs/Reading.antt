-- Laws of reading words. Assumes nothing.
use Prim.Native.Nat.{ℕ, ◌+◌, ◌*◌, ◌/◌, ◌%◌, ◌<◌, ◌≤◌}
use mathlib.Core.Path.{◌≡◌, refl, ap, ap₂, sym, ◌∙◌}
use mathlib.Core.Bool.{Bool, true, false, cond, ◌&&◌, and-false}
use mathlib.Core.List.{List, [], ◌∷◌, ◌++◌, append_assoc, append-nil}
use native.Mathlib.Nat.{mul-le-mul_left}
use native.Mathlib.Numerals.{add-one}
use native.Mathlib.Omega.{arith}
use lib.Dec.{ltb, leb}
use lib.ListN.{length, take, drop, set, get_or, drop_of_length-le}
use lib.Seq.{take-suc-set, take-length, drop-cons}
use borrow.Author.Tests.{lt-ltb, le-ltb, lt-leb, le-leb, ltb-true}
use Rattle.std.specs.Prelude.{Option, Some, None, is_some, option_and_then, unwrap_or}
use Rattle.basics.specs.Runs.{index_of, slice}
use Rattle.basics.proofs.Choice.{by}
use Rattle.words.specs.Word.{word_end, digit_of, longer, with_digit, value_from, at_most, number_in, hex_pair, all_pairs, pairs_of, none, value, bytes_in, behind}

-- the end of a word, as the library finds it
pub end_found : (w : List ℕ) (s r : ℕ) → r ≡ s + index_of 32 (slice s (length w) w) → r ≡ s + word_end (drop s w)
unfolding slice
end_found w s r e = e ∙ ap (λ (l : List ℕ). s + word_end (drop s l)) (take-length w)

-- what is left of a list at an index below its length
pub more : (w : List ℕ) (i : ℕ) → i < length w → drop i w ≡ get_or w i 0 ∷ drop (i + 1) w
more w i h = rw (add-one, drop-cons w i 0)

-- and two by two
pub two_more_lem : (w : List ℕ) (i : ℕ) → 2 * i + 1 < length w → drop (2 * i) w ≡ get_or w (2 * i) 0 ∷ get_or w (2 * i + 1) 0 ∷ drop (2 * (i + 1)) w
two_more_lem w i h =
    let p : 2 * i + 1 + 1 ≡ 2 * (i + 1) = omega arith in
    more w (2 * i) (omega arith) ∙ ap (λ (r : List ℕ). get_or w (2 * i) 0 ∷ r) (more w (2 * i + 1) h ∙ ap (λ (k : ℕ). get_or w (2 * i + 1) 0 ∷ drop k w) p)

-- ---- numbers, over the base, the digits and the limit

-- a number with one more digit is no smaller, so that what is too large stays so
module _ (base most : ℕ) where
  abbrev capped : Option ℕ → Option ℕ
  capped v = option_and_then (at_most most) v

  one_longer : (w : List ℕ) (n d : ℕ) → most < n → ((m : ℕ) → most < m → capped (value_from base m w) ≡ None)
      → capped (option_and_then (λ m. value_from base m w) (longer base n d)) ≡ None
  one_longer w n d h rest =
      by (λ (v : Option ℕ). capped (option_and_then (λ m. value_from base m w) v) ≡ None) (ltb d base) larger (λ e. refl)
    where
      larger : ltb d base ≡ true → capped (value_from base (n * base + d) w) ≡ None
      larger e =
          let k : d < base = ltb-true d base e in
          let a : n * 1 ≤ n * base = mul-le-mul_left n (let z : 1 ≤ base = omega arith in z) in
          rest (n * base + d) (omega arith)

  pub value_large : (w : List ℕ) (n : ℕ) → most < n → capped (value_from base n w) ≡ None
  unfolding value_from with_digit
  value_large [] n h = simp (lt-leb n most h)
  value_large (b ∷ r) n h = one_longer r n (unwrap_or (digit_of b) 16) h (λ m k. value_large r m k)

module _ (w : List ℕ) (base i n : ℕ) (test : i < length w) where
  -- one digit further
  pub value_step : value_from base n (drop i w) ≡ option_and_then (λ m. value_from base m (drop (i + 1) w)) (with_digit base n (get_or w i 0))
  unfolding value_from
  value_step = ap (value_from base n) (more w i test)

  pub value_next : (m : ℕ) → with_digit base n (get_or w i 0) ≡ Some m → value_from base n (drop i w) ≡ value_from base 0 w
      → value_from base m (drop (i + 1) w) ≡ value_from base 0 w
  value_next m e val = sym (ap (option_and_then (λ m. value_from base m (drop (i + 1) w))) e) ∙ sym value_step ∙ val

  pub value_none : with_digit base n (get_or w i 0) ≡ None → value_from base n (drop i w) ≡ value_from base 0 w → value_from base 0 w ≡ None
  value_none e val = sym val ∙ value_step ∙ ap (option_and_then (λ m. value_from base m (drop (i + 1) w))) e

module _ (w : List ℕ) (base least digits most : ℕ) where
  -- of a word that has no such value there is no number
  pub number_none : option_and_then (at_most most) (value_from base 0 w) ≡ None → None ≡ number_in base least digits most w
  number_none e = each (leb least (length w) && leb (length w) digits)
    where
      each : (o : Bool) → None ≡ cond o (option_and_then (at_most most) (value_from base 0 w)) None
      each true = sym e
      each false = refl

  module _ (i n : ℕ) (d : Option ℕ) (test : i < length w) (known : d ≡ with_digit base n (get_or w i 0)) (val : value_from base n (drop i w) ≡ value_from base 0 w) where
    pub number_off : (r : Option ℕ) → r ≡ None → d ≡ None → r ≡ number_in base least digits most w
    number_off r e f = e ∙ number_none (ap (option_and_then (at_most most)) (value_none w base i n test (sym known ∙ f) val))

    pub number_large : (m : ℕ) → d ≡ Some m → most < m → None ≡ number_in base least digits most w
    number_large m f h =
        number_none (ap (option_and_then (at_most most)) (sym (value_next w base i n test m (sym known ∙ f) val)) ∙ value_large base most (drop (i + 1) w) m h)

    pub value_turn : (m : ℕ) → d ≡ Some m → value_from base m (drop (i + 1) w) ≡ value_from base 0 w
    value_turn m f = value_next w base i n test m (sym known ∙ f) val

  pub number_good : (i n : ℕ) → least ≤ length w → length w ≤ digits → length w ≤ i → value_from base n (drop i w) ≡ value_from base 0 w → n ≤ most
      → Some n ≡ number_in base least digits most w
  unfolding value_from
  number_good i n some few over val h =
      let v : value_from base 0 w ≡ Some n = sym val ∙ ap (value_from base n) (drop_of_length-le w over) in
      rw (v, le-leb least (length w) some, le-leb (length w) digits few, le-leb n most h)

-- ---- bytes

-- two digits in front
pair_all : (p next : List ℕ) → length p ≡ 2 → all_pairs (p ++ next) ≡ (is_some (hex_pair (get_or p 0 0) (get_or p 1 0)) && all_pairs next)
pair_all [] next h = absurd (omega arith)
pair_all (a ∷ []) next h = absurd (omega arith)
pair_all (a ∷ b ∷ []) next h = refl
pair_all (a ∷ b ∷ c ∷ r) next h = absurd (omega arith)

pair_list : (p next : List ℕ) → length p ≡ 2 → pairs_of (p ++ next) ≡ unwrap_or (hex_pair (get_or p 0 0) (get_or p 1 0)) 0 ∷ pairs_of next
pair_list [] next h = absurd (omega arith)
pair_list (a ∷ []) next h = absurd (omega arith)
pair_list (a ∷ b ∷ []) next h = refl
pair_list (a ∷ b ∷ c ∷ r) next h = absurd (omega arith)

module _ (w rest p next : List ℕ) (b : Option ℕ) (cut : rest ≡ p ++ next) (two : length p ≡ 2) (known : b ≡ hex_pair (get_or p 0 0) (get_or p 1 0)) where
  pub pair_turn : (x : ℕ) → b ≡ Some x → all_pairs rest ≡ all_pairs w → all_pairs next ≡ all_pairs w
  pair_turn x e all =
      let h : hex_pair (get_or p 0 0) (get_or p 1 0) ≡ Some x = sym known ∙ e in
      let z : all_pairs rest ≡ all_pairs next = ap all_pairs cut ∙ pair_all p next two ∙ ap (λ (o : Option ℕ). is_some o && all_pairs next) h in
      sym z ∙ all

  pub pair_next : (x k : ℕ) (xs ys : List ℕ) → b ≡ Some x → k < length xs → take k xs ++ pairs_of rest ≡ ys
      → take (k + 1) (set xs k x) ++ pairs_of next ≡ ys
  pair_next x k xs ys e room h =
      let d : hex_pair (get_or p 0 0) (get_or p 1 0) ≡ Some x = sym known ∙ e in
      let s : take (k + 1) (set xs k x) ≡ take k xs ++ (x ∷ []) = ap (λ (n : ℕ). take n (set xs k x)) (add-one k) ∙ take-suc-set xs k x room in
      let z : pairs_of rest ≡ x ∷ pairs_of next = ap pairs_of cut ∙ pair_list p next two ∙ ap (λ (o : Option ℕ). unwrap_or o 0 ∷ pairs_of next) d in
      ap (λ (l : List ℕ). l ++ pairs_of next) s ∙ append_assoc (take k xs) (x ∷ []) (pairs_of next) ∙ ap (λ (l : List ℕ). take k xs ++ l) (sym z) ∙ h

odd_pairs : (w : List ℕ) → length w % 2 ≡ 1 → all_pairs w ≡ false
odd_pairs [] h = absurd (let z : ◌≡◌ {A = ℕ} 0 1 = h in omega arith)
odd_pairs (a ∷ []) h = refl
odd_pairs (a ∷ b ∷ r) h = simp (odd_pairs r (omega arith), and-false)

pairs_length : (w : List ℕ) → length (pairs_of w) ≡ length w / 2
pairs_length [] = refl
pairs_length (a ∷ []) = refl
pairs_length (a ∷ b ∷ r) = omega (arith, pairs_length r)

module _ (w front : List ℕ) (most : ℕ) where
  given_bad : all_pairs w ≡ false → none ≡ behind front (bytes_in most w)
  given_bad z = simp (z, and-false)

  pub given_empty : length w ≡ 0 → none ≡ behind front (bytes_in most w)
  given_empty h = let z : ltb 0 (length w) ≡ false = le-ltb 0 (length w) (omega arith) in simp z

  pub given_odd : length w % 2 ≡ 1 → none ≡ behind front (bytes_in most w)
  given_odd h = given_bad (odd_pairs w h)

  pub given_long : most < length w / 2 → none ≡ behind front (bytes_in most w)
  given_long h = let z : leb (length w) (2 * most) ≡ false = lt-leb (length w) (2 * most) (omega arith) in simp (z, and-false)

  pub given_good : (xs rest : List ℕ) (at n : ℕ) → (length w ≡ 0 → ⊥) → (length w % 2 ≡ 1 → ⊥) → length w / 2 ≤ most → 2 * n + length rest ≡ length w → length rest < 2
      → all_pairs rest ≡ all_pairs w → take (at + n) xs ++ pairs_of rest ≡ front ++ pairs_of w
      → value (length w / 2) (take (at + length w / 2) xs) ≡ behind front (bytes_in most w)
  given_good xs [] at n some even few all_of over all e =
      let c : n ≡ length w / 2 = omega arith in
      let s : ltb 0 (length w) ≡ true = lt-ltb 0 (length w) (omega arith) in
      let f : leb (length w) (2 * most) ≡ true = le-leb (length w) (2 * most) (omega arith) in
      let p : take (at + length w / 2) xs ≡ front ++ pairs_of w = ap (λ (k : ℕ). take (at + k) xs) (sym c) ∙ sym (append-nil (take (at + n) xs)) ∙ e in
      let a : all_pairs w ≡ true = sym all in
      rw (a, s, f) (ap₂ value (sym (pairs_length w)) p)
  given_good xs (a ∷ []) at n some even few all_of over all e = absurd (even (omega arith))
  given_good xs (a ∷ b ∷ r) at n some even few all_of over all e = absurd (omega arith)
