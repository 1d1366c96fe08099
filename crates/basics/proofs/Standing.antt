-- Where a byte first stands, as the library's `position` tells it. Assumes nothing.
use Rattle.std.proofs.Common.{◌≡◌, ◌∙◌, refl, sym, ap, Bool, true, false, ℕ, ◌+◌, ◌-◌, ◌≤◌, List, length, take, drop, position, nat_lt, ◌==◌, arith, length-take, length-drop}
use Rattle.std.specs.Prelude.{Option, Some, None, cond, not, is_some, unwrap_or}
use Rattle.std.specs.List.{position_or_len}
use Rattle.std.proofs.lemmas.Bool.{ltb-false}
use Rattle.std.proofs.lemmas.List.{drop-take}
use Rattle.std.proofs.lemmas.List.Recursion.{is_position_or_len}
use Rattle.std.proofs.lemmas.List.Sums.{prefix_len-le-length}
use Rattle.basics.specs.Runs.{slice, index_after, index_of}
use Rattle.basics.proofs.Choice.{never}

index_is_position : (byte : ℕ) (xs : List ℕ) → index_of byte xs ≡ position_or_len (λ b. b == byte) xs
unfolding index_of index_after
index_is_position byte xs = is_position_or_len (index_of byte) (λ b. b == byte) refl (λ x xs. either (x == byte) (index_of byte xs)) xs
  where
    either : (t : Bool) (n : ℕ) → index_after t n ≡ cond t 0 (1 + n)
    either true n = refl
    either false n = omega arith

-- a slice as the code lends it
slice_lent : (start end : ℕ) (text : List ℕ) → start ≤ end → slice start end text ≡ take (end - start) (drop start text)
unfolding slice
slice_lent start end text ordered =
    let e : end ≡ start + (end - start) = omega arith in
    ap (λ (n : ℕ). drop start (take n text)) e ∙ drop-take start (end - start) text

module _ (byte start end : ℕ) (text : List ℕ) (ordered : start ≤ end) (within : end ≤ length text) where
  lent : List ℕ
  lent = take (end - start) (drop start text)

  place : ℕ
  place = position_or_len (λ b. b == byte) lent

  place_is : index_of byte (slice start end text) ≡ place
  unfolding lent place
  place_is = ap (index_of byte) (slice_lent start end text ordered) ∙ index_is_position byte (take (end - start) (drop start text))

  pub stands_at : (i : ℕ) → position (λ b. b == byte) (take (end - start) (drop start text)) ≡ Some i → start + i ≡ start + index_of byte (slice start end text)
  unfolding lent place
  stands_at i e = ap (λ (k : ℕ). start + k) (sym (place_is ∙ found (nat_lt place (length lent)) place e))
    where
      found : (t : Bool) (k : ℕ) → cond t (Some k) None ≡ Some i → k ≡ i
      found true k e = ap (λ (o : Option ℕ). unwrap_or o 0) e
      found false k e = never (sym (ap is_some e))

  pub stands_nowhere : position (λ b. b == byte) (take (end - start) (drop start text)) ≡ None → end ≡ start + index_of byte (slice start end text)
  unfolding lent place
  stands_nowhere e =
      let past = missed (nat_lt place (length lent)) refl e in
      let most = prefix_len-le-length (λ b. not (b == byte)) lent in
      let whole : length lent ≡ end - start = simp (length-drop, length-take) (omega arith) in
      rw place_is (omega arith)
    where
      missed : (t : Bool) → nat_lt place (length lent) ≡ t → cond t (Some place) None ≡ None → length lent ≤ place
      missed true l e = never (ap is_some e)
      missed false l e = ltb-false _ _ l
