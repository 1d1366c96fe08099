-- Which state hears a frame, and what each way through `hear` shows. Assumes nothing.
use mathlib.Core.Path.{◌≡◌, refl, sym, ap, ◌∙◌, subst⁻¹}
use mathlib.Core.List.{List, [], ◌∷◌}
use mathlib.Core.Bool.{Bool, true, false, ◌&&◌, and-false}
use Prim.Native.Nat.{ℕ, ◌+◌, ◌/◌}
use native.Mathlib.Omega.{arith}
use lib.Dec.{eqb}
use lib.ListN.{length, get_or}
use borrow.Author.Tests.{eqb-true, ne_eqb, eq-eqb}
use Rattle.basics.specs.Bytes.{low_first}
use Rattle.basics.proofs.Choice.{never, split, by, same_either, and_left, and_right}
use Rattle.crc_a.specs.CrcA.{polynomial, start, shifted, shifted_by, byte_in, bytes_in, crc_a, crc_right}
use Rattle.tag.specs.declared.state.State.{State}
use Rattle.tag.specs.declared.state.State.TheVariants.{Idle, Halt, Ready1, Ready2, Active}
use Rattle.tag.specs.declared.state.Tag.{Tag}
use Rattle.tag.specs.declared.outcome.Step.{Step}
use Rattle.tag.specs.State.{moved, activated}
use Rattle.tag.specs.Outcome.{Did}
use Rattle.radio.specs.Heard.{heard_in, is_read_zero, hearing, heard}

-- ---- a whole READ of page 00h

-- 30h 00h and the two bytes behind them, which are right where they are 02h A8h
four_bytes : (f : List ℕ) → length f ≡ 4 → f ≡ get_or f 0 0 ∷ get_or f 1 0 ∷ get_or f 2 0 ∷ get_or f 3 0 ∷ []
four_bytes [] e = absurd (omega (arith, e))
four_bytes (a ∷ []) e = absurd (omega (arith, e))
four_bytes (a ∷ b ∷ []) e = absurd (omega (arith, e))
four_bytes (a ∷ b ∷ c ∷ []) e = absurd (omega (arith, e))
four_bytes (a ∷ b ∷ c ∷ d ∷ []) e = refl
four_bytes (a ∷ b ∷ c ∷ d ∷ x ∷ xs) e = absurd (omega (arith, e))

crc_of_zero : (c d : ℕ) → crc_right (0x30 ∷ 0x00 ∷ c ∷ d ∷ []) ≡ eqb 0xA802 (low_first c d)
unfolding crc_right crc_a polynomial start shifted shifted_by byte_in bytes_in
crc_of_zero c d = refl

crc_zero : (f : List ℕ) → length f ≡ 4 → get_or f 0 0 ≡ 0x30 → get_or f 1 0 ≡ 0x00 → crc_right f ≡ eqb 0xA802 (low_first (get_or f 2 0) (get_or f 3 0))
crc_zero f l a b = ap crc_right (four_bytes f l) ∙ rw (a, b) (crc_of_zero (get_or f 2 0) (get_or f 3 0))

-- the code and the address as one number
code_zero : (a b : ℕ) → eqb (low_first a b) 0x0030 ≡ (eqb a 0x30 && eqb b 0x00)
code_zero a b =
    split (eqb (low_first a b) 0x0030)
    (λ e. let z = eqb-true _ _ e in rw (e, eq-eqb a 0x30 (omega arith), eq-eqb b 0x00 (omega arith)))
    (λ e. split (eqb a 0x30 && eqb b 0x00)
    (λ h. let p = eqb-true _ _ (and_left (eqb a 0x30) _ h) in let q = eqb-true _ _ (and_right (eqb a 0x30) _ h) in never (sym (eq-eqb (low_first a b) 0x0030 (omega arith)) ∙ e))
    (λ h. rw (e, h)))

turned : (a b : ℕ) → eqb a b ≡ eqb b a
turned a b = split (eqb a b) (λ e. rw (e, eq-eqb b a (sym (eqb-true _ _ e)))) (λ e. rw (e, ne_eqb b a (λ z. never (sym (eq-eqb a b (sym z)) ∙ e))))

and_turned : (a b : Bool) → (a && b) ≡ (b && a)
and_turned true true = refl
and_turned true false = refl
and_turned false true = refl
and_turned false false = refl

module _ (f : List ℕ) (bits : ℕ) (parity : Bool) (whole : length f ≡ (bits + 7) / 8) where
  pub read_zero : is_read_zero f bits parity ≡ (eqb bits 32 && (eqb (low_first (get_or f 0 0) (get_or f 1 0)) 0x0030 && (eqb (low_first (get_or f 2 0) (get_or f 3 0)) 0xA802 && parity)))
  unfolding is_read_zero
  read_zero =
      rw (code_zero (get_or f 0 0) (get_or f 1 0))
      (split (eqb bits 32) (λ e. let b = eqb-true _ _ e in rw e (split (eqb (get_or f 0 0) 0x30) (λ x. rw x
      (split (eqb (get_or f 1 0) 0x00) (λ y. rw (y, crc_zero f (omega arith) (eqb-true _ _ x) (eqb-true _ _ y), turned 0xA802) (and_turned parity _)) (λ y. rw y)))
      (λ x. rw x))) (λ e. rw e))

-- a frame of another code, or for another address, is none
pub read_code_lem : (f : List ℕ) (bits : ℕ) (parity : Bool) (k : ℕ) → k ≡ low_first (get_or f 0 0) (get_or f 1 0) → (k ≡ 0x0030 → ⊥) → false ≡ is_read_zero f bits parity
unfolding is_read_zero
read_code_lem f bits parity k q ne =
    split (eqb (get_or f 0 0) 0x30)
    (λ y. let a = eqb-true (get_or f 0 0) 0x30 y in
    rw (a, ne_eqb (get_or f 1 0) 0x00 (λ z. ne (omega arith))) (sym (and-false (eqb bits 32))))
    (λ y. rw y (sym (and-false (eqb bits 32))))

-- ---- the state in which a frame is heard

abbrev pub is_active : State → Bool
is_active Idle = false
is_active Halt = false
is_active (Ready1 w) = false
is_active (Ready2 w) = false
is_active (Active w a) = true

module _ (f : List ℕ) (bits : ℕ) (parity : Bool) (s : State) where
  -- a state from which it doesn't lead to another
  pub hearing_kept : (s' : State) → s ≡ s' → activated s' ≡ s' → s ≡ hearing s f bits parity
  unfolding hearing
  hearing_kept s' g k = rw (g, k) (same_either (is_read_zero f bits parity) _)

  -- where it leads to no other state than ACTIVE
  found : is_active (hearing s f bits parity) ≡ false → hearing s f bits parity ≡ s
  unfolding hearing
  found = by (λ (x : State). is_active x ≡ false → x ≡ s) (is_read_zero f bits parity) (λ _. only s) (λ _ _. refl)
    where
      only : (s : State) → is_active (activated s) ≡ false → activated s ≡ s
      only Idle e = refl
      only Halt e = refl
      only (Ready1 w) e = never e
      only (Ready2 w) e = never e
      only (Active w a) e = refl

-- ---- what the tag does in it

module _ (n : ℕ) (img : List ℕ) (t : Tag) (f : List ℕ) (bits : ℕ) (parity : Bool) (r : Step) (s s' : State) (h : s ≡ hearing t.state f bits parity) (g : s ≡ s') (before after : List ℕ) where
  pub heard_by : (u : Tag) (image' : List ℕ) → u ≡ moved t s → Did (heard_in s' n img u f bits parity) r img image' before after → Did (heard n img t f bits parity) r img image' before after
  unfolding heard
  heard_by u image' q d =
      let d₁ : Did (heard_in s' n img (moved t s) f bits parity) r img image' before after = rw q at d in
      subst⁻¹ (λ (x : State). Did (heard_in x n img (moved t x) f bits parity) r img image' before after) (sym h)
      (subst⁻¹ (λ (x : State). Did (heard_in x n img (moved t s) f bits parity) r img image' before after) g d₁)

  -- where the image isn't lent for a change
  pub heard_any : is_active s' ≡ false → ((i : List ℕ) → Did (heard_in s' n img t f bits parity) r i i before after) → Did (heard n img t f bits parity) r img img before after
  unfolding moved
  heard_any k d = heard_by t img (ap (moved t) (sym (found f bits parity t.state (ap is_active (sym h ∙ g) ∙ k)) ∙ sym h)) (d img)
