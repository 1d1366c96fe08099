-- READY1 and READY2 hear a READ of page 00h as ACTIVE does, and every other frame as before. Assumes nothing.
use mathlib.Core.Path.{◌≡◌, refl, ◌∙◌}
use mathlib.Core.List.{List}
use mathlib.Core.Bool.{Bool, true, false, and-false}
use Prim.Native.Nat.{ℕ, ◌+◌, ◌/◌}
use native.Mathlib.Omega.{arith}
use lib.Dec.{eqb}
use lib.ListN.{length, get_or}
use borrow.Author.Tests.{eqb-true}
use Rattle.basics.proofs.Choice.{and_left, and_right}
use Rattle.tag.specs.declared.state.Wait.{Wait}
use Rattle.tag.specs.declared.state.State.{State}
use Rattle.tag.specs.declared.state.State.TheVariants.{Idle, Halt, Ready1, Ready2, Active}
use Rattle.tag.specs.declared.state.Tag.{Tag}
use Rattle.tag.specs.State.{moved, activated}
use Rattle.tag.specs.Outcome.{lost}
use Rattle.reads.specs.Read.{read}
use Rattle.selection.specs.Selection.{in_ready, in_ready1, in_ready2}
use Rattle.active.specs.Frame.{command_of, in_active}
use Rattle.radio.specs.Heard.{heard_in, is_read_zero, hearing, heard}
use Rattle.radio.proofs.Hearing.{hearing_kept}
use Rattle.radio.specs.AtOnce.{AtOnce, Untouched, Early}

module _ (n : ℕ) (img : List ℕ) (t : Tag) (w : Wait) (f : List ℕ) (bits : ℕ) (parity : Bool) where
  -- where READ of page 00h leads to no other state
  untouched : (s : State) → activated s ≡ s → Untouched n img t w f bits parity s
  unfolding heard moved
  untouched s k = rw (← hearing_kept f bits parity s s refl k)

  at_once : (ready : Wait → State) → activated (ready w) ≡ Active w false
      → (get_or f 0 0 ≡ 0x30 → heard_in (ready w) n img (moved t (ready w)) f bits parity ≡ lost (moved t (ready w))) → AtOnce n img t w f bits parity ready
  unfolding heard hearing moved
  at_once ready k other = record {
    as_active = λ y. rw (y, k);
    as_before = λ y. rw y;
    other_read = λ y a. rw y (other a);
  }

  as_read : (a : Bool) → length f ≡ (bits + 7) / 8 → is_read_zero f bits parity ≡ true → in_active n img (moved t (Active w a)) f bits parity ≡ read n img (moved t (Active w a)) 0x00
  unfolding is_read_zero in_active command_of
  as_read a whole y =
      let e = eqb-true bits 32 (and_left (eqb bits 32) _ y) in
      let b = and_right (eqb bits 32) _ y in
      let c = and_right (eqb (get_or f 0 0) 0x30) _ b in
      let d = and_right (eqb (get_or f 1 0) 0x00) _ c in
      let l : length f ≡ 4 = omega arith in
      rw (e, l, d, eqb-true (get_or f 0 0) 0x30 (and_left (eqb (get_or f 0 0) 0x30) _ b), eqb-true (get_or f 1 0) 0x00 (and_left (eqb (get_or f 1 0) 0x00) _ c))

  pub early : Early n img t w f bits parity
  unfolding in_ready in_ready1 in_ready2
  early = record {
    ready1 = at_once Ready1 refl (λ a. rw (a, and-false parity));
    ready2 = at_once Ready2 refl (λ a. rw (a, and-false parity));
    idle = untouched Idle refl;
    halt = untouched Halt refl;
    active = λ a. untouched (Active w a) refl;
    reads = λ a whole y. untouched (Active w a) refl ∙ as_read a whole y;
  }
