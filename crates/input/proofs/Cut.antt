-- Laws of how lines are cut from the input: which bytes a line holds, and what is ahead then. Assumes nothing.
use Prim.Native.Nat.{ℕ, zero, suc, ◌+◌, ◌-◌, ◌<◌, ◌≤◌}
use mathlib.Core.Path.{◌≡◌, refl, sym, ap, subst, ◌∙◌}
use mathlib.Core.Bool.{or-true}
use mathlib.Core.List.{List, [], ◌∷◌, ◌++◌, append-nil, append_assoc}
use native.Mathlib.Omega.{arith}
use lib.Dec.{leb}
use lib.ListN.{length, take, drop, length-take, length-drop, length-append, drop_of_length-le}
use lib.Seq.{take-nil, take_all, take-take, take-append_seam, take-append-add, drop-drop, length-take-le}
use borrow.Author.Tests.{lt-ltb, le-ltb, ne_eqb, leb-true, leb-false}
use Rattle.std.specs.Prelude.{Option, Result, Ok, Err, min}
use Rattle.std.specs.Result.{result_unwrap_or}
use Rattle.std.specs.Io.{ReadsAtMost}
use Rattle.std.specs.Io.KnownBytes.{Consumes, ReadConsumes}
use Rattle.std.proofs.KnownBytes.{Consumes-nil, Consumes-kept}
use Rattle.basics.proofs.Choice.{never, split}
use Rattle.basics.specs.Runs.{index_of, slice}
use Rattle.input.specs.Lines.{first_line, has_newline}
use Rattle.input.specs.Reading.{line_room, kept, Places, Held, Advances, Takes}
use Rattle.input.specs.declared.Step.TheVariants as step

-- ---- bytes behind a line, as many as it has room for

-- the first `len` bytes of a buffer, with the first `count` of a run behind them
module _ (buffer bytes : List ℕ) (len count : ℕ) (whole : length buffer ≡ line_room) (fits : len ≤ line_room)
    (most : count ≡ min (length bytes) (line_room - len)) where
  abbrev front : List ℕ
  front = take len buffer

  front_length : length front ≡ len
  front_length = length-take-le len buffer (omega (arith, whole, fits))

  laid_front : (to behind rest : List ℕ) → to ≡ take count bytes ++ behind → take (len + count) (front ++ (to ++ rest)) ≡ front ++ take count bytes
  laid_front to behind rest e =
      let k : count ≤ length bytes = omega (arith, most) in
      let c : length (take count bytes) ≡ count = length-take-le count bytes k in
      ap (λ (n : ℕ). take n (front ++ (to ++ rest))) (ap (λ (x : ℕ). x + count) (sym front_length))
      ∙ take-append-add front (to ++ rest) count
      ∙ ap (λ (x : List ℕ). front ++ take count (x ++ rest)) e
      ∙ ap (λ (x : List ℕ). front ++ take count x) (append_assoc (take count bytes) behind rest)
      ∙ ap (λ (n : ℕ). front ++ take n (take count bytes ++ (behind ++ rest))) (sym c)
      ∙ ap (λ (x : List ℕ). front ++ x) (take-append_seam (take count bytes) (behind ++ rest))

  all_kept : front ++ take count bytes ≡ kept (front ++ bytes)
  all_kept =
      split (leb (length bytes) (line_room - len))
      (λ t. let l : length bytes ≤ line_room - len = leb-true (length bytes) (line_room - len) t in
      let q : count ≡ length bytes = omega (arith, most, l) in
      let n : length (front ++ bytes) ≤ line_room = simp length-append (omega (arith, front_length, fits, l)) in
      ap (λ (xs : List ℕ). front ++ xs) (ap (λ (x : ℕ). take x bytes) q ∙ take_all (length bytes) bytes (omega arith)) ∙ sym (take_all line_room (front ++ bytes) n))
      (λ t. let l : line_room - len < length bytes = leb-false (length bytes) (line_room - len) t in
      let q : length front + count ≡ line_room = omega (arith, front_length, most, fits, l) in
      sym (take-append-add front bytes count) ∙ ap (λ (x : ℕ). take x (front ++ bytes)) q)

  pub append_kept : (to behind rest : List ℕ) → to ≡ take count bytes ++ behind → take (len + count) (front ++ (to ++ rest)) ≡ kept (front ++ bytes)
  append_kept to behind rest e = laid_front to behind rest e ∙ all_kept

pub line_few : (buffer : List ℕ) (len : ℕ) → len ≤ line_room → length (take len buffer) ≤ line_room
line_few buffer len fits = simp length-take (omega (arith, fits))

-- what is kept of a line has room
pub kept_few : (l new : List ℕ) → new ≡ kept l → length new ≤ line_room
kept_few l new e = let q : length new ≡ length (kept l) = ap length e in omega (arith, q, length-take line_room l)

-- ---- what is ahead: how much it is

pub ahead_length : (chunk : List ℕ) (at end : ℕ) → end ≤ length chunk → length (slice at end chunk) ≡ end - at
unfolding slice
ahead_length chunk at end few = simp (length-drop, length-take) (omega (arith, few))

pub none_ahead : (chunk : List ℕ) (at end : ℕ) → end ≤ at → slice at end chunk ≡ []
unfolding slice
none_ahead chunk at end h =
    let t : length (take end chunk) ≤ at = simp length-take (omega arith) in
    drop_of_length-le (take end chunk) t

pub none_there : (a : List ℕ) → length a ≡ 0 → a ≡ []
none_there [] e = refl
none_there (x ∷ r) e = absurd (omega arith)

pub some_ahead : (chunk : List ℕ) (at end : ℕ) → end ≤ length chunk → at < end → slice at end chunk ≡ [] → ⊥
some_ahead chunk at end few h e = omega (arith, ahead_length chunk at end few, ap length e)

-- ---- a read

-- no more bytes than the chunk has room for
read_few : {E : Type 0} (r : Result ℕ E) (chunk : List ℕ) (n : ℕ) → ReadsAtMost r chunk → n ≡ result_unwrap_or r 0 → n ≤ length chunk
read_few (Ok k) chunk n b e = omega (arith, b.0, e)
read_few (Err x) chunk n b e = omega (arith, e)

module _ (i : Held) (line chunk : List ℕ) (p : Places) (n : ℕ) (few : length line ≤ line_room) (same : line ≡ i.line) (none : i.ahead ≡ []) where
  line_stays : line ≡ kept (i.line ++ first_line i.ahead)
  unfolding index_of
  line_stays =
      sym (take_all line_room line few)
      ∙ ap kept (same ∙ sym (append-nil i.line))
      ∙ ap (λ (x : List ℕ). kept (i.line ++ first_line x)) (sym none)

  pub read_end : 0 ≡ n → Advances i step.End (record { ahead = slice 0 n chunk; line = line; places = p })
  read_end e =
      let q : length (slice 0 n chunk) ≡ 0 = ap length (none_ahead chunk 0 n (omega (arith, e))) in
      record {
        line = line_stays;
        whole = sym (or-true (has_newline i.ahead));
        moves = record { behind = (λ some. absurd (some (ap length none))); over = (λ h. ap length none); ended = (λ h. rw q) };
      }

  pub read_some : {E : Type 0} (r : Result ℕ E) → ReadsAtMost r chunk → n ≡ result_unwrap_or r 0 → (0 ≡ n → ⊥)
      → Advances i step.Part (record { ahead = slice 0 n chunk; line = line; places = p })
  unfolding slice index_of
  read_some r b f some =
      let q : length (slice 0 n chunk) ≡ n = ahead_length chunk 0 n (read_few r chunk n b f) ∙ omega arith in
      record {
        line = line_stays;
        whole = rw none;
        moves = record {
          behind = (λ s. absurd (s (ap length none)));
          over = (λ h. ap length none);
          ended = (λ h. sym (ne_eqb (length (slice 0 n chunk)) 0 (λ z. some (omega (arith, q, z)))));
        };
      }

-- ---- what is ahead, up to its first newline

-- a part that begins behind the front of a front
part : (n m : ℕ) (l : List ℕ) → drop n (take m l) ≡ take (m - n) (drop n l)
part zero m l = let p : m - 0 ≡ m = omega arith in ap (λ (k : ℕ). take k l) (sym p)
part (suc n) zero l = let p : 0 - suc n ≡ 0 = omega arith in ap (λ (k : ℕ). take k (drop (suc n) l)) (sym p)
part (suc n) (suc m) [] = sym (take-nil (suc m - suc n))
part (suc n) (suc m) (x ∷ l) = let p : suc m - suc n ≡ m - n = omega arith in part n m l ∙ ap (λ (k : ℕ). take k (drop n l)) (sym p)

module _ (i : Held) (line out chunk : List ℕ) (was now : Places) (at end stop : ℕ) (is : record { ahead = slice at end chunk; line = line; places = was } ≡ i) (fits : end ≤ length chunk)
    (some : i.ahead ≡ [] → ⊥) (found : stop ≡ at + index_of 10 (slice at end chunk)) (within : stop ≤ end)
    (laid : out ≡ kept (line ++ take (stop - at) (drop at chunk))) where
  abbrev a : List ℕ
  a = slice at end chunk

  begun : at < end
  begun =
      split (leb end at)
      (λ e. absurd (some (sym (ap (λ (x : Held). x.ahead) is) ∙ none_ahead chunk at end (leb-true end at e))))
      (λ e. leb-false end at e)

  many : length a ≡ end - at
  many = ahead_length chunk at end fits

  first_is : take (stop - at) (drop at chunk) ≡ first_line a
  unfolding slice
  first_is =
      let p : index_of 10 a ≡ stop - at = omega (arith, found) in
      let q : stop - at ≤ end - at = omega (arith, within) in
      sym (ap (λ (k : ℕ). take k a) p ∙ ap (take (stop - at)) (part at end chunk) ∙ take-take (stop - at) (end - at) (drop at chunk) q)

  line_is : out ≡ kept (line ++ first_line a)
  line_is = laid ∙ ap (λ (x : List ℕ). kept (line ++ x)) first_is

  pub line_ended : stop < end → Advances i step.Line (record { ahead = slice (stop + 1) end chunk; line = out; places = now })
  unfolding slice
  line_ended h =
      let p : index_of 10 a < length a = omega (arith, found, many, begun) in
      let q : at + (index_of 10 a + 1) ≡ stop + 1 = omega (arith, found) in
      subst (λ (x : Held). Advances x step.Line (record { ahead = slice (stop + 1) end chunk; line = out; places = now })) is
      (record {
        line = line_is;
        whole = rw (lt-ltb (index_of 10 a) (length a) p);
        moves = record {
          behind = (λ n. sym (drop-drop (index_of 10 a + 1) at (take end chunk) ∙ ap (λ (k : ℕ). drop k (take end chunk)) q));
          over = (λ e. never (sym e));
          ended = (λ e. absurd (omega (arith, p)));
        };
      })

  pub line_open : end ≤ stop → Advances i step.Part (record { ahead = slice end end chunk; line = out; places = now })
  unfolding slice
  line_open h =
      let p : length a ≤ index_of 10 a = omega (arith, found, many) in
      let q : length a ≤ index_of 10 a + 1 = omega arith in
      subst (λ (x : Held). Advances x step.Part (record { ahead = slice end end chunk; line = out; places = now })) is
      (record {
        line = line_is;
        whole = rw (le-ltb (index_of 10 a) (length a) p);
        moves = record {
          behind = (λ n. none_ahead chunk end end (omega arith) ∙ sym (drop_of_length-le a q));
          over = (λ e. never (sym e));
          ended = (λ e. absurd (omega (arith, many, begun)));
        };
      })

-- ---- what a step takes of its reader

pub read_takes : {E : Type 0} (a b : Option (List ℕ)) (r : Result ℕ E) (chunk : List ℕ) (n : ℕ) (i next : Held) → i.ahead ≡ []
    → n ≡ result_unwrap_or r 0
    → ReadConsumes a b r chunk
    → next.ahead ≡ slice 0 n chunk
    → Takes a b i next
unfolding slice
read_takes a b (Ok k) chunk n i next none e c s =
    record {
      read = (λ z. subst (Consumes a b) (sym (s ∙ ap (λ (m : ℕ). take m chunk) e)) c.0);
      rests = (λ some. absurd (some (ap length none)));
    }
read_takes a b (Err x) chunk n i next none e c s =
    record {
      read = (λ z. subst (Consumes a b) (sym (s ∙ ap (λ (m : ℕ). take m chunk) e)) (Consumes-kept a a b [] (Consumes-nil a) c));
      rests = (λ some. absurd (some (ap length none)));
    }

pub none_taken : (a : Option (List ℕ)) (i next : Held) → (length i.ahead ≡ 0 → ⊥) → Takes a a i next
none_taken a i next some = record { read = (λ z. absurd (some z)); rests = (λ s. refl) }

-- what is ahead alone counts
pub takes_ahead : (a b : Option (List ℕ)) (i moved next : Held) → next.ahead ≡ moved.ahead → Takes a b i moved → Takes a b i next
takes_ahead a b i moved next e t = record { read = (λ z. subst (Consumes a b) (sym e) (t.read z)); rests = t.rests }
