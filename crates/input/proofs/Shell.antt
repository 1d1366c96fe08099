-- Laws of turns: what the program has said and kept behind each, and behind all of them. Assumes nothing.
use Prim.Native.Nat.{ℕ, zero, suc, ◌+◌, ◌≤◌}
use mathlib.Core.Path.{◌≡◌, refl, sym, ap, ap₂, subst, ◌∙◌}
use mathlib.Core.Bool.{Bool, true, false, cond, ◌||◌, or-false}
use mathlib.Core.List.{List, [], ◌∷◌, ◌++◌, append_assoc, append-nil}
use native.Mathlib.Omega.{arith}
use lib.Dec.{eqb, ltb}
use lib.ListN.{length, take, drop, length-append, length-drop}
use borrow.Author.Tests.{lt-ltb, le-ltb, ltb-true, ltb-false, eqb-true, eqb-false}
use Rattle.basics.proofs.Choice.{split}
use Rattle.basics.specs.Runs.{index_after, index_of}
use Rattle.input.specs.Lines.{Program, answer_to, kept_after, first_line, has_newline, behind_line}
use Rattle.std.specs.Prelude.{Option}
use Rattle.std.specs.Io.KnownBytes.{Consumes}
use Rattle.std.proofs.KnownBytes.{Consumes-nil, Consumes-trans}
use Rattle.input.specs.Reading.{line_room, kept, Held, is_whole, is_over, Advances, Takes}
use Rattle.input.specs.declared.Step.{Step}
use Rattle.input.specs.declared.Step.TheVariants as step
use Rattle.input.specs.Running.{Typing, came, typed, start, kept_at_end, LongAlike, Stands, Turns, Goes, Reached, AtEnd}
use Rattle.input.proofs.Cut.{none_there}
use Rattle.input.proofs.Long.{answer_kept, next_kept}

-- ---- one turn

-- what a line is kept of shows what is kept of a longer one
kept_more : (n : ℕ) (l xs : List ℕ) → take n (take n l ++ xs) ≡ take n (l ++ xs)
kept_more zero l xs = refl
kept_more (suc n) [] xs = refl
kept_more (suc n) (x ∷ l) xs = ap (λ (r : List ℕ). x ∷ r) (kept_more n l xs)

module _ {Kept : Type 0} (p : Program Kept) (alike : LongAlike p) (k : Kept) (i moved : Held) (s : Step) (step : Advances i s moved) where
  -- from wherever the program stands
  module _ (t : Typing Kept) (stands : Stands t k i) where
    abbrev come : List ℕ
    come = first_line i.ahead

    line_kept : moved.line ≡ kept (t.line ++ come)
    line_kept = step.line ∙ ap (λ (g : List ℕ). kept (g ++ come)) stands.line ∙ kept_more line_room t.line come

    answers_from : (k' : Kept) (next : Held) (text l : List ℕ) → is_whole s ≡ true
        → l ≡ moved.line
        → k' ≡ kept_after p k l
        → text ≡ answer_to p k l
        → next.ahead ≡ moved.ahead
        → next.line ≡ []
        → Turns p t i.ahead s k' next text
    answers_from k' next text l whole here left answer same none =
        let ended : (has_newline i.ahead || is_over s) ≡ true = sym step.whole ∙ whole in
        record {
          stands = rw ended (record {
            keeps = left ∙ ap₂ (kept_after p) stands.keeps (here ∙ line_kept) ∙ next_kept p alike t.kept (t.line ++ come);
            line = none;
          });
          text = rw ended (answer ∙ ap₂ (answer_to p) stands.keeps (here ∙ line_kept) ∙ answer_kept p alike t.kept (t.line ++ come));
          moves = record {
            behind = (λ some. same ∙ step.moves.behind some);
            over = step.moves.over;
            ended = (λ z. step.moves.ended z ∙ ap (λ (x : List ℕ). eqb (length x) 0) (sym same));
          };
        }

    waits_from : (text : List ℕ) → is_whole s ≡ false → text ≡ [] → Turns p t i.ahead s k moved text
    waits_from text whole none =
        let open_yet : (has_newline i.ahead || is_over s) ≡ false = sym step.whole ∙ whole in
        record {
          stands = rw open_yet (record { keeps = stands.keeps; line = line_kept });
          text = rw open_yet none;
          moves = step.moves;
        }

  pub turn_answers : (k' : Kept) (next : Held) (text l : List ℕ) → is_whole s ≡ true
      → l ≡ moved.line
      → k' ≡ kept_after p k l
      → text ≡ answer_to p k l
      → next.ahead ≡ moved.ahead
      → next.line ≡ []
      → Goes p k i s k' next text
  turn_answers k' next text l whole here left answer same none =
      record { on = (λ t stands. answers_from t stands k' next text l whole here left answer same none) }

  pub turn_waits : (text : List ℕ) → is_whole s ≡ false → text ≡ [] → Goes p k i s k moved text
  turn_waits text whole none = record { on = (λ t stands. waits_from t stands text whole none) }

-- a step that doesn't leave the line open is its end
pub whole_else : (s : Step) → (s ≡ step.Part → ⊥) → is_whole s ≡ true
whole_else step.Part h = absurd (h refl)
whole_else step.Line h = refl
whole_else step.End h = refl

pub open_part : (s : Step) → s ≡ step.Part → is_whole s ≡ false
open_part s e = rw e

pub over_end : (s : Step) → s ≡ step.End → is_over s ≡ true
over_end s e = rw e

pub over_else : (s : Step) → (s ≡ step.End → ⊥) → is_over s ≡ false
over_else step.Part h = refl
over_else step.Line h = refl
over_else step.End h = absurd (h refl)

-- ---- a whole run

module _ {Kept : Type 0} (p : Program Kept) where
  -- no character comes, and no end of the line
  nothing_came : (t : Typing Kept) → came p t [] false ≡ t
  nothing_came t = ap (λ (l : List ℕ). record { kept = t.kept; line = l }) (append-nil t.line)

  -- a character, and those behind it
  one_came : (t : Typing Kept) (b : ℕ) (xs : List ℕ) (ended : Bool) → came p (came p t (b ∷ []) false) xs ended ≡ came p t (b ∷ xs) ended
  one_came t b xs ended =
      ap (λ (l : List ℕ). cond ended (record { kept = kept_after p t.kept l; line = [] }) (record { kept = t.kept; line = l })) (append_assoc t.line (b ∷ []) xs)

  -- a line's characters at once, or one by one
  module _ (t : Typing Kept) (b : ℕ) (r : List ℕ) where
    -- what is typed where the newline is the n-th byte
    abbrev at_once : ℕ → Typing Kept
    at_once n = typed p (came p t (take n (b ∷ r)) (ltb n (length (b ∷ r)))) (drop (n + 1) (b ∷ r))

    newline_now : eqb b 10 ≡ true → typed p t (b ∷ r) ≡ at_once (index_of 10 (b ∷ r))
    unfolding typed index_of index_after
    newline_now e =
        let h : ltb 0 (length (b ∷ r)) ≡ true = lt-ltb 0 (length (b ∷ r)) (omega arith) in
        let k : index_of 10 (b ∷ r) ≡ 0 = ap (λ (x : Bool). index_after x (index_of 10 r)) e in
        ap (λ (x : Bool). typed p (cond x (came p t [] true) (came p t (b ∷ []) false)) r) e
        ∙ ap (λ (x : Bool). typed p (came p t [] x) r) (sym h)
        ∙ ap at_once (sym k)

    newline_later : eqb b 10 ≡ false
        → typed p (came p t (b ∷ []) false) r ≡ typed p (came p (came p t (b ∷ []) false) (first_line r) (has_newline r)) (behind_line r)
        → typed p t (b ∷ r) ≡ at_once (index_of 10 (b ∷ r))
    unfolding typed index_of index_after
    newline_later e rest =
        let n = index_of 10 r in
        let k : index_of 10 (b ∷ r) ≡ suc n = ap (λ (x : Bool). index_after x n) e in
        let q : suc (n + 1) ≡ suc n + 1 = omega arith in
        let h : ltb n (length r) ≡ ltb (suc n) (length (b ∷ r)) =
        split (ltb n (length r))
        (λ y. y ∙ sym (lt-ltb (suc n) (length (b ∷ r)) (omega (arith, ltb-true n (length r) y))))
        (λ y. y ∙ sym (le-ltb (suc n) (length (b ∷ r)) (omega (arith, ltb-false n (length r) y)))) in
        ap (λ (x : Bool). typed p (cond x (came p t [] true) (came p t (b ∷ []) false)) r) e
        ∙ rest
        ∙ ap (λ (u : Typing Kept). typed p u (behind_line r)) (one_came t b (first_line r) (has_newline r))
        ∙ ap₂ (λ (o : Bool) (j : ℕ). typed p (came p t (b ∷ take n r) o) (drop j (b ∷ r))) h q
        ∙ ap at_once (sym k)

  typed_line : (t : Typing Kept) (a : List ℕ) → typed p t a ≡ typed p (came p t (first_line a) (has_newline a)) (behind_line a)
  unfolding typed index_of
  typed_line t [] = sym (nothing_came t)
  typed_line t (b ∷ r) = split (eqb b 10) (newline_now t b r) (λ e. newline_later t b r e (typed_line (came p t (b ∷ []) false) r))

  typed_more : (t : Typing Kept) (a xs : List ℕ) → typed p t (a ++ xs) ≡ typed p (typed p t a) xs
  unfolding typed
  typed_more t [] xs = refl
  typed_more t (b ∷ a) xs = typed_more (cond (eqb b 10) (came p t [] true) (came p t (b ∷ []) false)) a xs

  pub reached_start : (a : Option (List ℕ)) (k : Kept) (i : Held) → k ≡ p.opening → (i.ahead ≡ []) × (i.line ≡ []) → Reached p a a 0 k i
  unfolding typed
  reached_start a k i opened (ahead, line) =
      record {
        all = [];
        read = Consumes-nil a;
        typing = start p;
        stands = record { keeps = opened; line = line };
        same = ap (typed p (start p)) ahead;
        few = omega (arith, ap length ahead);
      }

  module _ (a b b' : Option (List ℕ)) (turns : ℕ) (k k' : Kept) (i i' : Held) (s : Step) (text : List ℕ) (reached : Reached p a b turns k i)
      (goes : Goes p k i s k' i' text) (takes : Takes b b' i i') where
    abbrev was : List ℕ
    was = i.ahead

    abbrev here : Typing Kept
    here = reached.typing

    turned : Turns p here was s k' i' text
    turned = goes.on here reached.stands

    -- what is behind a line is less than all of it
    less : (length was ≡ 0 → ⊥) → length (behind_line was) + 1 ≤ length was
    less some = omega (arith, length-drop (index_of 10 was + 1) was, some)

    -- what was read, where this turn reads
    read_more : length was ≡ 0 → Consumes a b' (reached.all ++ i'.ahead)
    read_more none = Consumes-trans a b b' reached.all i'.ahead reached.read (takes.read none)

    pub reached_next : is_over s ≡ false → Reached p a b' (turns + 1) k' i'
    unfolding index_of typed
    reached_next going =
        split (eqb (length was) 0)
        (λ e. let none : was ≡ [] = none_there was (eqb-true (length was) 0 e) in
        let same : came p here (first_line was) (has_newline was || is_over s) ≡ typed p (start p) reached.all =
        ap₂ (λ (x : List ℕ) (o : Bool). came p here (first_line x) (has_newline x || o)) none going
        ∙ nothing_came here
        ∙ ap (typed p here) (sym none)
        ∙ reached.same in
        let got : (length i'.ahead ≡ 0 → ⊥) = eqb-false (length i'.ahead) 0 (sym (turned.moves.ended (eqb-true (length was) 0 e)) ∙ going) in
        record {
          all = reached.all ++ i'.ahead;
          read = read_more (eqb-true (length was) 0 e);
          typing = came p here (first_line was) (has_newline was || is_over s);
          stands = turned.stands;
          same = ap (λ (u : Typing Kept). typed p u i'.ahead) same ∙ sym (typed_more (start p) reached.all i'.ahead);
          few = omega (arith, reached.few, length-append reached.all i'.ahead, got);
        })
        (λ e. let behind : i'.ahead ≡ behind_line was = turned.moves.behind (eqb-false (length was) 0 e) in
        let ended : (has_newline was || is_over s) ≡ has_newline was =
        ap (λ (o : Bool). has_newline was || o) going ∙ or-false (has_newline was) in
        record {
          all = reached.all;
          read = subst (λ (x : Option (List ℕ)). Consumes a x reached.all) (sym (takes.rests (eqb-false (length was) 0 e))) reached.read;
          typing = came p here (first_line was) (has_newline was || is_over s);
          stands = turned.stands;
          same =
              ap₂ (λ (o : Bool) (x : List ℕ). typed p (came p here (first_line was) o) x) ended behind
              ∙ sym (typed_line here was)
              ∙ reached.same;
          few = omega (arith, reached.few, less (eqb-false (length was) 0 e), ap length behind);
        })

    pub reached_end : is_over s ≡ true → AtEnd p a b' k'
    unfolding index_of typed kept_at_end
    reached_end over =
        let none : was ≡ [] = none_there was (turned.moves.over over) in
        let rest : i'.ahead ≡ [] = none_there i'.ahead (eqb-true (length i'.ahead) 0 (sym (turned.moves.ended (turned.moves.over over)) ∙ over)) in
        let same : here ≡ typed p (start p) reached.all = ap (typed p here) (sym none) ∙ reached.same in
        record {
          all = reached.all;
          read = subst (Consumes a b') (ap (λ (x : List ℕ). reached.all ++ x) rest ∙ append-nil reached.all) (read_more (turned.moves.over over));
          kept =
              turned.stands.keeps
              ∙ ap₂ (λ (x : List ℕ) (o : Bool). (came p here (first_line x) (has_newline x || o)).kept) none over
              ∙ ap (λ (u : Typing Kept). (came p u [] true).kept) same;
        }
