-- Laws of a table of commands, whatever its rows, and of a whole line. Assumes nothing.
use Prim.Native.Nat.{ℕ, suc, ◌+◌, ◌<◌, ◌≤◌}
use mathlib.Core.Path.{◌≡◌, refl, ap, sym, subst, subst⁻¹, ◌∙◌}
use mathlib.Core.Bool.{Bool, true, false, cond}
use mathlib.Core.List.{List, [], ◌∷◌, ◌++◌}
use native.Mathlib.Omega.{arith}
use lib.ListN.{length, take, drop, get_or}
use borrow.Author.Tests.{lt-ltb, le-ltb}
use denote.Ref.{Bor}
use Rattle.std.specs.Prelude.{◌≢◌, Option, Some, None, Result, Ok, Err, IfSome, IsSomeAnd, IfOk, unwrap_or, option_map, option_copied}
use Rattle.std.specs.List.{All, find}
use Rattle.std.specs.Str.{bytes_eq}
use Rattle.std.proofs.lemmas.List.{length-map}
use Rattle.std.proofs.lemmas.Slice.Eq.{bytes_eq-Decides}
use Rattle.basics.proofs.Choice.{split}
use Rattle.words.proofs.Arguing.{looked_up}
use Rattle.words.specs.Word.{word_end, first_of}
use Rattle.words.specs.Args.{Form, form_of, Said, long, argued, forms_of, said_by, room_for, GivenFits}
use Rattle.words.specs.Rows.{Named, asks, row_in, Command, argued_by, said_in, command_of, command_in, rows_of, CommandFits, TableFits, given_of, verb_by, verb_in, Asks, ByWord}
use Rattle.words.specs.declared.args.Refusal.{Refusal}
use Rattle.words.specs.declared.args.Refusal.TheVariants as refusal
use Rattle.words.specs.declared.args.Given.{Given}
use Rattle.words.specs.declared.rows.Row.{Row}
use Rattle.words.specs.declared.rows.Asked.{Asked}
use Rattle.words.specs.declared.rows.Refused.{Refused}

infixr 4 ◌and◌
pub ◌and◌ : {A B : Type 0} → A → B → A × B
a and b = (a, b)

-- ---- the row of a word

same_choice : {V : Type 0} (o : Bool) (r : Row V) (x : Option (Row V)) (y : Option (Command V)) → option_map command_of x ≡ y
    → option_map command_of (cond o (Some r) x) ≡ cond o (Some (command_of r)) y
same_choice true r x y e = refl
same_choice false r x y e = e

found_row : {V : Type 0} (table : List (Row V)) (w : List ℕ) → option_map command_of (find (λ r. bytes_eq r.word.now w) table) ≡ row_in (rows_of table) w
found_row [] w = refl
found_row (r ∷ rs) w = same_choice (bytes_eq r.word.now w) r (find (λ r. bytes_eq r.word.now w) rs) (row_in (rows_of rs) w) (found_row rs w)

-- a word is compared by its letters, and the first row that has it is found
module _ {V : Type 0} (w : List ℕ) where
  abbrev test : Row V → Bool
  test x = bytes_eq x.word.now w

  its_word : (table : List (Row V)) (r : Row V) → find test table ≡ Some r → r.word.now ≡ w
  its_word [] r e = absurd (let z : ◌≡◌ {A = ℕ} 0 1 = cc in omega arith)
  its_word (x ∷ xs) r e =
      split (test x)
      (λ t. let h : x ≡ r = cc in subst (λ (y : Row V). y.word.now ≡ w) h ((bytes_eq-Decides x.word.now w).0 t))
      (λ t. let h : find test xs ≡ Some r = sym (ap (λ (o : Bool). cond o (Some x) (find test xs)) t) ∙ e in its_word xs r h)

  first_found : (front back : List (Row V)) (r : Row V) → All (λ x. x.word.now ≢ w) front → r.word.now ≡ w → find test (front ++ (r ∷ back)) ≡ Some r
  first_found [] back r none e = ap (λ (o : Bool). cond o (Some r) (find test back)) ((bytes_eq-Decides r.word.now w).1 e)
  first_found (x ∷ xs) back r none e =
      split (test x)
      (λ t. absurd (none 0 x (omega arith) ((bytes_eq-Decides x.word.now w).0 t)))
      (λ t. ap (λ (o : Bool). cond o (Some x) (find test (xs ++ (r ∷ back)))) t ∙ first_found xs back r (λ k d h. none (suc k) d (omega (arith, h))) e)

  pub by_word : (table : List (Row V)) → ByWord table w
  by_word table =
      record {
        just = (λ l. bytes_eq-Decides l w);
        apart = (λ l v e f. sym ((bytes_eq-Decides l v).0 f) ∙ (bytes_eq-Decides l w).0 e);
        found = its_word table;
        first = (λ front back r cut none e. ap (find test) cut ∙ first_found front back r none e);
      }

-- what every row has, the row of any word has
module _ {R : Type 0} (P : R → Type 0) where
  abbrev pub Each : List (Named R) → Type 0
  Each [] = Unit {0}
  Each (asks l r ∷ ns) = P r × Each ns

  pub each_row : (ns : List (Named R)) → Each ns → (w : List ℕ) (r : R) → row_in ns w ≡ Some r → P r
  each_row [] p w r e = absurd (let z : ◌≡◌ {A = ℕ} 0 1 = cc in omega arith)
  each_row (asks l x ∷ ns) (p, ps) w r e =
      split (bytes_eq l w)
      (λ t. let h : x ≡ r = cc in subst P h p)
      (λ t. let h : row_in ns w ≡ Some r = sym (ap (λ (o : Bool). cond o (Some x) (row_in ns w)) t) ∙ e in each_row ns ps w r h)

table_fits : {V : Type 0} (room : ℕ) (ns : List (Named (Command V))) → TableFits room ns → (w : List ℕ) (c : Command V) → row_in ns w ≡ Some c → CommandFits room c
table_fits room [] f w c e = absurd (let z : ◌≡◌ {A = ℕ} 0 1 = cc in omega arith)
table_fits room (asks l x ∷ ns) (p, ps) w c e =
    split (bytes_eq l w)
    (λ t. let h : x ≡ c = cc in subst (CommandFits room) h p)
    (λ t. let h : row_in ns w ≡ Some c = sym (ap (λ (o : Bool). cond o (Some x) (row_in ns w)) t) ∙ e in table_fits room ns ps w c h)

-- ---- a whole line

-- a line that is too long is so whatever its command is
pub too_long_lem : {V : Type 0} (longest : ℕ) (c : Option (Command V)) (w : List ℕ) → longest < length w → said_in longest c w ≡ long
unfolding said_in
too_long_lem longest c w h = rw (lt-ltb longest (length w) h)

module _ {V : Type 0} (longest : ℕ) (text : List ℕ) (o : Option (Bor (Row V))) where
  pub long_said : longest < length text → long ≡ said_in longest (command_in o) text
  long_said h = sym (too_long_lem longest (command_in o) text h)

  short_said : length text ≤ longest → argued_by (command_in o) text ≡ said_in longest (command_in o) text
  unfolding said_in
  short_said h = rw (le-ltb longest (length text) h)

  pub unknown_said : (x : Result Given Refusal) (ys : List ℕ) → length text ≤ longest → o ≡ None → x ≡ Err refusal.Unknown → said_by x ys ≡ said_in longest (command_in o) text
  unknown_said x ys h n z =
      ap (λ (y : Result Given Refusal). said_by y ys) z ∙ ap (λ (y : Option (Bor (Row V))). argued_by (command_in y) text) (sym n) ∙ short_said h

  module _ (row : Bor (Row V)) (known : o ≡ Some row) where
    pub known_said : (s : Said) → length text ≤ longest → s ≡ argued row.now.needed (forms_of row.now.kinds.now) text → s ≡ said_in longest (command_in o) text
    known_said s h a = a ∙ ap (λ (y : Option (Bor (Row V))). argued_by (command_in y) text) (sym known) ∙ short_said h

module _ {V : Type 0} (o : Option (Bor (Row V))) (row : Bor (Row V)) (known : o ≡ Some row) where
  pub fits : (room : ℕ) → IfSome o (λ r. CommandFits room (command_of r.now)) → (length row.now.kinds.now ≤ 3) × (room_for (forms_of row.now.kinds.now) ≤ room)
  fits room f =
      let h : CommandFits room (command_of row.now) = subst (λ (y : Option (Bor (Row V))). IfSome y (λ r. CommandFits room (command_of r.now))) known f in
      (omega (arith, h.0, length-map row.now.kinds.now form_of), h.1)

  pub given_fit : (x : Result Given Refusal) → IfOk x (λ g. GivenFits (forms_of row.now.kinds.now) g) → IfOk x (λ g. IsSomeAnd o (λ r. GivenFits (forms_of r.now.kinds.now) g))
  given_fit (Ok g) h = subst⁻¹ (λ (y : Option (Bor (Row V))). IsSomeAnd y (λ r. GivenFits (forms_of r.now.kinds.now) g)) known h
  given_fit (Err e) h = tt

-- ---- the row of the text's first word

pub record FoundRow {V : Type 0} (table : List (Row V)) (text : List ℕ) (o : Option (Bor (Row V))) : Type 0 where
  pub row : row_in (rows_of table) (first_of text) ≡ command_in o

pub row_found : {V : Type 0} (table : List (Row V)) (text : List ℕ) (o : Option (Bor (Row V))) (end : ℕ) → option_copied o ≡ find (λ r. bytes_eq r.word.now (take end text)) table
    → end ≡ 0 + word_end (drop 0 text) → FoundRow table text o
row_found table text o end found e =
    let p : end ≡ word_end text = omega (arith, e) in
    record {
      row = sym (found_row table (first_of text)) ∙ ap (λ (k : ℕ). option_map command_of (find (λ r. bytes_eq r.word.now (take k text)) table)) (sym p) ∙ ap (option_map command_of) (sym found);
    }

module _ {V : Type 0} (table : List (Row V)) (text : List ℕ) where
  abbrev the_row : Option (Command V)
  the_row = row_in (rows_of table) (first_of text)

  -- the row that is found fits the room as all do
  pub row_fits : (room : ℕ) (o : Option (Bor (Row V))) → FoundRow table text o → TableFits room (rows_of table) → IfSome o (λ r. CommandFits room (command_of r.now))
  row_fits room None found f = tt
  row_fits room (Some r) found f = table_fits room (rows_of table) f (first_of text) (command_of r.now) found.row

  pub row_said : (longest : ℕ) (o : Option (Bor (Row V))) (s : Said) → FoundRow table text o → s ≡ said_in longest (command_in o) text → s ≡ said_in longest the_row text
  row_said longest o s found e = e ∙ ap (λ (c : Option (Command V)). said_in longest c text) (sym found.row)

  -- the verb of what is found
  pub row_verb : (o : Option (Bor (Row V))) (v : Option V) → FoundRow table text o → v ≡ option_map (λ r. r.now.verb) o → v ≡ verb_by the_row
  row_verb o v found e = e ∙ each o ∙ ap verb_by (sym found.row)
    where
      each : (y : Option (Bor (Row V))) → option_map (λ r. r.now.verb) y ≡ verb_by (command_in y)
      each None = refl
      each (Some r) = refl

  pub asks_it : (room : ℕ) (o : Option (Bor (Row V))) (a : Asked V) → FoundRow table text o → TableFits room (rows_of table) → Some a.verb ≡ option_map (λ r. r.now.verb) o
      → IsSomeAnd o (λ r. GivenFits (forms_of r.now.kinds.now) a.given) → Asks the_row a
  asks_it room None a found f v g = absurd g
  asks_it room (Some r) a found f v g =
      let h : CommandFits room (command_of r.now) = table_fits room (rows_of table) f (first_of text) (command_of r.now) found.row in
      let e : a.verb ≡ r.now.verb = cc in
      subst⁻¹ (λ (c : Option (Command V)). Asks c a) found.row (e, h.0, g)

-- what the arguments of a command are, or why they are none
pub refused_said : {V : Type 0} (x : Result (Asked V) (Refused V)) (y : Result Given Refusal) (e : Refused V) (ys : List ℕ) (s : Said) → x ≡ Err e → y ≡ Err e.refusal
    → said_by y ys ≡ s → said_by (given_of x) ys ≡ s
refused_said x y e ys s f g h = ap (λ (z : Result (Asked _) (Refused _)). said_by (given_of z) ys) f ∙ ap (λ (z : Result Given Refusal). said_by z ys) (sym g) ∙ h

pub allowed : (fs : List Form) (y : Result Given Refusal) (x : Given) → y ≡ Ok x → IfOk y (λ g. GivenFits fs g) → GivenFits fs x
allowed fs y x e h = subst (λ (z : Result Given Refusal). IfOk z (λ g. GivenFits fs g)) e h

-- ---- what a program knows of what was asked for

pub asked_verb : {V : Type 0} (other : V) (row : Option (Command V)) (a : Asked V) → Asks row a → a.verb ≡ verb_in other row
asked_verb other None a h = absurd h
asked_verb other (Some c) a h = h.0

-- the verb of a command, or the one that stands where there is none
pub verb_or_other : {V : Type 0} (other : V) (row : Option (Command V)) → unwrap_or (verb_by row) other ≡ verb_in other row
verb_or_other other None = refl
verb_or_other other (Some c) = refl

-- what the arguments of every row allow, the arguments have
module _ {V : Type 0} (Allowed : V → Given → Type 0) (room : ℕ) (ns : List (Named (Command V))) (fit : TableFits room ns)
    (allow : Each (λ (c : Command V). (g : Given) → GivenFits c.2 g → Allowed c.0 g) ns) (w : List ℕ) (a : Asked V) where
  asked_by : (row : Option (Command V)) → row_in ns w ≡ row → Asks row a
      → (a.given.end ≤ room) × ((j : ℕ) → get_or (take a.given.count a.given.numbers) j 0 ≡ get_or a.given.numbers j 0) × Allowed a.verb a.given
  asked_by None e h = absurd h
  asked_by (Some c) e (v, few, g) =
      let f : CommandFits room c = table_fits room ns fit w c e in (
        omega (arith, f.1, g.end),
        looked_up c.2 a.given.count a.given.numbers g.numbers,
        subst⁻¹ (λ (x : V). Allowed x a.given) v (each_row (λ (c : Command V). (g : Given) → GivenFits c.2 g → Allowed c.0 g) ns allow w c e a.given g),
      )

  pub asked_allowed : Asks (row_in ns w) a
      → (a.given.end ≤ room) × ((j : ℕ) → get_or (take a.given.count a.given.numbers) j 0 ≡ get_or a.given.numbers j 0) × Allowed a.verb a.given
  asked_allowed h = asked_by (row_in ns w) refl h
